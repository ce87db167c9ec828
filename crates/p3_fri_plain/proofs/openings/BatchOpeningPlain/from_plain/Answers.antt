use Rattle.std.proofs.Common.{ℕ, List, map, sym, ◌∙◌, ap, subst, inl, inr}
use Rattle.std.specs.List.{Any}
use Rattle.p3_fri_plain.specs.Faults.{ElementFault, BatchFault}
use Rattle.p3_fri_plain.specs.Views.{batch_listed}
use Rattle.p3_fri_plain.proofs.Nested.{lists_same, nested_same, entries_same}
use Rattle.p3_fri_plain.proofs.PassedOn.{passed_on}
use Rattle.p3_fri_plain.proofs.openings.BatchOpeningPlain.from_plain.Goals as goal

pub returns-in_err-from_plain-clause-err : goal.returns-in_err-from_plain-clause-err
returns-in_err-from_plain-clause-err g c =
    let order = g.F.PrimeField64.ORDER_U64 in
    let e = c.in_err-from_plain.field-0.0 in
    passed_on c.from_residual.result e (λ e'. BatchFault order e' (batch_listed c.args.form.now))
    c.from_residual.ensures.1
    (λ other. inl (subst (λ (rows : List (List (List ℕ))). Any (Any (Any (ElementFault order e))) rows)
    (nested_same c.args.form.now.opened_values.items) (c.in_err-from_plain.ensures.err other)))

pub returns-in_err-from_plain-2-clause-err : goal.returns-in_err-from_plain-2-clause-err
returns-in_err-from_plain-2-clause-err g c =
    passed_on c.from_residual-in_err-from_plain-2.result c.in_err-from_plain-2.field-0.0
    (λ e. BatchFault g.F.PrimeField64.ORDER_U64 e (batch_listed c.args.form.now))
    c.from_residual-in_err-from_plain-2.ensures.1
    (λ other. inr (c.in_err-from_plain-2.ensures.err other))

pub returns-clause-ok : goal.returns-clause-ok
returns-clause-ok g c = λ i. record {
  rows = (ap (λ (rows : List (List (List g.row.F.Denot))).
      map (map (map g.F.PrimeField64.canonical)) rows)
      (sym (nested_same c.in_ok-from_plain.field-0.items))
      ∙ c.in_ok-from_plain.ensures.ok
      ∙ nested_same c.args.form.now.opened_values.items) i;
  path = (sym (lists_same c.in_ok-from_plain-2.field-0.items) ∙ sym (entries_same _)
      ∙ c.in_ok-from_plain-2.ensures.ok) i;
}

pub returns-clause-faultless : goal.returns-clause-faultless
returns-clause-faultless g c error fault = elim fault [
  | inl f ↦ c.in_ok-from_plain.ensures.faultless error
      (subst (λ (rows : List (List (List ℕ))).
      Any (Any (Any (ElementFault g.F.PrimeField64.ORDER_U64 error))) rows)
      (sym (nested_same c.args.form.now.opened_values.items)) f)
  | inr f ↦ c.in_ok-from_plain-2.ensures.faultless error f
]
