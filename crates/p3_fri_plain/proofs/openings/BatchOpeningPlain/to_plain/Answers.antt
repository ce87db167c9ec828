use Rattle.std.specs.Prelude.{ℕ, List, map}
use Rattle.std.specs.List.{Any}
use Rattle.std.proofs.Common.{sym, ◌∙◌, ap, subst, inl, inr}
use Rattle.p3_fri_plain.specs.Faults.{ElementFault}
use Rattle.p3_fri_plain.proofs.Nested.{lists_same, nested_same, entries_same}
use Rattle.p3_fri_plain.proofs.openings.BatchOpeningPlain.to_plain.Goals as goal

pub returns-clause-numbers : goal.returns-clause-numbers
returns-clause-numbers g c = λ i. record {
  rows = (sym (nested_same c.in_ok-to_plain.field-0.items)
      ∙ c.in_ok-to_plain.ensures.numbers
      ∙ ap (λ (rows : List (List (List g.row.F.Denot))).
      map (map (map g.F.PrimeField64.canonical)) rows)
      (nested_same c.args.value.now.opened_values.items)) i;
  path = (c.in_ok-to_plain-2.ensures.numbers ∙ entries_same _
      ∙ lists_same c.args.value.now.opening_proof.items) i;
}

pub returns-clause-faultless : goal.returns-clause-faultless
returns-clause-faultless g c error fault = elim fault [
  | inl f ↦ c.in_ok-to_plain.ensures.faultless error
      (subst (λ (rows : List (List (List ℕ))).
      Any (Any (Any (ElementFault g.F.PrimeField64.ORDER_U64 error))) rows)
      (sym (nested_same c.in_ok-to_plain.field-0.items)) f)
  | inr f ↦ c.in_ok-to_plain-2.ensures.faultless error f
]
