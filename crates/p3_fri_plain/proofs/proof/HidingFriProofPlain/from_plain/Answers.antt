use Rattle.std.proofs.Common.{map, sym, ◌∙◌, ap, inl, inr}
use Rattle.p3_fri_plain.specs.Faults.{HidingProofFault}
use Rattle.p3_fri_plain.specs.Numbers.{AtPoints, coefficient_numbers}
use Rattle.p3_fri_plain.specs.Views.{hiding_listed}
use Rattle.p3_fri_plain.proofs.Nested.{deep_same}
use Rattle.p3_fri_plain.proofs.PassedOn.{passed_on}
use Rattle.std.proofs.lemmas.Result.{IfOk-from_err}
use Rattle.p3_fri_plain.proofs.proof.HidingFriProofPlain.from_plain.Goals as goal

pub returns-in_err-from_plain-clause-err : goal.returns-in_err-from_plain-clause-err
returns-in_err-from_plain-clause-err g c =
    passed_on c.from_residual.result c.in_err-from_plain.field-0.0
    (λ e. HidingProofFault g.F.PrimeField64.ORDER_U64
    g.EF.ExtensionField.DIMENSION e (hiding_listed c.args.form.now)) c.from_residual.ensures.1
    (λ other. inl (c.in_err-from_plain.ensures.err other))

pub returns-in_err-from_plain-2-clause-err : goal.returns-in_err-from_plain-2-clause-err
returns-in_err-from_plain-2-clause-err g c =
    passed_on c.from_residual-in_err-from_plain-2.result c.in_err-from_plain-2.field-0.0
    (λ e. HidingProofFault g.F.PrimeField64.ORDER_U64
    g.EF.ExtensionField.DIMENSION e (hiding_listed c.args.form.now))
    c.from_residual-in_err-from_plain-2.ensures.1
    (λ other. inr (c.in_err-from_plain-2.ensures.err other))

pub returns-clause-ok : goal.returns-clause-ok
returns-clause-ok g c = λ i. record {
  random_values = (ap (λ (values : AtPoints g.row.EF.Denot). map (map (map (map
      (coefficient_numbers g.F.PrimeField64.canonical g.EF.ExtensionField.coefficients)))) values)
      (sym (deep_same c.in_ok-from_plain.field-0.items))
      ∙ c.in_ok-from_plain.ensures.ok) i;
  proof = c.in_ok-from_plain-2.ensures.ok i;
}

pub returns-clause-faultless : goal.returns-clause-faultless
returns-clause-faultless g c error fault = elim fault [
  | inl f ↦ c.in_ok-from_plain.ensures.faultless error f
  | inr f ↦ c.in_ok-from_plain-2.ensures.faultless error f
]

-- where nothing is answered nothing is said of the answer
pub returns-clause-err : goal.returns-clause-err
returns-clause-err g c = tt

pub returns-in_err-from_plain-2-clause-faultless : goal.returns-in_err-from_plain-2-clause-faultless
returns-in_err-from_plain-2-clause-faultless g c =
    IfOk-from_err c.from_residual-in_err-from_plain-2.result _ c.from_residual-in_err-from_plain-2.ensures.0

pub returns-in_err-from_plain-2-clause-ok : goal.returns-in_err-from_plain-2-clause-ok
returns-in_err-from_plain-2-clause-ok g c =
    IfOk-from_err c.from_residual-in_err-from_plain-2.result _ c.from_residual-in_err-from_plain-2.ensures.0

pub returns-in_err-from_plain-clause-faultless : goal.returns-in_err-from_plain-clause-faultless
returns-in_err-from_plain-clause-faultless g c =
    IfOk-from_err c.from_residual.result _ c.from_residual.ensures.0

pub returns-in_err-from_plain-clause-ok : goal.returns-in_err-from_plain-clause-ok
returns-in_err-from_plain-clause-ok g c =
    IfOk-from_err c.from_residual.result _ c.from_residual.ensures.0
