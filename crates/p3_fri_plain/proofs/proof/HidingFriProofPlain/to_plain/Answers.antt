use Rattle.std.proofs.Common.{map, ◌∙◌, ap, inl, inr}
use Rattle.p3_fri_plain.specs.Numbers.{AtPoints, coefficient_numbers}
use Rattle.p3_fri_plain.proofs.Nested.{deep_same}
use Rattle.std.proofs.lemmas.Result.{IfOk-from_err}
use Rattle.p3_fri_plain.proofs.proof.HidingFriProofPlain.to_plain.Goals as goal

pub returns-clause-numbers : goal.returns-clause-numbers
returns-clause-numbers g c = λ i. record {
  random_values = (c.in_ok-to_plain.ensures.numbers
      ∙ ap (λ (values : AtPoints g.row.EF.Denot). map (map (map (map
      (coefficient_numbers g.F.PrimeField64.canonical g.EF.ExtensionField.coefficients)))) values)
      (deep_same c.args.value.now.0.items)) i;
  proof = c.in_ok-to_plain-2.ensures.numbers i;
}

pub returns-clause-faultless : goal.returns-clause-faultless
returns-clause-faultless g c error fault = elim fault [
  | inl f ↦ c.in_ok-to_plain.ensures.faultless error f
  | inr f ↦ c.in_ok-to_plain-2.ensures.faultless error f
]

-- where nothing is answered nothing is said of the answer
pub returns-in_err-to_plain-2-clause-faultless : goal.returns-in_err-to_plain-2-clause-faultless
returns-in_err-to_plain-2-clause-faultless g c =
    IfOk-from_err c.from_residual-in_err-to_plain-2.result _ c.from_residual-in_err-to_plain-2.ensures.0

pub returns-in_err-to_plain-2-clause-numbers : goal.returns-in_err-to_plain-2-clause-numbers
returns-in_err-to_plain-2-clause-numbers g c =
    IfOk-from_err c.from_residual-in_err-to_plain-2.result _ c.from_residual-in_err-to_plain-2.ensures.0

pub returns-in_err-to_plain-clause-faultless : goal.returns-in_err-to_plain-clause-faultless
returns-in_err-to_plain-clause-faultless g c =
    IfOk-from_err c.from_residual.result _ c.from_residual.ensures.0

pub returns-in_err-to_plain-clause-numbers : goal.returns-in_err-to_plain-clause-numbers
returns-in_err-to_plain-clause-numbers g c =
    IfOk-from_err c.from_residual.result _ c.from_residual.ensures.0
