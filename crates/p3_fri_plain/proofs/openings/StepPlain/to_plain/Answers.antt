use Rattle.std.specs.Prelude.{List, map}
use Rattle.std.proofs.Common.{◌∙◌, ap, inl, inr}
use Rattle.p3_fri_plain.specs.Numbers.{coefficient_numbers}
use Rattle.p3_fri_plain.proofs.Nested.{lists_same, entries_same}
use Rattle.std.proofs.lemmas.Result.{IfOk-from_err}
use Rattle.p3_fri_plain.proofs.openings.StepPlain.to_plain.Goals as goal

pub returns-clause-numbers : goal.returns-clause-numbers
returns-clause-numbers g c = λ i. record {
  siblings = (c.in_ok-to_plain.ensures.numbers
      ∙ ap (λ (rows : List (List g.row.EF.Denot)). map (map
      (coefficient_numbers g.F.PrimeField64.canonical g.EF.ExtensionField.coefficients)) rows)
      (lists_same c.args.value.now.sibling_values.items)) i;
  path = (c.in_ok-to_plain-2.ensures.numbers ∙ entries_same _
      ∙ lists_same c.args.value.now.opening_proof.items) i;
}

pub returns-clause-faultless : goal.returns-clause-faultless
returns-clause-faultless g c error fault = elim fault [
  | inl f ↦ c.in_ok-to_plain.ensures.faultless error f
  | inr f ↦ c.in_ok-to_plain-2.ensures.faultless error f
]

-- where nothing is answered nothing is said of the answer
pub returns-in_err-to_plain-2-clause-faultless : goal.returns-in_err-to_plain-2-clause-faultless
returns-in_err-to_plain-2-clause-faultless g c =
    IfOk-from_err c.from_residual-in_err-to_plain-2.result _ c.from_residual-in_err-to_plain-2.ensures.0

pub returns-in_err-to_plain-2-clause-numbers : goal.returns-in_err-to_plain-2-clause-numbers
returns-in_err-to_plain-2-clause-numbers g c =
    IfOk-from_err c.from_residual-in_err-to_plain-2.result _ c.from_residual-in_err-to_plain-2.ensures.0

pub returns-in_err-to_plain-clause-faultless : goal.returns-in_err-to_plain-clause-faultless
returns-in_err-to_plain-clause-faultless g c =
    IfOk-from_err c.from_residual.result _ c.from_residual.ensures.0

pub returns-in_err-to_plain-clause-numbers : goal.returns-in_err-to_plain-clause-numbers
returns-in_err-to_plain-clause-numbers g c =
    IfOk-from_err c.from_residual.result _ c.from_residual.ensures.0
