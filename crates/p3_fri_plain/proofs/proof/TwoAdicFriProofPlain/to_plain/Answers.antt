use Rattle.std.proofs.lemmas.List.{map-id}
use Rattle.p3_fri_plain.specs.Faults.{InBatchWitness, InCommitments, InCommitWitnesses, InInputs}
use Rattle.p3_fri_plain.specs.Faults.{InRounds, InFinalPoly, InQueryWitness}
use Rattle.std.proofs.lemmas.Result.{IfOk-from_err}
use Rattle.p3_fri_plain.proofs.proof.TwoAdicFriProofPlain.to_plain.Goals as goal

pub returns-clause-numbers : goal.returns-clause-numbers
returns-clause-numbers g c = λ i. record {
  batch_witness = c.in_ok-to_plain.ensures.numbers i;
  commitments = (simp map-id at c.in_ok-to_plain-2.ensures.numbers) i;
  commit_witnesses = (simp map-id at c.in_ok-to_plain-3.ensures.numbers) i;
  inputs = c.in_ok-to_plain-4.ensures.numbers i;
  rounds = c.in_ok-to_plain-5.ensures.numbers i;
  final_poly = (simp map-id at c.in_ok-to_plain-6.ensures.numbers) i;
  query_witness = c.in_ok-to_plain-7.ensures.numbers i;
}

pub returns-clause-faultless : goal.returns-clause-faultless
returns-clause-faultless g c error fault = elim fault [
  | InBatchWitness f ↦ c.in_ok-to_plain.ensures.faultless error f
  | InCommitments f ↦ c.in_ok-to_plain-2.ensures.faultless error f
  | InCommitWitnesses f ↦ (simp map-id at (c.in_ok-to_plain-3.ensures.faultless error)) f
  | InInputs f ↦ c.in_ok-to_plain-4.ensures.faultless error f
  | InRounds f ↦ c.in_ok-to_plain-5.ensures.faultless error f
  | InFinalPoly f ↦ c.in_ok-to_plain-6.ensures.faultless error f
  | InQueryWitness f ↦ c.in_ok-to_plain-7.ensures.faultless error f
]

-- where nothing is answered nothing is said of the answer
pub returns-in_err-to_plain-2-clause-faultless : goal.returns-in_err-to_plain-2-clause-faultless
returns-in_err-to_plain-2-clause-faultless g c =
    IfOk-from_err c.from_residual-in_err-to_plain-2.result _ c.from_residual-in_err-to_plain-2.ensures.0

pub returns-in_err-to_plain-2-clause-numbers : goal.returns-in_err-to_plain-2-clause-numbers
returns-in_err-to_plain-2-clause-numbers g c =
    IfOk-from_err c.from_residual-in_err-to_plain-2.result _ c.from_residual-in_err-to_plain-2.ensures.0

pub returns-in_err-to_plain-3-clause-faultless : goal.returns-in_err-to_plain-3-clause-faultless
returns-in_err-to_plain-3-clause-faultless g c =
    IfOk-from_err c.from_residual-in_err-to_plain-3.result _ c.from_residual-in_err-to_plain-3.ensures.0

pub returns-in_err-to_plain-3-clause-numbers : goal.returns-in_err-to_plain-3-clause-numbers
returns-in_err-to_plain-3-clause-numbers g c =
    IfOk-from_err c.from_residual-in_err-to_plain-3.result _ c.from_residual-in_err-to_plain-3.ensures.0

pub returns-in_err-to_plain-4-clause-faultless : goal.returns-in_err-to_plain-4-clause-faultless
returns-in_err-to_plain-4-clause-faultless g c =
    IfOk-from_err c.from_residual-in_err-to_plain-4.result _ c.from_residual-in_err-to_plain-4.ensures.0

pub returns-in_err-to_plain-4-clause-numbers : goal.returns-in_err-to_plain-4-clause-numbers
returns-in_err-to_plain-4-clause-numbers g c =
    IfOk-from_err c.from_residual-in_err-to_plain-4.result _ c.from_residual-in_err-to_plain-4.ensures.0

pub returns-in_err-to_plain-5-clause-faultless : goal.returns-in_err-to_plain-5-clause-faultless
returns-in_err-to_plain-5-clause-faultless g c =
    IfOk-from_err c.from_residual-in_err-to_plain-5.result _ c.from_residual-in_err-to_plain-5.ensures.0

pub returns-in_err-to_plain-5-clause-numbers : goal.returns-in_err-to_plain-5-clause-numbers
returns-in_err-to_plain-5-clause-numbers g c =
    IfOk-from_err c.from_residual-in_err-to_plain-5.result _ c.from_residual-in_err-to_plain-5.ensures.0

pub returns-in_err-to_plain-6-clause-faultless : goal.returns-in_err-to_plain-6-clause-faultless
returns-in_err-to_plain-6-clause-faultless g c =
    IfOk-from_err c.from_residual-in_err-to_plain-6.result _ c.from_residual-in_err-to_plain-6.ensures.0

pub returns-in_err-to_plain-6-clause-numbers : goal.returns-in_err-to_plain-6-clause-numbers
returns-in_err-to_plain-6-clause-numbers g c =
    IfOk-from_err c.from_residual-in_err-to_plain-6.result _ c.from_residual-in_err-to_plain-6.ensures.0

pub returns-in_err-to_plain-7-clause-faultless : goal.returns-in_err-to_plain-7-clause-faultless
returns-in_err-to_plain-7-clause-faultless g c =
    IfOk-from_err c.from_residual-in_err-to_plain-7.result _ c.from_residual-in_err-to_plain-7.ensures.0

pub returns-in_err-to_plain-7-clause-numbers : goal.returns-in_err-to_plain-7-clause-numbers
returns-in_err-to_plain-7-clause-numbers g c =
    IfOk-from_err c.from_residual-in_err-to_plain-7.result _ c.from_residual-in_err-to_plain-7.ensures.0

pub returns-in_err-to_plain-clause-faultless : goal.returns-in_err-to_plain-clause-faultless
returns-in_err-to_plain-clause-faultless g c =
    IfOk-from_err c.from_residual.result _ c.from_residual.ensures.0

pub returns-in_err-to_plain-clause-numbers : goal.returns-in_err-to_plain-clause-numbers
returns-in_err-to_plain-clause-numbers g c =
    IfOk-from_err c.from_residual.result _ c.from_residual.ensures.0
