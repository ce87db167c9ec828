use Rattle.std.proofs.lemmas.List.{map-id}
use Rattle.p3_fri_plain.specs.Faults.{ProofFault, InBatchWitness, InCommitments}
use Rattle.p3_fri_plain.specs.Faults.{InCommitWitnesses, InInputs, InRounds, InFinalPoly}
use Rattle.p3_fri_plain.specs.Faults.{InQueryWitness}
use Rattle.p3_fri_plain.specs.Views.{proof_listed}
use Rattle.p3_fri_plain.proofs.PassedOn.{passed_on}
use Rattle.std.proofs.lemmas.Result.{IfOk-from_err}
use Rattle.p3_fri_plain.proofs.proof.TwoAdicFriProofPlain.from_plain.Goals as goal

pub returns-in_err-from_plain-clause-err : goal.returns-in_err-from_plain-clause-err
returns-in_err-from_plain-clause-err g c =
    passed_on c.from_residual.result c.in_err-from_plain.field-0.0
    (λ e. ProofFault g.F.PrimeField64.ORDER_U64 g.EF.ExtensionField.DIMENSION e
    (proof_listed c.args.form.now))
    c.from_residual.ensures.1
    (λ other. InBatchWitness (c.in_err-from_plain.ensures.err other))

pub returns-in_err-from_plain-2-clause-err : goal.returns-in_err-from_plain-2-clause-err
returns-in_err-from_plain-2-clause-err g c =
    passed_on c.from_residual-in_err-from_plain-2.result c.in_err-from_plain-2.field-0.0
    (λ e. ProofFault g.F.PrimeField64.ORDER_U64 g.EF.ExtensionField.DIMENSION e
    (proof_listed c.args.form.now))
    c.from_residual-in_err-from_plain-2.ensures.1
    (λ other. InCommitments (c.in_err-from_plain-2.ensures.err other))

pub returns-in_err-from_plain-3-clause-err : goal.returns-in_err-from_plain-3-clause-err
returns-in_err-from_plain-3-clause-err g c =
    passed_on c.from_residual-in_err-from_plain-3.result c.in_err-from_plain-3.field-0.0
    (λ e. ProofFault g.F.PrimeField64.ORDER_U64 g.EF.ExtensionField.DIMENSION e
    (proof_listed c.args.form.now))
    c.from_residual-in_err-from_plain-3.ensures.1
    (λ other. InCommitWitnesses (simp map-id at (c.in_err-from_plain-3.ensures.err other)))

pub returns-in_err-from_plain-4-clause-err : goal.returns-in_err-from_plain-4-clause-err
returns-in_err-from_plain-4-clause-err g c =
    passed_on c.from_residual-in_err-from_plain-4.result c.in_err-from_plain-4.field-0.0
    (λ e. ProofFault g.F.PrimeField64.ORDER_U64 g.EF.ExtensionField.DIMENSION e
    (proof_listed c.args.form.now))
    c.from_residual-in_err-from_plain-4.ensures.1
    (λ other. InInputs (c.in_err-from_plain-4.ensures.err other))

pub returns-in_err-from_plain-5-clause-err : goal.returns-in_err-from_plain-5-clause-err
returns-in_err-from_plain-5-clause-err g c =
    passed_on c.from_residual-in_err-from_plain-5.result c.in_err-from_plain-5.field-0.0
    (λ e. ProofFault g.F.PrimeField64.ORDER_U64 g.EF.ExtensionField.DIMENSION e
    (proof_listed c.args.form.now))
    c.from_residual-in_err-from_plain-5.ensures.1
    (λ other. InRounds (c.in_err-from_plain-5.ensures.err other))

pub returns-in_err-from_plain-6-clause-err : goal.returns-in_err-from_plain-6-clause-err
returns-in_err-from_plain-6-clause-err g c =
    passed_on c.from_residual-in_err-from_plain-6.result c.in_err-from_plain-6.field-0.0
    (λ e. ProofFault g.F.PrimeField64.ORDER_U64 g.EF.ExtensionField.DIMENSION e
    (proof_listed c.args.form.now))
    c.from_residual-in_err-from_plain-6.ensures.1
    (λ other. InFinalPoly (c.in_err-from_plain-6.ensures.err other))

pub returns-in_err-from_plain-7-clause-err : goal.returns-in_err-from_plain-7-clause-err
returns-in_err-from_plain-7-clause-err g c =
    passed_on c.from_residual-in_err-from_plain-7.result c.in_err-from_plain-7.field-0.0
    (λ e. ProofFault g.F.PrimeField64.ORDER_U64 g.EF.ExtensionField.DIMENSION e
    (proof_listed c.args.form.now))
    c.from_residual-in_err-from_plain-7.ensures.1
    (λ other. InQueryWitness (c.in_err-from_plain-7.ensures.err other))

pub returns-clause-ok : goal.returns-clause-ok
returns-clause-ok g c = λ i. record {
  batch_witness = c.in_ok-from_plain.ensures.ok i;
  commitments = (simp map-id at c.in_ok-from_plain-2.ensures.ok) i;
  commit_witnesses = (simp map-id at c.in_ok-from_plain-3.ensures.ok) i;
  inputs = c.in_ok-from_plain-4.ensures.ok i;
  rounds = c.in_ok-from_plain-5.ensures.ok i;
  final_poly = (simp map-id at c.in_ok-from_plain-6.ensures.ok) i;
  query_witness = c.in_ok-from_plain-7.ensures.ok i;
}

pub returns-clause-faultless : goal.returns-clause-faultless
returns-clause-faultless g c error fault = elim fault [
  | InBatchWitness f ↦ c.in_ok-from_plain.ensures.faultless error f
  | InCommitments f ↦ c.in_ok-from_plain-2.ensures.faultless error f
  | InCommitWitnesses f ↦ (simp map-id at (c.in_ok-from_plain-3.ensures.faultless error)) f
  | InInputs f ↦ c.in_ok-from_plain-4.ensures.faultless error f
  | InRounds f ↦ c.in_ok-from_plain-5.ensures.faultless error f
  | InFinalPoly f ↦ c.in_ok-from_plain-6.ensures.faultless error f
  | InQueryWitness f ↦ c.in_ok-from_plain-7.ensures.faultless error f
]

-- where nothing is answered nothing is said of the answer
pub returns-clause-err : goal.returns-clause-err
returns-clause-err g c = tt

pub returns-in_err-from_plain-2-clause-faultless : goal.returns-in_err-from_plain-2-clause-faultless
returns-in_err-from_plain-2-clause-faultless g c =
    IfOk-from_err c.from_residual-in_err-from_plain-2.result _ c.from_residual-in_err-from_plain-2.ensures.0

pub returns-in_err-from_plain-2-clause-ok : goal.returns-in_err-from_plain-2-clause-ok
returns-in_err-from_plain-2-clause-ok g c =
    IfOk-from_err c.from_residual-in_err-from_plain-2.result _ c.from_residual-in_err-from_plain-2.ensures.0

pub returns-in_err-from_plain-3-clause-faultless : goal.returns-in_err-from_plain-3-clause-faultless
returns-in_err-from_plain-3-clause-faultless g c =
    IfOk-from_err c.from_residual-in_err-from_plain-3.result _ c.from_residual-in_err-from_plain-3.ensures.0

pub returns-in_err-from_plain-3-clause-ok : goal.returns-in_err-from_plain-3-clause-ok
returns-in_err-from_plain-3-clause-ok g c =
    IfOk-from_err c.from_residual-in_err-from_plain-3.result _ c.from_residual-in_err-from_plain-3.ensures.0

pub returns-in_err-from_plain-4-clause-faultless : goal.returns-in_err-from_plain-4-clause-faultless
returns-in_err-from_plain-4-clause-faultless g c =
    IfOk-from_err c.from_residual-in_err-from_plain-4.result _ c.from_residual-in_err-from_plain-4.ensures.0

pub returns-in_err-from_plain-4-clause-ok : goal.returns-in_err-from_plain-4-clause-ok
returns-in_err-from_plain-4-clause-ok g c =
    IfOk-from_err c.from_residual-in_err-from_plain-4.result _ c.from_residual-in_err-from_plain-4.ensures.0

pub returns-in_err-from_plain-5-clause-faultless : goal.returns-in_err-from_plain-5-clause-faultless
returns-in_err-from_plain-5-clause-faultless g c =
    IfOk-from_err c.from_residual-in_err-from_plain-5.result _ c.from_residual-in_err-from_plain-5.ensures.0

pub returns-in_err-from_plain-5-clause-ok : goal.returns-in_err-from_plain-5-clause-ok
returns-in_err-from_plain-5-clause-ok g c =
    IfOk-from_err c.from_residual-in_err-from_plain-5.result _ c.from_residual-in_err-from_plain-5.ensures.0

pub returns-in_err-from_plain-6-clause-faultless : goal.returns-in_err-from_plain-6-clause-faultless
returns-in_err-from_plain-6-clause-faultless g c =
    IfOk-from_err c.from_residual-in_err-from_plain-6.result _ c.from_residual-in_err-from_plain-6.ensures.0

pub returns-in_err-from_plain-6-clause-ok : goal.returns-in_err-from_plain-6-clause-ok
returns-in_err-from_plain-6-clause-ok g c =
    IfOk-from_err c.from_residual-in_err-from_plain-6.result _ c.from_residual-in_err-from_plain-6.ensures.0

pub returns-in_err-from_plain-7-clause-faultless : goal.returns-in_err-from_plain-7-clause-faultless
returns-in_err-from_plain-7-clause-faultless g c =
    IfOk-from_err c.from_residual-in_err-from_plain-7.result _ c.from_residual-in_err-from_plain-7.ensures.0

pub returns-in_err-from_plain-7-clause-ok : goal.returns-in_err-from_plain-7-clause-ok
returns-in_err-from_plain-7-clause-ok g c =
    IfOk-from_err c.from_residual-in_err-from_plain-7.result _ c.from_residual-in_err-from_plain-7.ensures.0

pub returns-in_err-from_plain-clause-faultless : goal.returns-in_err-from_plain-clause-faultless
returns-in_err-from_plain-clause-faultless g c =
    IfOk-from_err c.from_residual.result _ c.from_residual.ensures.0

pub returns-in_err-from_plain-clause-ok : goal.returns-in_err-from_plain-clause-ok
returns-in_err-from_plain-clause-ok g c =
    IfOk-from_err c.from_residual.result _ c.from_residual.ensures.0
