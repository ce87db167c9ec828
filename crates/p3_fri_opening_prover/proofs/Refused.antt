-- Why an opening stops, from why the test inside it does.
use Rattle.std.proofs.Common.{◌<◌, ℕ, inl, inr, List, All, Option, Result, Ok, Err, arith}
use Rattle.std.specs.Prelude.{IfErr}
use Rattle.p3_matrix.specs.declared.dense.RowMajorMatrix.{RowMajorMatrix}
use Rattle.p3_fri_folding.specs.declared.error.FriProverError.{FriProverError}
use Rattle.p3_fri_folding.specs.declared.error.FriProverError.TheVariants.{InputHeightTooSmall}
use Rattle.p3_fri_folding.specs.declared.error.FriProverError.TheVariants.{FinalHeightOverflow}
use Rattle.p3_fri_folding.specs.declared.error.FriProverError.TheVariants.{PointInEvaluationDomain}
use Rattle.p3_fri_folding.specs.declared.error.FriProverError.TheVariants.{NoPowWitness, OutOfMemory}
use Rattle.p3_fri_folding.specs.declared.pow_phase.PowPhase.TheVariants.{Batch, CommitPhase, Query}
use Rattle.p3_fri_relation.specs.Setting.{Setting, Parameters}
use Rattle.p3_fri_batch.specs.Words.{Opened}
use Rattle.p3_fri_prover.specs.Prover.{ProverRefusal}
use Rattle.p3_fri_relation.specs.TallEnough.{IsTallEnough}
use Rattle.p3_fri_opening_prover.specs.Setting.{OpeningSetting}
use Rattle.p3_fri_opening_prover.specs.Opening.{StopsInTest, OpeningStops}
use Rattle.p3_fri_opening_prover.specs.Refusals.{LeavesState}

module _ {F E C Com Data Path InCom InPath : Type 0} (s : Setting F E C Com Path InCom InPath)
    (committed : Data → List (RowMajorMatrix E)) (commitment_of : Data → Com) (p : Parameters) where
  module _ (heights : List ℕ) (top : ℕ) (words : List (List E)) (c : C)
      (solution : C → ℕ → Option F) where
    abbrev Refused : FriProverError → Type 0
    Refused e = ProverRefusal s committed commitment_of p heights top words c solution e

    -- of words that are tall enough, below 64, none is one of the checks
    not_of_checks : All (IsTallEnough p) heights → All (λ h. h < 64) heights
        → (e : FriProverError) → Refused e → ¬ LeavesState e
    not_of_checks tall below (InputHeightTooSmall h final) (inl r) leaves =
        let above = tall r.place 0 r.within r.cause.0 in
        absurd (omega (arith, above, r.cause.1))
    not_of_checks tall below (InputHeightTooSmall h final) (inr r) leaves = absurd r.1
    not_of_checks tall below FinalHeightOverflow (inl r) leaves =
        let above = tall r.place 0 r.within r.cause.0 in
        let low = below r.place 0 r.within in
        absurd (omega (arith, above, low, r.cause.1))
    not_of_checks tall below FinalHeightOverflow (inr r) leaves = absurd r.1
    not_of_checks tall below (PointInEvaluationDomain a b d) (inl r) leaves = absurd r.cause
    not_of_checks tall below (PointInEvaluationDomain a b d) (inr r) leaves = absurd r.1
    not_of_checks tall below (NoPowWitness phase) r leaves = absurd leaves
    not_of_checks tall below OutOfMemory r leaves = absurd leaves

    -- nor of the refusals in a result
    pub no_check_refused : {T : Type 0} → All (IsTallEnough p) heights → All (λ h. h < 64) heights
        → (r : Result T FriProverError) → IfErr r Refused → IfErr r (λ e. ¬ LeavesState e)
    no_check_refused tall below (Ok proof) h = tt
    no_check_refused tall below (Err e) h = not_of_checks tall below e h

-- what stops the test stops the opening
module _ {F E C D Data Com Path InCom InPath : Type 0}
    (r : OpeningSetting F E C D Data Com Path InCom InPath) (ms : List (Opened F E))
    (values : List (List (List (List E)))) (c : C) where
  batch_not_inside : StopsInTest r ms values c (NoPowWitness Batch) → ⊥
  batch_not_inside x = elim (x.refused) [ inl h ↦ absurd h.cause | inr h ↦ absurd h.1 ]

  pub stops : (e : FriProverError) → StopsInTest r ms values c e → OpeningStops r ms values c e
  stops (NoPowWitness Batch) x = absurd (batch_not_inside x)
  stops (NoPowWitness CommitPhase) x = x
  stops (NoPowWitness Query) x = x
  stops OutOfMemory x = tt
  stops (InputHeightTooSmall h final) x = x
  stops FinalHeightOverflow x = x
  stops (PointInEvaluationDomain a b d) x = x
