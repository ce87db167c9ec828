-- Why a prover refuses.
use Rattle.std.specs.Prelude.{ℕ, ◌<◌, List, length, slice_index, Option, ⊤}
use Rattle.algebra.specs.Field.{FieldOps}
use Rattle.p3_challenger_core.specs.Run.{Moves}
use Rattle.p3_matrix.specs.declared.dense.RowMajorMatrix.{RowMajorMatrix}
use Rattle.p3_fri_folding.specs.declared.error.FriProverError.TheVariants.{NoPowWitness, OutOfMemory}
use Rattle.p3_fri_folding.specs.declared.pow_phase.PowPhase.TheVariants.{CommitPhase}
use Rattle.p3_fri_folding.specs.declared.error.FriProverError.{FriProverError}
use Rattle.p3_fri_relation.specs.TallEnough.{HeightRefusal}
use Rattle.p3_fri_relation.specs.Setting.{Parameters}
use Rattle.p3_fri_prover.specs.Rounds.{IsRoundRefused, NoRoundWitness}

-- why one of several log heights is refused
pub record HeightsRefusal (p : Parameters) (heights : List ℕ) (e : FriProverError) : Type 0 where
  pub place : ℕ
  pub within : place < length heights
  pub cause : HeightRefusal p (slice_index heights place) e

module _ {E Com Data C F : Type 0} (committed : Data → List (RowMajorMatrix E))
    (commitment_of : Data → Com) (m : Moves C F E Com) (bits : ℕ) where
  -- why a round is refused
  abbrev pub RoundRefusal : (log_arity : ℕ) (word : List E) (before : C) → FriProverError → Type 0
  RoundRefusal log_arity word before (NoPowWitness CommitPhase) =
      IsRoundRefused committed commitment_of m bits log_arity word before
  RoundRefusal log_arity word before OutOfMemory = ⊤
  RoundRefusal log_arity word before _ = ⊥

  -- why the rounds are
  abbrev pub RoundsRefusal : (zero : F) → (solution : C → ℕ → Option F) → FieldOps E
      → (ℕ → ℕ → ℕ → E → List E → E) → (ℕ → Option (List E)) → (top : ℕ) (first : List E)
      (start : C) (log_arities : List ℕ) → FriProverError → Type 0
  RoundsRefusal zero solution ops fold inputs top first start log_arities
      (NoPowWitness CommitPhase) =
      NoRoundWitness committed commitment_of m bits zero solution ops fold inputs top first start
      log_arities
  RoundsRefusal zero solution ops fold inputs top first start log_arities OutOfMemory = ⊤
  RoundsRefusal zero solution ops fold inputs top first start log_arities _ = ⊥
