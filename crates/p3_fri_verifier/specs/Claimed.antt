-- The parameters and the falling log heights of an instance, each by itself.
use Rattle.std.specs.Prelude.{◌≡◌, ◌≢◌, ◌==◌, ℕ, ◌-◌, ◌<◌, ◌≤◌, Bool, List, [], All, length, take}
use Rattle.std.specs.Prelude.{slice_index}
use Rattle.std.specs.List.{list_any}
use Rattle.p3_mmcs.specs.declared.openings.CommitmentOpening.{CommitmentOpening}
use Rattle.p3_fri_folding.specs.Schedule.{tallest}
use Rattle.p3_fri_relation.specs.declared.error.FriError.{FriError}
use Rattle.p3_fri_relation.specs.declared.error.FriError.TheVariants.{ZeroQueries, ZeroBlowup}
use Rattle.p3_fri_relation.specs.declared.error.FriError.TheVariants.{ZeroFoldingArity}
use Rattle.p3_fri_relation.specs.declared.error.FriError.TheVariants.{NoCommittedMatrices}
use Rattle.p3_fri_relation.specs.declared.error.FriError.TheVariants.{GlobalMaxHeightTooLarge}
use Rattle.p3_fri_relation.specs.declared.error.FriError.TheVariants.{FinalFoldHeightMismatch}
use Rattle.p3_fri_relation.specs.declared.error.FriError.TheVariants.{UnconsumedReducedOpenings}
use Rattle.p3_fri_relation.specs.Setting.{Parameters}

-- where `log_size` gives the logarithm of a domain's size: whether some claimed matrix has it
abbrev pub has_size : {E InCom Domain : Type 0} → (log_size : Domain → ℕ)
    → List (CommitmentOpening E InCom Domain) → ℕ → Bool
has_size log_size claims n =
    list_any (λ c. list_any (λ m. log_size m.domain == n) c.matrices.items) claims

-- the parameters that may not be zero
pub record ArePositive (p : Parameters) : Type 0 where
  pub queries : 0 < p.num_queries
  pub blowup : 0 < p.log_blowup
  pub cap : 0 < p.max_log_arity

abbrev pub ParameterFault : {A B : Type 0} → (p : Parameters) → FriError A B → Type 0
ParameterFault p ZeroQueries = p.num_queries ≡ 0
ParameterFault p ZeroBlowup = p.log_blowup ≡ 0
ParameterFault p ZeroFoldingArity = p.max_log_arity ≡ 0
ParameterFault p _ = ⊥

-- the height at this place is `next`, the first below the final one
pub record IsFirstBelow (final : ℕ) (heights : List ℕ) (place next : ℕ) : Type 0 where
  pub within : place < length heights
  pub next_is : next ≡ slice_index heights place
  pub below : next < final
  pub before : All (λ h. final ≤ h) (take place heights)

-- log heights that fall, in a field of this two-adicity
module _ (final two_adicity : ℕ) (heights : List ℕ) where
  pub record AreHeightsInRange : Type 0 where
    pub some_height : heights ≢ []
    pub within_two_adicity : tallest heights ≤ two_adicity
    pub tall_enough : All (λ h. final ≤ h) heights

  abbrev pub HeightFault : {A B : Type 0} → FriError A B → Type 0
  HeightFault NoCommittedMatrices = heights ≡ []
  HeightFault (GlobalMaxHeightTooLarge top greatest) =
      (top ≡ tallest heights) × (greatest ≡ two_adicity) × (greatest < top)
  HeightFault (FinalFoldHeightMismatch expected got) =
      (expected ≡ final) × (got ≡ tallest heights) × (got < expected)
  HeightFault (UnconsumedReducedOpenings next remaining) =
      (place : ℕ) × (0 < place) × (remaining ≡ length heights - place)
      × IsFirstBelow final heights place next
  HeightFault _ = ⊥
