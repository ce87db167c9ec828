-- What is accepted of a scheme that hides, what makes a refusal a true one, and which refusals
-- leave a verifier's challenger as it was.
use Rattle.std.specs.Prelude.{◌⊎◌, ℕ, List, Option, ⊤}
use Rattle.p3_fri_relation.specs.declared.error.FriError.{FriError}
use Rattle.p3_fri_relation.specs.declared.error.FriError as refusal
use refusal.TheVariants.{HidingRandomOpeningRoundCountMismatch}
use refusal.TheVariants.{HidingRandomOpeningMatrixCountMismatch}
use refusal.TheVariants.{HidingRandomOpeningPointCountMismatch}
use refusal.TheVariants.{HidingRandomOpeningValueCountMismatch}
use refusal.TheVariants.{HidingPreprocessedCommitmentOutOfBounds}
use refusal.TheVariants.{InsufficientHidingRandomCodewords, HidingBudgetExceeded}
use Rattle.p3_fri_relation.specs.Setting.{Setting, Parameters, CommitmentClaim, Proof}
use Rattle.p3_fri_relation.specs.Acceptance.{Accepts}
use Rattle.p3_fri_relation.specs.Faults.{StandsInScheme}
use Rattle.p3_fri_opening_verifier.specs.Accepted.{LeavesVerifier}
use Rattle.p3_fri_hiding_openings.specs.RandomValues.{MayAppend, with_random_values}
use Rattle.p3_fri_hiding_openings.specs.RandomFaults.{HidingFaults}

module _ {F E C Com Path InCom InPath : Type 0} (s : Setting F E C Com Path InCom InPath)
    (p : Parameters) (num_random : ℕ) (preprocessing : Option ℕ)
    (claims : List (CommitmentClaim E InCom)) (random : List (List (List (List E))))
    (proof : Proof F E Com Path InPath) (c : C) where
  -- the random values may be appended, and the plain relation holds of the claims with them
  pub record HidingAccepts : Type 0 where
    pub appends : MayAppend num_random p.num_queries s.fields.degree preprocessing claims random
    pub accepts : Accepts s p (with_random_values claims random) proof c

  -- a refusal names a fault of the random values, or where there is none one of the claims with
  -- them
  abbrev pub StandsInHidingScheme : {A B : Type 0} → FriError A B → Type 0
  StandsInHidingScheme e =
      HidingFaults num_random p.num_queries s.fields.degree preprocessing claims random e
      ⊎ (MayAppend num_random p.num_queries s.fields.degree preprocessing claims random
      × StandsInScheme s p (with_random_values claims random) proof c e)

-- the refusals that leave a verifier's challenger as it was: those of the random values, and the
-- plain scheme's
abbrev pub LeavesHidingVerifier : {A B : Type 0} → FriError A B → Type 0
LeavesHidingVerifier (HidingRandomOpeningRoundCountMismatch expected got) = ⊤
LeavesHidingVerifier (HidingRandomOpeningMatrixCountMismatch round expected got) = ⊤
LeavesHidingVerifier (HidingRandomOpeningPointCountMismatch round matrix expected got) = ⊤
LeavesHidingVerifier (HidingRandomOpeningValueCountMismatch round matrix point expected got) = ⊤
LeavesHidingVerifier (HidingPreprocessedCommitmentOutOfBounds index num_rounds) = ⊤
LeavesHidingVerifier (InsufficientHidingRandomCodewords required got) = ⊤
LeavesHidingVerifier (HidingBudgetExceeded round matrix height queries points degree) = ⊤
LeavesHidingVerifier e = LeavesVerifier e
