-- The refusal of a round is that of all, where the rounds before it pass.
use Rattle.std.proofs.Common.{◌≡◌, ℕ, ◌<◌, List, length, take, get_or, All, sym, subst}
use Rattle.p3_fri_folding.specs.declared.error.FriProverError.TheVariants.{InputHeightTooSmall}
use Rattle.p3_fri_folding.specs.declared.error.FriProverError.TheVariants.{FinalHeightOverflow}
use Rattle.p3_fri_folding.specs.declared.error.FriProverError.TheVariants.{OutOfMemory, NoPowWitness}
use Rattle.p3_fri_folding.specs.declared.error.FriProverError.TheVariants.{PointInEvaluationDomain}
use Rattle.p3_fri_folding.specs.declared.error.FriProverError.{FriProverError}
use Rattle.p3_fri_relation.specs.Setting.{Fields}
use Rattle.p3_fri_openings.specs.declared.round.OpeningRound.{OpeningRound}
use Rattle.p3_fri_openings.specs.Refusals.{ArePointsOff, IsFirstInRound, IsFirstOfAll, RoundPointRefusal, PointRefusal}
use Rattle.p3_fri_openings.proofs.First.{first_at}

module _ {F E : Type 0} (f : Fields F E) where
  pub refused_here : (rounds : List (OpeningRound F E)) (i : ℕ) (round : OpeningRound F E) (e : FriProverError)
      → i < length rounds → round ≡ get_or rounds i round → All (ArePointsOff f) (take i rounds)
      → RoundPointRefusal f i round e → PointRefusal f rounds e
  refused_here rounds i round (PointInEvaluationDomain r m p) h e before here =
      subst (λ j. IsFirstOfAll f j m p rounds) (sym here.0)
      (first_at (ArePointsOff f) (IsFirstInRound f m p) rounds i round h e before here.1)
  refused_here rounds i round (InputHeightTooSmall a b) h e before here = here
  refused_here rounds i round FinalHeightOverflow h e before here = here
  refused_here rounds i round OutOfMemory h e before here = here
  refused_here rounds i round (NoPowWitness phase) h e before here = here
