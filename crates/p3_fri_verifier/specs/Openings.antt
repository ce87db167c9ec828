-- The openings of a proof, whose positions and challenges are known.
use Rattle.std.specs.Prelude.{◌≡◌, ℕ, List, All, length}
use Rattle.p3_fri_relation.specs.Setting.{Setting, Parameters, CommitmentClaim, Proof}
use Rattle.p3_fri_relation.specs.Heights.{matrices_of}
use Rattle.p3_fri_relation.specs.Inputs.{HasPoints}
use Rattle.p3_fri_relation.specs.Acceptance.{AreOpeningsGood}

-- the claims have points, each commitment has its opening, and all openings are good
pub record AreOpened {F E C Com Path InCom InPath : Type 0}
    (s : Setting F E C Com Path InCom InPath) (p : Parameters)
    (claims : List (CommitmentClaim E InCom)) (proof : Proof F E Com Path InPath) (alpha : E)
    (betas : List E) (positions : List ℕ) : Type 0 where
  pub points : All HasPoints (matrices_of claims)
  pub count : length proof.inputs ≡ length claims
  pub good : AreOpeningsGood s p claims proof alpha betas positions
