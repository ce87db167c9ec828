-- What refuses an opening of the plain scheme.
use Rattle.std.proofs.Common.{◌⊎◌, List, inl, inr}
use Rattle.p3_fri_folding.specs.declared.error.FriProverError.{FriProverError}
use Rattle.p3_fri_folding.specs.declared.error.FriProverError.TheVariants.{NoPowWitness, OutOfMemory}
use Rattle.p3_pcs.specs.Requests.{Request}
use Rattle.p3_fri_opening_prover.specs.Setting.{OpeningSetting}
use Rattle.p3_fri_two_adic.specs.Refusals.{PassesChecks, OpenRefusal, LeavesState}

-- it comes after the checks, or leaves the state
pub passed_or_left : {F E C D Data Com Path InCom InPath : Type 0}
    (r : OpeningSetting F E C D Data Com Path InCom InPath) (c : C) (requests : List (Request D E))
    (e : FriProverError) → OpenRefusal r c requests e
    → PassesChecks r.setting.fields r.parameters r.committed requests ⊎ LeavesState e
passed_or_left r c requests (NoPowWitness phase) refused = inl refused.0
passed_or_left r c requests OutOfMemory refused = inl refused
passed_or_left r c requests _ refused = inr tt
