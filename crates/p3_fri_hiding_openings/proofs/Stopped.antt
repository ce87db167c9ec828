-- Why requests aren't opened: the checks refuse them, or what is inside is not opened.
use Rattle.std.proofs.Common.{◌≡◌, ℕ, List, Result, Ok, Err, IfErr, map, sym, subst}
use Rattle.std.specs.Prelude.{IsErrAnd}
use Rattle.p3_pcs.specs.Requests.{Request}
use Rattle.p3_fri_folding.specs.declared.error.FriProverError.{FriProverError}
use Rattle.p3_fri_folding.specs.declared.error.FriProverError.TheVariants.{InputHeightTooSmall}
use Rattle.p3_fri_folding.specs.declared.error.FriProverError.TheVariants.{FinalHeightOverflow}
use Rattle.p3_fri_folding.specs.declared.error.FriProverError.TheVariants.{PointInEvaluationDomain}
use Rattle.p3_fri_folding.specs.declared.error.FriProverError.TheVariants.{NoPowWitness, OutOfMemory}
use Rattle.p3_fri_opening_prover.specs.Setting.{OpeningSetting}
use Rattle.p3_fri_opening_prover.specs.Refusals.{OpenRefusal, LeavesState}
use Rattle.p3_fri_masks.specs.declared.error.HidingFriProverError.{HidingFriProverError}
use Rattle.p3_fri_masks.specs.declared.error.HidingFriProverError.TheVariants.{Fri}
use Rattle.p3_fri_masks.specs.declared.error.HidingFriProverError.TheVariants.{BudgetOverflow}
use Rattle.p3_fri_masks.specs.declared.error.HidingFriProverError.TheVariants.{HidingBudgetExceeded}
use Rattle.p3_fri_masks.specs.declared.error.HidingFriProverError.TheVariants.{InsufficientRandomCodewords}
use Rattle.p3_fri_hiding_openings.specs.declared.data.HidingFriPcsProverData.{HidingFriPcsProverData}
use Rattle.p3_fri_hiding_openings.specs.Requests.{inside}
use Rattle.p3_fri_hiding_openings.specs.Opening.{PassesHidingChecks, HidingRefusal, HidingCheckRefusal}
use Rattle.p3_fri_hiding_openings.specs.Opening.{LeavesHidingState}

module _ {F E C D Data Com Path InCom InPath : Type 0}
    (r : OpeningSetting F E C D Data Com Path InCom InPath) (num_random : ℕ) (c : C)
    (requests : List (Request (HidingFriPcsProverData D) E)) where
  module _ (passed : PassesHidingChecks r.setting.fields r.parameters num_random r.committed
      requests) where
    past_checks : (e : FriProverError) → OpenRefusal r c (map inside requests) e
        → (¬ LeavesState e) → HidingRefusal r num_random c requests (Fri e)
    past_checks OutOfMemory h not = passed
    past_checks (NoPowWitness phase) h not = (passed, h.1)
    past_checks (InputHeightTooSmall a b) h not = absurd (not tt)
    past_checks FinalHeightOverflow h not = absurd (not tt)
    past_checks (PointInEvaluationDomain a b d) h not = absurd (not tt)

    -- where the requests inside are seen as `asked`, and a conversion made `made` of the refusal
    pub by_opening : (asked : List (Request D E)) → asked ≡ map inside requests
        → (e : FriProverError) (made : HidingFriProverError) → made ≡ Fri e
        → OpenRefusal r c asked e → (¬ LeavesState e) → HidingRefusal r num_random c requests made
    by_opening asked same e made is h not =
        subst (λ x. HidingRefusal r num_random c requests x) (sym is)
        (past_checks e (subst (λ qs. OpenRefusal r c qs e) same h) not)

  -- the checks' refusal is that of the whole
  at_checks : (e : HidingFriProverError) → HidingCheckRefusal r.setting.fields r.parameters
      num_random r.committed requests e → HidingRefusal r num_random c requests e
  at_checks (Fri (InputHeightTooSmall a b)) h = h
  at_checks (Fri FinalHeightOverflow) h = h
  at_checks (Fri (PointInEvaluationDomain a b d)) h = h
  at_checks (Fri OutOfMemory) h = absurd h
  at_checks (Fri (NoPowWitness phase)) h = absurd h
  at_checks (InsufficientRandomCodewords required got) h = h
  at_checks BudgetOverflow h = h
  at_checks (HidingBudgetExceeded a b d n) h = h

  pub by_checks : {A : Type 0} (result : Result A HidingFriProverError) (e : HidingFriProverError)
      → IsErrAnd result (λ d. d ≡ e) → HidingCheckRefusal r.setting.fields r.parameters num_random
      r.committed requests e → IfErr result (HidingRefusal r num_random c requests)
  by_checks (Ok a) e gives h = tt
  by_checks (Err d) e gives h =
      subst (λ x. HidingRefusal r num_random c requests x) (sym gives) (at_checks e h)

-- it doesn't leave the state then
pub moved : {X : Type 0} (e : FriProverError) (made : HidingFriProverError) → made ≡ Fri e
    → (¬ LeavesState e) → LeavesHidingState made → X
moved e made is not leaves = absurd (not (subst (λ x. LeavesHidingState x) is leaves))

pub moved_at : {A : Type 0} (X : Type 0) (result : Result A HidingFriProverError)
    (e : FriProverError) → IsErrAnd result (λ d. d ≡ Fri e) → (¬ LeavesState e)
    → IfErr result (λ d. LeavesHidingState d → X)
moved_at X (Ok a) e gives not = tt
moved_at X (Err d) e gives not = moved e d gives not
