-- Requests that pass the checks, and why others don't.
use Rattle.std.proofs.Common.{◌≡◌, ℕ, List, [], ◌∷◌, map, length, All, get_or, arith, subst, sym}
use Rattle.algebra.proofs.Lists.{Each, each_from_All, All_from_each}
use Rattle.p3_matrix.specs.declared.dense.RowMajorMatrix.{RowMajorMatrix}
use Rattle.p3_pcs.specs.Claims.{zip_with}
use Rattle.p3_pcs.specs.Requests.{Request}
use Rattle.p3_fri_folding.specs.declared.error.FriProverError.{FriProverError}
use Rattle.p3_fri_folding.specs.declared.error.FriProverError.TheVariants.{InputHeightTooSmall}
use Rattle.p3_fri_folding.specs.declared.error.FriProverError.TheVariants.{FinalHeightOverflow}
use Rattle.p3_fri_folding.specs.declared.error.FriProverError.TheVariants.{PointInEvaluationDomain}
use Rattle.p3_fri_folding.specs.declared.error.FriProverError.TheVariants.{NoPowWitness, OutOfMemory}
use Rattle.p3_fri_relation.specs.Setting.{Fields, Parameters}
use Rattle.p3_fri_relation.specs.TallEnough.{IsTallEnough}
use Rattle.p3_fri_openings.specs.Rounds.{Asked, ask, log_height}
use Rattle.p3_fri_openings.specs.First.{FirstAt}
use Rattle.p3_fri_openings.specs.Refusals.{AreTallEnough, HasPointsOff, IsFirstPoint, IsOn, IsOff}
use Rattle.p3_fri_opening_prover.specs.Refusals.{IsFirstOn, PointsRefusal, asked_of}
use Rattle.p3_fri_opening_prover.proofs.Transported.{any_at}
use Rattle.p3_fri_masks.specs.declared.error.HidingFriProverError.{HidingFriProverError}
use Rattle.p3_fri_masks.specs.declared.error.HidingFriProverError.TheVariants.{
  Fri,
  InsufficientRandomCodewords,
  BudgetOverflow,
  HidingBudgetExceeded,
}
use Rattle.p3_fri_hiding_openings.specs.declared.data.HidingFriPcsProverData.{HidingFriPcsProverData}
use Rattle.p3_fri_hiding_openings.specs.Requests.{inside}
use Rattle.p3_fri_hiding_openings.specs.Opening.{CanHide, MeetsBudget, MatrixRefusal, RoundRefusal}
use Rattle.p3_fri_hiding_openings.specs.Opening.{AllCanHide}
use Rattle.p3_fri_hiding_openings.specs.Opening.{IsFirstRefused, PassesHidingChecks, HidingCheckRefusal}

module _ {F E T : Type 0} (f : Fields F E) (p : Parameters) (r : ℕ)
    (committed : T → List (RowMajorMatrix F)) where
  tall_here : (ms : List (RowMajorMatrix F)) (points : List (List E))
      → length points ≡ length ms → Each (CanHide f p r) (zip_with ask ms points)
      → Each (λ m. IsTallEnough p (log_height m)) ms
  tall_here [] points count h = tt
  tall_here (m ∷ ms) [] count h = absurd (omega (arith, count))
  tall_here (m ∷ ms) (zs ∷ points) count h =
      (h.0.height, tall_here ms points (omega (arith, count)) h.1)

  tall_in : (q : Request T E) → length q.points ≡ length (committed q.datum)
      → All (CanHide f p r) (asked_of committed q) → AreTallEnough p (committed q.datum)
  tall_in q count can =
      All_from_each (λ m. IsTallEnough p (log_height m)) (committed q.datum)
      (tall_here (committed q.datum) q.points count
      (each_from_All (CanHide f p r) (asked_of committed q) can))

  module _ (requests : List (Request (HidingFriPcsProverData T) E)) where
    abbrev asked : List (Request T E)
    asked = map inside requests

    pub passes : All (λ q. length q.points ≡ length (committed q.datum)) asked
        → AllCanHide f p r committed asked
        → All (λ q. All (HasPointsOff f) (asked_of committed q)) asked
        → PassesHidingChecks f p r committed requests
    passes counts can off = record {
      checks = record {
        heights = λ k q l. tall_in (get_or asked k q) (counts k q l) (can k q l);
        points = off;
      };
      budgets = λ k q l j a m. (can k q l j a m).budget;
    }

    -- a refusal for a matrix is one of some matrix
    some_refused : (e : HidingFriProverError) → IsFirstRefused f p r committed e asked
        → (a : Asked F E) × MatrixRefusal f p r e a
    some_refused e h =
        let round = any_at (λ (q : Request T E). RoundRefusal f p r e (asked_of committed q)) asked
        h.round h.first.within h.first.here in
        let here = round.4 in
        let matrix = any_at (λ (a : Asked F E). MatrixRefusal f p r e a)
        (asked_of committed round.1) here.matrix here.first.within here.first.here in
        (matrix.1, matrix.4)

    pub matrix_refused : (e : HidingFriProverError) → IsFirstRefused f p r committed e asked
        → HidingCheckRefusal f p r committed requests e
    matrix_refused (Fri OutOfMemory) h =
        let found = some_refused (Fri OutOfMemory) h in absurd found.1.1
    matrix_refused (Fri (NoPowWitness phase)) h =
        let found = some_refused (Fri (NoPowWitness phase)) h in absurd found.1.1
    matrix_refused (Fri (PointInEvaluationDomain a b d)) h =
        let found = some_refused (Fri (PointInEvaluationDomain a b d)) h in absurd found.1.1
    matrix_refused (Fri (InputHeightTooSmall a b)) h = h
    matrix_refused (Fri FinalHeightOverflow) h = h
    matrix_refused (InsufficientRandomCodewords required got) h = h
    matrix_refused BudgetOverflow h = h
    matrix_refused (HidingBudgetExceeded height queries points degree) h = h

    pub point_refused : AllCanHide f p r committed asked → (e : FriProverError)
        → PointsRefusal committed f asked e → HidingCheckRefusal f p r committed requests (Fri e)
    point_refused can OutOfMemory h = absurd h
    point_refused can (NoPowWitness phase) h = absurd h
    point_refused can (PointInEvaluationDomain a b d) h = (can, h)
    point_refused can (InputHeightTooSmall a b) h = absurd h
    point_refused can FinalHeightOverflow h = absurd h

    -- the same of what a conversion makes of it
    pub point_refused_as : AllCanHide f p r committed asked → (e : FriProverError)
        (made : HidingFriProverError) → made ≡ Fri e → PointsRefusal committed f asked e
        → HidingCheckRefusal f p r committed requests made
    point_refused_as can e made is h =
        subst (λ x. HidingCheckRefusal f p r committed requests x) (sym is)
        (point_refused can e h)

    -- where the checks refuse, they don't pass
    can_here : (ms : List (RowMajorMatrix F)) (points : List (List E))
        → Each (λ m. IsTallEnough p (log_height m)) ms
        → Each (MeetsBudget f p r) (zip_with ask ms points)
        → Each (CanHide f p r) (zip_with ask ms points)
    can_here [] points tall meet = tt
    can_here (m ∷ ms) [] tall meet = tt
    can_here (m ∷ ms) (zs ∷ points) tall meet =
        (record { height = tall.0; budget = meet.0 }, can_here ms points tall.1 meet.1)

    can_in : (q : Request T E) → AreTallEnough p (committed q.datum)
        → All (MeetsBudget f p r) (asked_of committed q)
        → All (CanHide f p r) (asked_of committed q)
    can_in q tall meet =
        All_from_each (CanHide f p r) (asked_of committed q)
        (can_here (committed q.datum) q.points
        (each_from_All (λ m. IsTallEnough p (log_height m)) (committed q.datum) tall)
        (each_from_All (MeetsBudget f p r) (asked_of committed q) meet))

    matrix_fails : (e : HidingFriProverError) → IsFirstRefused f p r committed e asked
        → ¬ PassesHidingChecks f p r committed requests
    matrix_fails e h passed =
        let round = any_at (λ (q : Request T E). RoundRefusal f p r e (asked_of committed q)) asked
        h.round h.first.within h.first.here in
        let here = round.4 in
        let can = subst (λ q. All (CanHide f p r) (asked_of committed q)) round.3
        (can_in (get_or asked round.0 round.1)
        (passed.checks.heights round.0 round.1 round.2)
        (passed.budgets round.0 round.1 round.2)) in
        let matrix = any_at (λ (a : Asked F E). MatrixRefusal f p r e a)
        (asked_of committed round.1) here.matrix here.first.within here.first.here in
        not_refused e matrix.1 matrix.4
        (subst (CanHide f p r) matrix.3 (can matrix.0 matrix.1 matrix.2))
      where
        not_refused : (e : HidingFriProverError) (a : Asked F E) → MatrixRefusal f p r e a
            → ¬ CanHide f p r a
        not_refused (Fri e) a h can = h.0 can
        not_refused (InsufficientRandomCodewords required got) a h can = h.0 can
        not_refused BudgetOverflow a h can = h.0 can
        not_refused (HidingBudgetExceeded height queries points degree) a h can = h.0 can

    point_fails : (a b d : ℕ) → IsFirstOn committed f a b d asked
        → ¬ PassesHidingChecks f p r committed requests
    point_fails a b d h passed =
        let round = any_at (λ (q : Request T E).
        FirstAt (HasPointsOff f) (IsFirstPoint f d) (asked_of committed q) b) asked a h.within
        h.here in
        let off = subst (λ q. All (HasPointsOff f) (asked_of committed q)) round.3
        (passed.checks.points round.0 round.1 round.2) in
        let matrix = any_at (IsFirstPoint f d) (asked_of committed round.1) b round.4.within
        round.4.here in
        let off_here = subst (HasPointsOff f) matrix.3 (off matrix.0 matrix.1 matrix.2) in
        let point = any_at (IsOn f (log_height matrix.1.matrix)) matrix.1.points d matrix.4.within
        matrix.4.here in
        let on = point.4 in
        subst (IsOff f (log_height matrix.1.matrix)) point.3
        (off_here point.0 point.1 point.2) on.0 on.1 on.2

    pub refused_fails : (e : HidingFriProverError)
        → HidingCheckRefusal f p r committed requests e
        → ¬ PassesHidingChecks f p r committed requests
    refused_fails (Fri OutOfMemory) h passed = absurd h
    refused_fails (Fri (NoPowWitness phase)) h passed = absurd h
    refused_fails (Fri (PointInEvaluationDomain a b d)) h passed = point_fails a b d h.1 passed
    refused_fails (Fri (InputHeightTooSmall a b)) h passed =
        matrix_fails (Fri (InputHeightTooSmall a b)) h passed
    refused_fails (Fri FinalHeightOverflow) h passed =
        matrix_fails (Fri FinalHeightOverflow) h passed
    refused_fails (InsufficientRandomCodewords required got) h passed =
        matrix_fails (InsufficientRandomCodewords required got) h passed
    refused_fails BudgetOverflow h passed = matrix_fails BudgetOverflow h passed
    refused_fails (HidingBudgetExceeded height queries points degree) h passed =
        matrix_fails (HidingBudgetExceeded height queries points degree) h passed
