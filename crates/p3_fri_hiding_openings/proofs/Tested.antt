-- What the tests of matrices say.
use Rattle.std.proofs.Common.{◌≡◌, ℕ, ◌+◌, ◌<◌, ◌≤◌, length, take, All}
use Rattle.std.proofs.Common.{get_or, refl, sym, arith, subst, Result, Ok, Err, Vec}
use Rattle.std.specs.Prelude.{◌↔◌, IsOk, IfErr, MatchResult}
use Rattle.std.specs.Global.{Global}
use Rattle.std.proofs.lemmas.List.{length-map}
use Rattle.algebra.specs.Nested.{lists}
use Rattle.algebra.proofs.Lists.{entry_of_map}
use Rattle.p3_matrix.specs.declared.dense.RowMajorMatrix.{RowMajorMatrix}
use Rattle.p3_pcs.proofs.Zipped.{entry_of_zip_with, within_zip_with, length_of_zip_with}
use Rattle.p3_fri_relation.specs.Setting.{Fields, Parameters}
use Rattle.p3_fri_folding.specs.declared.error.FriProverError.{FriProverError}
use Rattle.p3_fri_relation.specs.TallEnough.{IsTallEnough, HeightRefusal}
use Rattle.p3_fri_openings.specs.declared.round.OpeningRound.{OpeningRound}
use Rattle.p3_fri_openings.specs.First.{FirstAt}
use Rattle.p3_fri_openings.specs.Rounds.{Asked, ask, asked_in, log_height}
use Rattle.p3_fri_openings.proofs.First.{first_at, one_more, to_the_end}
use Rattle.p3_fri_masks.specs.declared.error.HidingFriProverError.{HidingFriProverError}
use Rattle.p3_fri_masks.specs.declared.error.HidingFriProverError.TheVariants.{
  Fri,
  InsufficientRandomCodewords,
  BudgetOverflow,
  HidingBudgetExceeded,
}
use Rattle.p3_fri_masks.specs.Budget.{FitsBudget, BudgetRefusal}
use Rattle.p3_fri_hiding_openings.specs.Opening.{CanHide, MatrixRefusal, MeetsBudget, mask_height}

module _ {F E : Type 0} (f : Fields F E) (p : Parameters) (r : ℕ) (a : Asked F E) where
  -- a matrix that is too low may not be opened
  pub by_height : (e : FriProverError) (made : HidingFriProverError) → made ≡ Fri e
      → (¬ IsTallEnough p (log_height a.matrix)) → HeightRefusal p (log_height a.matrix) e
      → MatrixRefusal f p r made a
  by_height e made is low h =
      subst (λ x. MatrixRefusal f p r x a) (sym is) (λ can. low can.height, h)

  -- one that is tall enough may where its masks meet the budget
  module _ (tall : IsTallEnough p (log_height a.matrix)) where
    abbrev Refuses : HidingFriProverError → Type 0
    Refuses e =
        BudgetRefusal r p.num_queries f.degree (mask_height p.log_blowup a.matrix)
        (length a.points) e

    refused_by_budget : (e : HidingFriProverError) → (¬ MeetsBudget f p r a) → Refuses e
        → MatrixRefusal f p r e a
    refused_by_budget (Fri e) fails h = absurd h
    refused_by_budget (InsufficientRandomCodewords required got) fails h =
        (λ can. fails can.budget, tall, h)
    refused_by_budget BudgetOverflow fails h = (λ can. fails can.budget, tall, h)
    refused_by_budget (HidingBudgetExceeded height queries points degree) fails h =
        (λ can. fails can.budget, tall, h)

    told : {U : Type 0} (tested : Result U HidingFriProverError)
        → (IsOk tested ↔ MeetsBudget f p r a) → IfErr tested Refuses
        → MatchResult tested (λ _. CanHide f p r a) (λ e. MatrixRefusal f p r e a)
    told (Ok u) exactly refuses = record { height = tall; budget = exactly.0 refl }
    told (Err e) exactly refuses =
        refused_by_budget e (λ meets. let ok = exactly.1 meets in cc) refuses

    pub by_budget : {U : Type 0} (tested : Result U HidingFriProverError)
        (degree height points : ℕ) → degree ≡ f.degree
        → height ≡ mask_height p.log_blowup a.matrix → points ≡ length a.points
        → (IsOk tested ↔ FitsBudget r p.num_queries degree height points)
        → IfErr tested (BudgetRefusal r p.num_queries degree height points)
        → MatchResult tested (λ _. CanHide f p r a) (λ e. MatrixRefusal f p r e a)
    by_budget tested degree height points d h n exactly refuses =
        let q = p.num_queries in
        told tested
        (subst (λ (k : ℕ). IsOk tested
        ↔ FitsBudget r q f.degree (mask_height p.log_blowup a.matrix) k) n
        (subst (λ (k : ℕ). IsOk tested ↔ FitsBudget r q f.degree k points) h
        (subst (λ (k : ℕ). IsOk tested ↔ FitsBudget r q k height points) d exactly)))
        (subst (λ (k : ℕ). IfErr tested
        (BudgetRefusal r q f.degree (mask_height p.log_blowup a.matrix) k)) n
        (subst (λ (k : ℕ). IfErr tested (BudgetRefusal r q f.degree k points)) h
        (subst (λ (k : ℕ). IfErr tested (BudgetRefusal r q k height points)) d refuses)))

-- going through the matrices of a round, with their points
module _ {F E : Type 0} (round : OpeningRound F E)
    (counts : length round.points.now ≡ length round.matrices.now) (i : ℕ) where
  module _ (m : RowMajorMatrix F) (points : Vec E Global) (below : i < length round.matrices.now)
      (m_is : m ≡ get_or round.matrices.now i m)
      (points_are : points ≡ get_or round.points.now i points) where
    points_below : i < length round.points.now
    points_below = omega (arith, below, counts)

    lists_below : i < length (lists round.points.now)
    lists_below = omega (arith, points_below, length-map round.points.now (λ v. v.items))

    asked_below : i < length (asked_in round)
    asked_below =
        within_zip_with ask round.matrices.now (lists round.points.now) i below lists_below

    asked_read : ask m points.items ≡ get_or (asked_in round) i (ask m points.items)
    asked_read =
        entry_of_zip_with ask round.matrices.now (lists round.points.now) i m points.items below
        lists_below m_is
        (entry_of_map (λ v. v.items) round.points.now i points points_below points_are)

    pub asked_more : (P : Asked F E → Type 0) → All P (take i (asked_in round))
        → P (ask m points.items) → All P (take (i + 1) (asked_in round))
    asked_more P before here =
        one_more P (asked_in round) i (ask m points.items) asked_below asked_read before here

    pub asked_first : (P R : Asked F E → Type 0) → All P (take i (asked_in round))
        → R (ask m points.items) → FirstAt P R (asked_in round) i
    asked_first P R before here =
        first_at P R (asked_in round) i (ask m points.items) asked_below asked_read before here

  pub asked_end : (P : Asked F E → Type 0) → length round.matrices.now ≤ i
      → All P (take i (asked_in round)) → All P (asked_in round)
  asked_end P end all =
      to_the_end P (asked_in round) i
      (length_of_zip_with ask round.matrices.now (lists round.points.now) i (omega (arith, end)))
      all
