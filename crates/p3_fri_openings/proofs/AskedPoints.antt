-- The points at which matrices are opened, and the tallest matrix at each.
use Rattle.std.proofs.Common.{◌≡◌, ℕ, zero, suc, ◌+◌, ◌<◌, ◌≤◌, List, [], ◌∷◌, take, length, map}
use Rattle.std.proofs.Common.{get_or, All, Contains}
use Rattle.std.proofs.Common.{refl, sym, ap₂, ◌∙◌, arith}
use Rattle.std.specs.declared.vec.Vec.{Vec}
use Rattle.std.specs.Global.{Global}
use Rattle.std.proofs.lemmas.Nat.{pow_pos}
use Rattle.std.proofs.lemmas.List.{length-map, get_or_default}
use Rattle.std.proofs.lemmas.List.Elements.{All-nil, All-head, All-tail, All-cons, All-map}
use Rattle.std.proofs.lemmas.List.Elements.{All-weaker, All-contains}
use Rattle.algebra.specs.Nested.{lists}
use Rattle.p3_matrix.specs.declared.dense.RowMajorMatrix.{RowMajorMatrix}
use Rattle.p3_matrix.specs.Matrix.{rows}
use Rattle.p3_pcs.specs.Claims.{zip_with}
use Rattle.p3_pcs.proofs.Zipped.{entry_of_zip_with, within_zip_with}
use Rattle.p3_fri_relation.specs.Setting.{Fields}
use Rattle.p3_fri_openings.specs.declared.asked_points.AskedPoint.{AskedPoint}
use Rattle.p3_fri_openings.specs.declared.round.OpeningRound.{OpeningRound}
use Rattle.p3_fri_openings.specs.Rounds.{Asked, ask, asked_in, HasCoset, IsRound, log_height}
use Rattle.p3_fri_openings.specs.Refusals.{IsOff, HasPointsOff, ArePointsOff}
use Rattle.p3_fri_openings.specs.Committed.{coset_of}
use Rattle.p3_fri_openings.specs.Sums.{StartsWith}
use Rattle.p3_fri_openings.specs.Points.{asked_point, IsTallest, points_of, points_in, asked_points}
use Rattle.p3_fri_openings.specs.Denominators.{HoldsCosets, HasDenominators}
use Rattle.p3_fri_openings.proofs.Log2.{pow-log2}
use Rattle.p3_fri_openings.proofs.First.{one_more, at_item}
use Rattle.p3_fri_openings.proofs.Pushed.{all_joined}
use Rattle.algebra.proofs.Lists.{entry_of_map}

module _ {F E : Type 0} where
  -- what holds of the matrices
  pub all_asked : (P : RowMajorMatrix F → Type 0) (matrices : List (RowMajorMatrix F))
      (points : List (List E))
      → All P matrices → All (λ a. P a.matrix) (zip_with ask matrices points)
  all_asked P [] points h = All-nil (λ (a : Asked F E). P a.matrix)
  all_asked P (m ∷ matrices) [] h = All-nil (λ (a : Asked F E). P a.matrix)
  all_asked P (m ∷ matrices) (zs ∷ points) h =
      All-cons (λ (a : Asked F E). P a.matrix) (ask m zs) (zip_with ask matrices points)
      (All-head P m matrices h)
      (all_asked P matrices points (All-tail P m matrices h))

  -- what holds of all that a round asks for holds of each matrix and the points beside it
  pub asked_at : (P : Asked F E → Type 0) (round : OpeningRound F E) (i : ℕ)
      (matrix : RowMajorMatrix F) (points : Vec E Global)
      → length round.points.now ≡ length round.matrices.now → i < length round.matrices.now
      → matrix ≡ get_or round.matrices.now i matrix → points ≡ get_or round.points.now i points
      → All P (asked_in round) → P (ask matrix points.items)
  asked_at P round i matrix points same one first second holds =
      let n = length-map round.points.now (λ v. v.items) in
      let two : i < length round.points.now = omega (arith, same, one) in
      let three : i < length (lists round.points.now) = omega (arith, n, two) in
      at_item P (asked_in round) i (ask matrix points.items)
      (within_zip_with ask round.matrices.now (lists round.points.now) i one three)
      (entry_of_zip_with ask round.matrices.now (lists round.points.now) i matrix points.items
      one three first (entry_of_map (λ v. v.items) round.points.now i points two second)) holds

module _ {F E : Type 0} (f : Fields F E) (coset : List F) where
  served : (n : ℕ) (z : E) (matrix : RowMajorMatrix F) → n ≡ length (rows matrix)
      → HasCoset f.two_adicity matrix
      → StartsWith coset (coset_of f n) → IsOff f (log_height matrix) z
      → HasDenominators f coset (asked_point n z)
  served n z matrix e h start off = record {
    log_height = log_height matrix;
    height = e ∙ sym (pow-log2 (length (rows matrix)) h.power.0 h.power.1);
    within = h.within;
    off = off;
    start = start;
  }

  -- each point is off its coset, and the coset begins with this one
  pub all_served : (rounds : List (OpeningRound F E)) → All (IsRound f.two_adicity) rounds
      → All (ArePointsOff f) rounds → All (HoldsCosets f coset) rounds
      → All (HasDenominators f coset) (asked_points rounds)
  all_served rounds right off starts =
      all_joined (HasDenominators f coset) points_in rounds
      (λ k d l. all_joined (HasDenominators f coset) points_of (asked_in (get_or rounds k d))
      (of_round (get_or rounds k d) (right k d l) (off k d l) (starts k d l)))
    where
      of_asked : (a : Asked F E) → HasCoset f.two_adicity a.matrix
          → StartsWith coset (coset_of f (length (rows a.matrix))) → HasPointsOff f a
          → All (HasDenominators f coset) (points_of a)
      of_asked a h start off =
          All-map (HasDenominators f coset) (asked_point (length (rows a.matrix))) a.points
          (All-weaker (IsOff f (log_height a.matrix))
          (λ z. HasDenominators f coset (asked_point (length (rows a.matrix)) z))
          (λ z. served (length (rows a.matrix)) z a.matrix refl h start) a.points off)

      of_round : (r : OpeningRound F E) → IsRound f.two_adicity r → ArePointsOff f r
          → HoldsCosets f coset r
          → All (λ a. All (HasDenominators f coset) (points_of a)) (asked_in r)
      of_round r right off starts k d l =
          of_asked (get_or (asked_in r) k d)
          (all_asked (HasCoset f.two_adicity) r.matrices.now
          (lists r.points.now) right.cosets k d l)
          (all_asked (λ m. StartsWith coset (coset_of f (length (rows m)))) r.matrices.now
          (lists r.points.now) starts k d l)
          (off k d l)

  -- the tallest matrix at a point that is asked
  pub tallest_is : (asked : List (AskedPoint E)) (z : E) (n : ℕ)
      → All (HasDenominators f coset) asked
      → Contains (map (λ a. a.point) asked) z → All (λ a. a.point ≡ z → a.height ≤ n) asked
      → (0 < n → Contains asked (asked_point n z)) → IsTallest asked z n
  tallest_is asked z n right there above attained = record {
    asked_there = attained (positive asked right there above);
    none_above = above;
  }
    where
      positive : (asked : List (AskedPoint E)) → All (HasDenominators f coset) asked
          → Contains (map (λ a. a.point) asked) z → All (λ a. a.point ≡ z → a.height ≤ n) asked
          → 0 < n
      positive [] right there above = absurd (let w = there.1 in omega (arith, w))
      positive (a ∷ asked) right (zero, w, e) above =
          let h = All-head (HasDenominators f coset) a asked right in
          let more = pow_pos h.log_height in
          let high = All-head (λ a. a.point ≡ z → a.height ≤ n) a asked above e in
          omega (arith, h.height, more, high)
      positive (a ∷ asked) right (suc k, w, e) above =
          positive asked (All-tail (HasDenominators f coset) a asked right) (k, omega (arith, w), e)
          (All-tail (λ a. a.point ≡ z → a.height ≤ n) a asked above)

  pub tallest_served : (asked : List (AskedPoint E)) (z : E) (n : ℕ)
      → All (HasDenominators f coset) asked
      → IsTallest asked z n → HasDenominators f coset (asked_point n z)
  tallest_served asked z n right tallest =
      All-contains (HasDenominators f coset) asked (asked_point n z) right tallest.asked_there

module _ {E : Type 0} where
  -- one more point is gone through
  pub above_next : (asked : List (AskedPoint E)) (z : E) (i : ℕ) (a : AskedPoint E)
      (own old new : ℕ)
      → i < length asked → a ≡ get_or asked i a → old ≤ new → own ≤ new
      → (a.point ≡ z → own ≡ a.height) → All (λ a. a.point ≡ z → a.height ≤ old) (take i asked)
      → All (λ a. a.point ≡ z → a.height ≤ new) (take (i + 1) asked)
  above_next asked z i a own old new l is older owner here so_far =
      one_more (λ a. a.point ≡ z → a.height ≤ new) asked i a l is
      (All-weaker (λ a. a.point ≡ z → a.height ≤ old) (λ a. a.point ≡ z → a.height ≤ new)
      (λ b h e. let g = h e in omega (arith, g, older)) (take i asked) so_far)
      (λ e. let g = here e in omega (arith, g, owner))

  pub contains_item : (asked : List (AskedPoint E)) (z : E) (i : ℕ) (a : AskedPoint E) (n : ℕ)
      → i < length asked → a ≡ get_or asked i a → a.point ≡ z → n ≡ a.height
      → Contains asked (asked_point n z)
  contains_item asked z i a n l is p h =
      let same : a ≡ asked_point n z = ap₂ (λ w m. asked_point m w) p (sym h) in
      (i, l, get_or_default asked i (asked_point n z) a l ∙ sym is ∙ same)

  -- the point of an item is asked
  pub point_asked : (asked : List (AskedPoint E)) (i : ℕ) (a : AskedPoint E) → i < length asked
      → a ≡ get_or asked i a → Contains (map (λ a. a.point) asked) a.point
  point_asked asked i a l is =
      let within : i < length (map (λ (a : AskedPoint E). a.point) asked) =
      omega (arith, l, length-map asked (λ (a : AskedPoint E). a.point)) in
      (i, within, sym (entry_of_map (λ (a : AskedPoint E). a.point) asked i a l is))
