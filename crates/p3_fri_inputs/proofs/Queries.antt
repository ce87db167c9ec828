-- What one query reads, and what follows for the sums that it meets.
use Rattle.std.proofs.Common.{◌≡◌, ◌≢◌, ℕ, zero, suc, ◌+◌, ◌*◌, ◌/◌, ◌<◌, ◌≤◌, Bool, true, false, cond}
use Rattle.std.proofs.Common.{eqb, List, [], ◌∷◌, ◌++◌, length, map, All, get_or, subst, refl, sym, ap}
use Rattle.std.proofs.Common.{ap₂, ◌∙◌, arith}
use Rattle.std.proofs.Math.Nat.{mul-div_cancel_left}
use Rattle.std.proofs.lemmas.Bool.{eqb-true}
use Rattle.std.proofs.lemmas.List.{length-map, get_or_default}
use Rattle.std.proofs.lemmas.List.Elements.{All-append, All-nil}
use Rattle.std.proofs.lemmas.List.Folds.{Any-from_list_any}
use Rattle.algebra.specs.Field.{FieldOps, sub}
use Rattle.std.specs.Prelude.{Any}
use Rattle.p3_fri_relation.specs.Setting.{Fields, MatrixClaim, CommitmentClaim}
use Rattle.p3_fri_relation.specs.Faults.{At}
use Rattle.p3_fri_relation.specs.QuotientSums.{point_read}
use Rattle.p3_fri_relation.specs.Heights.{log_height, has_height, heights_below, heights_of, matrices_of}
use Rattle.p3_fri_relation.specs.Heights.{greatest_height}
use Rattle.p3_fri_inputs.specs.Claims.{combined_values, distances, IsApart}
use Rattle.p3_fri_inputs.proofs.LogHeights.{greatest_within}
use Rattle.p3_fri_inputs.proofs.Openings.{same_count, all_of_one}

pub map_agree : {A B : Type 0} (f g : A → B) (xs : List A) → All (λ x. f x ≡ g x) xs
    → map f xs ≡ map g xs
map_agree f g [] h = refl
map_agree f g (x ∷ xs) h =
    ap₂ (λ a b. a ∷ b) (h zero x (omega arith)) (map_agree f g xs (λ k d l. h (suc k) d (omega (arith, l))))

module _ {E : Type 0} (log_blowup : ℕ) where
  -- two ways to read that agree at the log heights of the matrices
  pub apart_agree : (read other : ℕ → E) (ms : List (MatrixClaim E))
      → All (λ m. read (log_height log_blowup m) ≡ other (log_height log_blowup m)) ms
      → All (IsApart log_blowup read) ms → All (IsApart log_blowup other) ms
  apart_agree read other ms agree apart k m l =
      subst (λ y. All (λ z. z.point ≢ y) (get_or ms k m).points) (agree k m l) (apart k m l)

  pub distances_agree : (K : FieldOps E) (read other : ℕ → E) (ms : List (MatrixClaim E))
      → All (λ m. read (log_height log_blowup m) ≡ other (log_height log_blowup m)) ms
      → distances K log_blowup read ms ≡ distances K log_blowup other ms
  distances_agree K read other [] agree = refl
  distances_agree K read other (m ∷ ms) agree =
      ap₂ (λ y ds. map (λ z. sub K z.point y) m.points ++ ds) (agree zero m (omega arith))
      (distances_agree K read other ms (λ k d l. agree (suc k) d (omega (arith, l))))

  -- a log height that some matrix has is within what all are within
  pub has_below : (ms : List (MatrixClaim E)) (n h : ℕ)
      → All (λ m. log_height log_blowup m < n) ms → has_height log_blowup ms h ≡ true → h < n
  has_below ms n h below has =
      let some = Any-from_list_any (λ m. eqb (log_height log_blowup m) h) ms has in
      let same : log_height log_blowup some.1 ≡ h = eqb-true (log_height log_blowup some.1) h some.4 in
      let there : log_height log_blowup some.1 < n =
      subst (λ m. log_height log_blowup m < n) some.3 (below some.0 some.1 some.2) in
      subst (λ k. k < n) same there

  all_below : (ms : List (MatrixClaim E)) (n bound : ℕ) → n ≤ bound
      → All (λ h. h < bound) (heights_below log_blowup ms n)
  all_below ms zero bound l = All-nil (λ h. h < bound)
  all_below ms (suc n) bound l =
      All-append (λ h. h < bound) (cond (has_height log_blowup ms n) (n ∷ []) [])
      (heights_below log_blowup ms n) (one (has_height log_blowup ms n))
      (all_below ms n bound (omega (arith, l)))
    where
      one : (b : Bool) → All (λ h. h < bound) (cond b (n ∷ []) [])
      one true zero d k = omega (arith, l)
      one true (suc j) d k = absurd (omega (arith, k))
      one false j d k = absurd (omega (arith, k))

  pub heights_within : (ms : List (MatrixClaim E)) (top : ℕ)
      → All (λ m. log_height log_blowup m ≤ top) ms
      → All (λ h. h < top + 1) (heights_of log_blowup ms)
  heights_within ms top heights =
      all_below ms (suc (greatest_height log_blowup ms)) (top + 1)
      (omega (arith, greatest_within log_blowup top ms heights))

  -- as many distances at each position
  pub distances_count : (K : FieldOps E) (alpha : E) (read : ℕ → E) (ms : List (MatrixClaim E))
      → length (distances K log_blowup read ms) ≡ length (combined_values K alpha ms)
  distances_count K alpha read ms =
      sym (length-map (distances K log_blowup read ms) K.inv)
      ∙ sym (same_count K log_blowup alpha read ms)

-- a claimed point that one query reads is among those that all read
pub met_by_query : {F E InCom : Type 0} (f : Fields F E) (b top : ℕ)
    (cs : List (CommitmentClaim E InCom)) (indices : List ℕ) (j : ℕ) (read : ℕ → E)
    (batch matrix point : ℕ) → All (λ m. log_height b m ≤ top) (matrices_of cs)
    → j < length indices
    → ((h : ℕ) → h ≤ top → read h ≡ point_read f top (get_or indices j 0) h)
    → At batch (λ c. At matrix (λ m. At point (λ z. z.point ≡ read (log_height b m)) m.points)
    c.matrices) cs
    → At batch (λ c. At matrix (λ m. At point (λ z. Any (λ q.
    z.point ≡ point_read f top q (log_height b m)) indices) m.points) c.matrices) cs
met_by_query f b top cs indices j read batch matrix point heights below same met =
    let inner = met.3 in
    let met_point = inner.3 in
    let low = subst (λ m. log_height b m ≤ top) inner.2
    (all_of_one (λ m. log_height b m ≤ top) cs heights batch met.0 met.1 (sym met.2) matrix
    inner.0 inner.1) in
    let query = get_or indices j 0 in (
      met.0,
      met.1,
      met.2,
      (
        inner.0,
        inner.1,
        inner.2,
        (
          met_point.0,
          met_point.1,
          met_point.2,
          (
            j,
            query,
            below,
            get_or_default indices j query 0 below,
            met_point.3 ∙ same (log_height b inner.0) low,
          ),
        ),
      ),
    )

pub share : (n p total : ℕ) → 0 < n → total ≡ n * p → total / n ≡ p
share n p total l e = ap (λ t. t / n) e ∙ mul-div_cancel_left p l
