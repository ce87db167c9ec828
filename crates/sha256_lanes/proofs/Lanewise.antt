-- Eight words, lane by lane.
use Rattle.std.proofs.Common.{◌≡◌, ℕ, ◌<◌, List, length, get_or}
use Rattle.std.proofs.Common.{refl, ap, sym, subst, inl, inr, ◌∙◌, arith}
use Rattle.std.specs.Prelude.{replicate}
use Rattle.std.specs.Simd.Lanes.{zip2}
use Rattle.std.proofs.lemmas.Simd.{get_or-zip2, length-zip2, get_or-replicate}
use Rattle.std.proofs.lemmas.Bool.{cases_lt}
use Rattle.std.proofs.Math.ListN.{get_or-eq_default}

-- beyond the eight there is nothing
pub each_small : (xs : List ℕ) → length xs ≡ 8
    → ((l : ℕ) → l < 8 → get_or xs l 0 < 4294967296) → (l : ℕ) → get_or xs l 0 < 4294967296
each_small xs e h l = elim (cases_lt l 8) [
  | inl lt ↦ h l lt
  | inr ge ↦ omega (arith, get_or-eq_default xs 0 {n = l} (omega (arith, e, ge)))
]

module _ (f : ℕ → ℕ → ℕ) (xs ys : List ℕ) (ex : length xs ≡ 8) (ey : length ys ≡ 8) where
  pub zipped_eight : length (zip2 f xs ys) ≡ 8
  zipped_eight = length-zip2 f xs ys (ex ∙ sym ey) ∙ ex

  pub zipped_at : (l : ℕ) → l < 8 → get_or (zip2 f xs ys) l 0 ≡ f (get_or xs l 0) (get_or ys l 0)
  zipped_at l lt = get_or-zip2 f xs ys l 0 0 0 (omega (arith, ex, lt)) (omega (arith, ey, lt))

  pub zipped_small : ((l : ℕ) → l < 8 → f (get_or xs l 0) (get_or ys l 0) < 4294967296)
      → (l : ℕ) → get_or (zip2 f xs ys) l 0 < 4294967296
  zipped_small h = each_small (zip2 f xs ys) zipped_eight
      (λ l lt. subst (λ n. n < 4294967296) (sym (zipped_at l lt)) (h l lt))

-- with one number in each lane
module _ (f : ℕ → ℕ → ℕ) (xs : List ℕ) (b : ℕ) (ex : length xs ≡ 8) where
  pub splat_at : (l : ℕ) → l < 8 → get_or (zip2 f xs (replicate 8 b)) l 0 ≡ f (get_or xs l 0) b
  splat_at l lt = zipped_at f xs (replicate 8 b) ex refl l lt ∙ ap (f (get_or xs l 0)) (get_or-replicate 8 l b 0 lt)
