-- Sums by halves, lane by lane.
use Rattle.std.proofs.Common.{◌≡◌, ℕ, ◌+◌, ◌*◌, ◌/◌, ◌%◌, ◌<◌, ◌≤◌, List, [], ◌∷◌, map, Fits, w64, refl, ap₂, arith}
use Rattle.std.specs.Simd.Lanes.{zip2, Each1, Each2}
use Rattle.std.proofs.lemmas.Simd.{Each2-of, Each1-weaker}
use Rattle.std.proofs.Math.Facts.{Fits-of_lt}
use Rattle.p3_lanes.specs.Halves.{totals, AreWithin}
use Rattle.p3_lanes.proofs.LaneLists.{each_zip2, each_map}

-- a number more in each lane
pub halves_added : (low high ns : List ℕ)
    → totals (zip2 (λ m n. m + n) low (map (λ n. n % 4294967296) ns))
    (zip2 (λ m n. m + n) high (map (λ n. n / 4294967296) ns))
    ≡ zip2 (λ m n. m + n) (totals low high) ns
halves_added [] high ns = refl
halves_added (l ∷ ls) [] [] = refl
halves_added (l ∷ ls) [] (n ∷ ns) = refl
halves_added (l ∷ ls) (h ∷ hs) [] = refl
halves_added (l ∷ ls) (h ∷ hs) (n ∷ ns) =
    ap₂ (λ m ms. m ∷ ms)
    (let e : l + n % 4294967296 + 4294967296 * (h + n / 4294967296) ≡ l + 4294967296 * h + n =
    omega arith in e)
    (halves_added ls hs ns)

abbrev pub Within : ℕ → ℕ → Type 0
Within count n = n ≤ count * 4294967295

-- halves of 32 bits fit where there is room for one more
module _ (f : ℕ → ℕ) (small : (n : ℕ) → n < 18446744073709551616 → f n ≤ 4294967295) where
  pub half_fits : (ms ns : List ℕ) → Each1 (Within 4294967295) ms
      → Each1 (λ n. n < 18446744073709551616) ns → Each2 (λ m n. Fits w64 (m + n)) ms (map f ns)
  half_fits ms ns s t = Each2-of (Within 4294967295) (λ n. n ≤ 4294967295) (λ m n. Fits w64 (m + n))
      (λ m n l k. Fits-of_lt {w = w64} {n = m + n} (omega (arith, l, k))) ms (map f ns) s
      (each_map (λ n. n < 18446744073709551616) (λ n. n ≤ 4294967295) f small ns t)

  pub half_within : (count : ℕ) (ms ns : List ℕ) → Each1 (Within count) ms
      → Each1 (λ n. n < 18446744073709551616) ns
      → Each1 (Within (count + 1)) (zip2 (λ m n. m + n) ms (map f ns))
  half_within count ms ns s t = each_zip2 (Within count) (λ n. n ≤ 4294967295) (Within (count + 1))
      (λ m n. m + n) (λ m n l k. omega (arith, l, k)) ms (map f ns) s
      (each_map (λ n. n < 18446744073709551616) (λ n. n ≤ 4294967295) f small ns t)

-- halves that are reduced first leave what they stand for leaves
pub halves_leave : (low high : List ℕ)
    → map (λ n. n % 2013265921) (zip2 (λ m n. m + n)
    (map (λ n. n % 2013265921 * 268435454) high) (map (λ n. n % 2013265921) low))
    ≡ map (λ n. n % 2013265921) (totals low high)
halves_leave [] [] = refl
halves_leave [] (h ∷ hs) = refl
halves_leave (l ∷ ls) [] = refl
halves_leave (l ∷ ls) (h ∷ hs) =
    ap₂ (λ m ms. m ∷ ms)
    (let e : (h % 2013265921 * 268435454 + l % 2013265921) % 2013265921
    ≡ (l + 4294967296 * h) % 2013265921 = omega arith in e)
    (halves_leave ls hs)

pub within_weaker : (count more : ℕ) (low high : List ℕ) → count ≤ more → AreWithin count low high
    → AreWithin more low high
within_weaker count more low high l t = (
  Each1-weaker (Within count) (Within more) (λ n k. omega (arith, k, l)) low t.0,
  Each1-weaker (Within count) (Within more) (λ n k. omega (arith, k, l)) high t.1,
)
