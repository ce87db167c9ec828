-- Numbers modulo 2013265921 by an estimate of the quotient.
use Rattle.std.proofs.Common.{◌≡◌, ℕ, zero, suc, ◌+◌, ◌-◌, ◌*◌, ◌/◌, ◌%◌, ◌<◌, ◌≤◌, ◌^◌, List, []}
use Rattle.std.proofs.Common.{◌∷◌, length, map, cond, Fits, w32, w64, refl, ap, ap₂, sym, ◌∙◌, arith}
use Rattle.std.specs.Prelude.{replicate}
use Rattle.std.specs.Simd.Lanes.{zip2, Each1, Each2, sel_l, top}
use Rattle.std.proofs.lemmas.Simd.{Each1-weaker, tops_compared}
use Rattle.std.proofs.lemmas.Bool.Decides.{nat_tests}
use lib.Dec.{ltb}
use Rattle.std.proofs.lemmas.Nat.{mul-lt}
use Rattle.std.proofs.Math.Nat.{add-mul-mod_self_right}
use Rattle.std.proofs.Math.Facts.{Fits-of_lt}
use Rattle.p3_lanes.proofs.LaneLists.{map_twice, zip2_map, zip2_maps, each_maps}

-- by the inverse of the order times `2^62`
abbrev pub estimate : ℕ → ℕ
estimate n = n / 1073741824 * 2290649223 / 4294967296

pub estimate_below : (n : ℕ) → n < 4611686018427387904 → estimate n * 2013265921 ≤ n
estimate_below n l = omega (arith, l)

pub estimate_rest : (n : ℕ) → n < 4611686018427387904 → n - estimate n * 2013265921 < 4026531842
estimate_rest n l = omega (arith, l)

pub rest_is : (n q : ℕ) → q * 2013265921 ≤ n → (n - q * 2013265921) % 2013265921 ≡ n % 2013265921
rest_is n q l = sym (ap (λ m. m % 2013265921)
    (let e : n ≡ (n - q * 2013265921) + q * 2013265921 = omega (arith, l) in e)
    ∙ add-mul-mod_self_right (n - q * 2013265921) q 2013265921)

pub product_fits : (n k : ℕ) → n < 4294967296 → k < 4294967296 → Fits w64 (n * k)
product_fits n k l m =
    Fits-of_lt {w = w64} {n = n * k} (omega (arith, mul-lt n k 4294967296 4294967296 l m))

pub low : (ns : List ℕ) → Each1 (λ n. n < 2013265921) ns → Each1 (λ n. n < 4294967296) ns
low ns t = Each1-weaker (λ n. n < 2013265921) (λ n. n < 4294967296) (λ n l. omega (arith, l)) ns t

-- a difference that wraps is the greater of the two
pub once_reduced : (n : ℕ) → n < 4026531842
    → cond (ltb n ((n + (2 ^ 32 - 2013265921)) % 2 ^ 32)) n ((n + (2 ^ 32 - 2013265921)) % 2 ^ 32)
    ≡ n % 2013265921
once_reduced n l = grind (arith, nat_tests)

-- the differences, in 32 bits, of numbers and the order
abbrev wrapped : List ℕ → ℕ → List ℕ
wrapped ns k = zip2 (λ a b. (a + (2 ^ 32 - b)) % 2 ^ 32) ns (replicate k 2013265921)

pub lanes_once_reduced : (ms ns : List ℕ) (k : ℕ) → ms ≡ ns → length ns ≡ k
    → Each1 (λ n. n < 4026531842) ns
    → sel_l
    (map (top 31) (zip2 (λ a b. cond (ltb a b) (2 ^ 32 - 1) 0) ms (wrapped ms k)))
    ms
    (wrapped ms k)
    ≡ map (λ n. n % 2013265921) ns
lanes_once_reduced ms ns k same e t =
    rw (same, tops_compared w32 ltb ns (wrapped ns k)) (lanes ns k e t)
  where
    lanes : (ns : List ℕ) (k : ℕ) → length ns ≡ k → Each1 (λ n. n < 4026531842) ns
        → sel_l (zip2 ltb ns (wrapped ns k)) ns (wrapped ns k) ≡ map (λ n. n % 2013265921) ns
    lanes [] k e t = refl
    lanes (n ∷ ns) zero e t = absurd (omega (arith, e))
    lanes (n ∷ ns) (suc k) e t =
        ap₂ (λ m ms. m ∷ ms) (once_reduced n t.0) (lanes ns k (omega (arith, e)) t.1)

pub estimate_fits : (n : ℕ) → n < 4611686018427387904 → estimate n < 4294967296
estimate_fits n l = omega (arith, l)

module _ (ns highs products quotients : List ℕ) (are_highs : highs ≡ map (λ n. n / 1073741824) ns)
    (are_products : products ≡ map (λ n. n * 2290649223) highs)
    (are_quotients : quotients ≡ map (λ n. n / 4294967296) products) where
  pub estimates_are : quotients ≡ map estimate ns
  estimates_are =
      are_quotients
      ∙ ap (λ ms. map (λ n. n / 4294967296) ms)
      (are_products ∙ ap (λ ms. map (λ n. n * 2290649223) ms) are_highs
      ∙ map_twice (λ n. n * 2290649223) (λ n. n / 1073741824) ns)
      ∙ map_twice (λ n. n / 4294967296) (λ n. n / 1073741824 * 2290649223) ns

  pub taken_are : (taken : List ℕ) → taken ≡ map (λ n. n * 2013265921) quotients
      → taken ≡ map (λ n. estimate n * 2013265921) ns
  taken_are taken e =
      e ∙ ap (λ ms. map (λ n. n * 2013265921) ms) estimates_are
      ∙ map_twice (λ n. n * 2013265921) estimate ns

  pub rests_are : (taken : List ℕ) → taken ≡ map (λ n. n * 2013265921) quotients
      → zip2 (λ n m. n - m) ns taken ≡ map (λ n. n - estimate n * 2013265921) ns
  rests_are taken e =
      ap (λ ms. zip2 (λ n m. n - m) ns ms) (taken_are taken e)
      ∙ zip2_map (λ n m. n - m) (λ n. estimate n * 2013265921) ns

-- a number by its two halves of 32 bits, of which the higher counts by what `2^32` leaves
abbrev pub by_halves : ℕ → ℕ
by_halves n = n / 4294967296 * 268435454 + n % 4294967296

pub halves_fit : (n : ℕ) → n < 18446744073709551616 → by_halves n < 4611686018427387904
halves_fit n l = omega (arith, l)

pub halves_are : (n : ℕ) → by_halves n % 2013265921 ≡ n % 2013265921
halves_are n = omega arith

module _ (ns highs scaleds lows : List ℕ) (factor : ℕ)
    (are_highs : highs ≡ map (λ n. n / 4294967296) ns)
    (are_scaled : scaleds ≡ map (λ n. n * factor) highs) where
  pub highs_are : scaleds ≡ map (λ n. n / 4294967296 * factor) ns
  highs_are =
      are_scaled ∙ ap (λ ms. map (λ n. n * factor) ms) are_highs
      ∙ map_twice (λ n. n * factor) (λ n. n / 4294967296) ns

  pub sums_are : (g : ℕ → ℕ) → lows ≡ map g ns
      → zip2 (λ n m. n + m) scaleds lows ≡ map (λ n. n / 4294967296 * factor + g n) ns
  sums_are g e =
      ap₂ (λ ms ks. zip2 (λ n m. n + m) ms ks) highs_are e
      ∙ zip2_maps (λ n m. n + m) (λ n. n / 4294967296 * factor) g ns

  pub sums_fit : (P : ℕ → Type 0) (g : ℕ → ℕ) → lows ≡ map g ns
      → ((n : ℕ) → P n → n / 4294967296 * factor + g n < 18446744073709551616) → Each1 P ns
      → Each2 (λ n m. Fits w64 (n + m)) scaleds lows
  sums_fit P g e h t = rw (highs_are, e) (each_maps P (λ n m. Fits w64 (n + m))
      (λ n. n / 4294967296 * factor) g (λ n p. Fits-of_lt {w = w64} {n = n / 4294967296 * factor + g n} (h n p)) ns t)

-- 11 times a number by its two halves of 32 bits: `11 * 2^32` leaves 939524073
abbrev pub eleven_fold : ℕ → ℕ
eleven_fold n = n / 4294967296 * 939524073 + n % 4294967296 * 11

pub eleven_folds : (n : ℕ) → eleven_fold n % 2013265921 ≡ 11 * n % 2013265921
eleven_folds n = omega arith
