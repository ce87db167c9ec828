-- What operations on lanes of numbers are for the elements of these numbers.
use Rattle.std.proofs.Common.{◌≡◌, ℕ, zero, suc, ◌+◌, ◌-◌, ◌*◌, ◌%◌, ◌<◌, ◌≤◌, List, [], ◌∷◌, length}
use Rattle.std.proofs.Common.{map, get_or, sym, ap, ◌∙◌, arith, lit<, Fits, w64}
use Rattle.std.specs.Simd.Lanes.{zip2, Each1, Each2}
use Rattle.std.proofs.lemmas.Simd.{get_or-zip2, Each1-from_get_or, Each2-of}
use Rattle.std.proofs.lemmas.List.{get_or-map}
use Rattle.std.proofs.Math.Nat.{add-mod, mod-mod, mod-lt, mod-eq_of_lt, add-mod-mod, mod-add-mod}
use Rattle.std.proofs.Math.Nat.{mul-le-mul}
use Rattle.std.proofs.lemmas.Nat.{mul-mod}
use Rattle.std.proofs.Math.Facts.{Fits-of_lt}
use Rattle.algebra.specs.Field.{multiple, sub}
use Rattle.algebra.proofs.RingLaws.{multiple-add}
use Rattle.p3_lanes.proofs.LaneLists.{each_zip2}
use Rattle.p3_baby_bear.specs.declared.baby_bear.BabyBear.{BabyBear}
use Rattle.p3_baby_bear.specs.BabyBear.{element, baby_bear}
use Rattle.p3_baby_bear.specs.BabyBearLaws.{same_number, multiple_is, zero_is, baby_bear_laws}
use Rattle.p3_baby_bear.specs.Lanes.{lane_of}

abbrev pub Below : ℕ → Type 0
Below n = n < 2013265921

-- every lane is a canonical number
pub each : (ns : List ℕ) → ((l : ℕ) → get_or ns l 0 < 2013265921) → Each1 Below ns
each ns h = Each1-from_get_or Below ns 0 (λ l k. h l)

pub canonical_map : (f : ℕ → ℕ) (ns : List ℕ) (l : ℕ)
    → get_or (map (λ n. f n % 2013265921) ns) l 0 < 2013265921
canonical_map f [] l = lit< tt
canonical_map f (n ∷ ns) zero = mod-lt (f n) (lit< tt)
canonical_map f (n ∷ ns) (suc l) = canonical_map f ns l

pub canonical_zip2 : (f : ℕ → ℕ → ℕ) (ms ns : List ℕ) (l : ℕ)
    → get_or (zip2 (λ m n. f m n % 2013265921) ms ns) l 0 < 2013265921
canonical_zip2 f [] ns l = lit< tt
canonical_zip2 f (m ∷ ms) [] l = lit< tt
canonical_zip2 f (m ∷ ms) (n ∷ ns) zero = mod-lt (f m n) (lit< tt)
canonical_zip2 f (m ∷ ms) (n ∷ ns) (suc l) = canonical_zip2 f ms ns l

sum_is : (m n : ℕ) → element ((m + n) % 2013265921) ≡ baby_bear.add (element m) (element n)
unfolding baby_bear
sum_is m n = same_number _ _ (mod-mod (m + n) 2013265921 ∙ add-mod m n 2013265921)

difference_is : (m n : ℕ) → n < 2013265921
    → element ((m + (2013265921 - n)) % 2013265921) ≡ sub baby_bear (element m) (element n)
unfolding baby_bear
difference_is m n l = same_number _ _ (mod-mod (m + (2013265921 - n)) 2013265921
    ∙ rw (mod-eq_of_lt l) (sym (add-mod-mod (m % 2013265921) (2013265921 - n) 2013265921
    ∙ mod-add-mod m 2013265921 (2013265921 - n))))

opposite_is : (n : ℕ) → n < 2013265921
    → element ((2013265921 - n) % 2013265921) ≡ baby_bear.neg (element n)
unfolding baby_bear
opposite_is n l =
    same_number _ _ (mod-mod (2013265921 - n) 2013265921
    ∙ ap (λ k. (2013265921 - k) % 2013265921) (sym (mod-eq_of_lt l)))

product_is : (m n : ℕ) → element (m * n % 2013265921) ≡ baby_bear.mul (element m) (element n)
unfolding baby_bear
product_is m n = same_number _ _ (mod-mod (m * n) 2013265921 ∙ mul-mod m n 2013265921)

-- elements by their numbers, one to a lane
pub values_below : (xs : List BabyBear) (l : ℕ) → get_or (map (λ (x : BabyBear). x.value) xs) l 0 < 2013265921
values_below [] l = lit< tt
values_below (x ∷ xs) zero = x.canonical
values_below (x ∷ xs) (suc l) = values_below xs l

pub lane_of_values : (xs : List BabyBear) (l : ℕ)
    → lane_of (map (λ (x : BabyBear). x.value) xs) l ≡ get_or xs l baby_bear.zero
lane_of_values [] l = zero_is
lane_of_values (x ∷ xs) zero = same_number _ _ (mod-eq_of_lt x.canonical)
lane_of_values (x ∷ xs) (suc l) = lane_of_values xs l

rest_is : (n : ℕ) → element (n % 2013265921) ≡ element n
rest_is n = same_number _ _ (mod-mod n 2013265921)

module _ (ms ns : List ℕ) (l : ℕ) (within : l < 8) (m8 : length ms ≡ 8) (n8 : length ns ≡ 8) where
  lane_zip2 : (f : ℕ → ℕ → ℕ) → get_or (zip2 f ms ns) l 0 ≡ f (get_or ms l 0) (get_or ns l 0)
  lane_zip2 f = get_or-zip2 f ms ns l 0 0 0 (omega (arith, within, m8)) (omega (arith, within, n8))

  pub lane_sum : lane_of (zip2 (λ m n. (m + n) % 2013265921) ms ns) l
      ≡ baby_bear.add (lane_of ms l) (lane_of ns l)
  lane_sum =
      ap element (lane_zip2 (λ m n. (m + n) % 2013265921)) ∙ sum_is (get_or ms l 0) (get_or ns l 0)

  pub lane_difference : get_or ns l 0 < 2013265921
      → lane_of (zip2 (λ m n. (m + (2013265921 - n)) % 2013265921) ms ns) l
      ≡ sub baby_bear (lane_of ms l) (lane_of ns l)
  lane_difference less =
      ap element (lane_zip2 (λ m n. (m + (2013265921 - n)) % 2013265921))
      ∙ difference_is (get_or ms l 0) (get_or ns l 0) less

  pub lane_product : lane_of (zip2 (λ m n. m * n % 2013265921) ms ns) l
      ≡ baby_bear.mul (lane_of ms l) (lane_of ns l)
  lane_product =
      ap element (lane_zip2 (λ m n. m * n % 2013265921)) ∙ product_is (get_or ms l 0) (get_or ns l 0)

  -- numbers that aren't reduced count as multiples of one
  pub product_counts : multiple baby_bear (get_or (zip2 (λ m n. m * n) ms ns) l 0)
      ≡ baby_bear.mul (lane_of ms l) (lane_of ns l)
  product_counts =
      ap (multiple baby_bear) (lane_zip2 (λ m n. m * n))
      ∙ multiple_is (get_or ms l 0 * get_or ns l 0)
      ∙ sym (rest_is (get_or ms l 0 * get_or ns l 0)) ∙ product_is (get_or ms l 0) (get_or ns l 0)

  pub sum_counts : multiple baby_bear (get_or (zip2 (λ m n. m + n) ms ns) l 0)
      ≡ baby_bear.add (multiple baby_bear (get_or ms l 0)) (multiple baby_bear (get_or ns l 0))
  sum_counts =
      ap (multiple baby_bear) (lane_zip2 (λ m n. m + n))
      ∙ multiple-add baby_bear baby_bear_laws.ring (get_or ms l 0) (get_or ns l 0)

module _ (ns : List ℕ) (l : ℕ) (within : l < 8) (n8 : length ns ≡ 8) where
  lane_map : (f : ℕ → ℕ) → get_or (map f ns) l 0 ≡ f (get_or ns l 0)
  lane_map f = get_or-map f ns l 0 0 (omega (arith, within, n8))

  pub lane_opposite : get_or ns l 0 < 2013265921
      → lane_of (map (λ n. (2013265921 - n) % 2013265921) ns) l ≡ baby_bear.neg (lane_of ns l)
  lane_opposite less =
      ap element (lane_map (λ n. (2013265921 - n) % 2013265921)) ∙ opposite_is (get_or ns l 0) less

  pub lane_rest : lane_of (map (λ n. n % 2013265921) ns) l ≡ multiple baby_bear (get_or ns l 0)
  lane_rest =
      ap element (lane_map (λ n. n % 2013265921)) ∙ rest_is (get_or ns l 0)
      ∙ sym (multiple_is (get_or ns l 0))

-- what leaves as much as eleven times a number
pub eleven_counts : (ms ns : List ℕ) (l : ℕ) → l < 8 → length ms ≡ 8 → length ns ≡ 8
    → map (λ m. m % 2013265921) ms ≡ map (λ n. 11 * n % 2013265921) ns
    → multiple baby_bear (get_or ms l 0)
    ≡ baby_bear.mul (element 11) (multiple baby_bear (get_or ns l 0))
eleven_counts ms ns l within m8 n8 same =
    sym (lane_rest ms l within m8)
    ∙ ap (λ ks. lane_of ks l) same
    ∙ ap element (lane_map ns l within n8 (λ n. 11 * n % 2013265921))
    ∙ product_is 11 (get_or ns l 0)
    ∙ ap (λ x. baby_bear.mul (element 11) x) (sym (multiple_is (get_or ns l 0)))

products_small : (m n : ℕ) → m < 2013265921 → n < 2013265921 → m * n ≤ 4053239664633446400
products_small m n l k =
    let p : m * n ≤ 2013265920 * 2013265920 =
    mul-le-mul {n₁ = m} {m₁ = n} {n₂ = 2013265920} {m₂ = 2013265920} (omega (arith, l)) (omega (arith, k)) in
    p

pub each_product_small : (ms ns : List ℕ) → Each1 Below ms → Each1 Below ns
    → Each1 (λ n. n ≤ 4053239664633446400) (zip2 (λ m n. m * n) ms ns)
each_product_small ms ns s t =
    each_zip2 Below Below (λ n. n ≤ 4053239664633446400) (λ m n. m * n) products_small ms ns s t

pub sums_small : (most more all : ℕ) (ms ns : List ℕ) → most + more ≤ all
    → Each1 (λ n. n ≤ most) ms → Each1 (λ n. n ≤ more) ns
    → Each1 (λ n. n ≤ all) (zip2 (λ m n. m + n) ms ns)
sums_small most more all ms ns e s t =
    each_zip2 (λ n. n ≤ most) (λ n. n ≤ more) (λ n. n ≤ all) (λ m n. m + n)
    (λ m n l k. omega (arith, l, k, e)) ms ns s t

pub sums_fit : (most more : ℕ) (ms ns : List ℕ) → most + more < 18446744073709551616
    → Each1 (λ n. n ≤ most) ms → Each1 (λ n. n ≤ more) ns
    → Each2 (λ m n. Fits w64 (m + n)) ms ns
sums_fit most more ms ns e s t =
    Each2-of (λ n. n ≤ most) (λ n. n ≤ more) (λ m n. Fits w64 (m + n))
    (λ m n l k. Fits-of_lt {w = w64} {n = m + n} (omega (arith, l, k, e))) ms ns s t
