-- Two elements of the extension in eight lanes, whose coefficients are numbers.
use Rattle.std.specs.Prelude.{ℕ, suc, ◌+◌, ◌%◌, ◌<◌, ◌≡◌, List, [], ◌∷◌, length, replicate, map}
use Rattle.std.proofs.Common.{sym, ◌∙◌, ap, ap₂, arith, get_or, refl}
use Rattle.std.specs.Simd.Lanes.{zip2}
use Rattle.std.proofs.lemmas.Simd.{get_or-zip2}
use Rattle.algebra.specs.Field.{multiple}
use Rattle.algebra.proofs.RingLaws.{multiple-add, multiple-zero}
use Rattle.p3_lanes.specs.Halves.{totals}
use Rattle.p3_baby_bear.specs.declared.baby_bear.BabyBear.{BabyBear}
use Rattle.p3_baby_bear.specs.declared.baby_bear4.BabyBear4.{BabyBear4}
use Rattle.p3_baby_bear.specs.BabyBear.{baby_bear}
use Rattle.p3_baby_bear.specs.BabyBearLaws.{baby_bear_laws}
use Rattle.p3_baby_bear.specs.BabyBear4.{baby_bear4, lift4}
use Rattle.p3_baby_bear.specs.BabyBear4Laws.{same_coefficients}
use Rattle.p3_baby_bear.specs.Lanes.{lane_of}
use Rattle.p3_baby_bear.specs.RowSums.{pair_of}
use Rattle.p3_baby_bear.proofs.LaneSteps.{lane_rest}
use Rattle.p3_baby_bear.specs.BabyBear4Laws.{scaled_is}

-- one coefficient of both
both : (m n : ℕ) (a b : BabyBear) → multiple baby_bear m ≡ a → multiple baby_bear n ≡ b
    → multiple baby_bear (m + n) ≡ baby_bear.add a b
both m n a b d e = multiple-add baby_bear baby_bear_laws.ring m n ∙ ap₂ baby_bear.add d e

-- products of two elements' coefficients
pub pair_is : (ns : List ℕ) (a b : BabyBear4) (x y : BabyBear)
    → multiple baby_bear (get_or ns 0 0) ≡ baby_bear.mul a.constant x
    → multiple baby_bear (get_or ns 1 0) ≡ baby_bear.mul a.linear x
    → multiple baby_bear (get_or ns 2 0) ≡ baby_bear.mul a.quadratic x
    → multiple baby_bear (get_or ns 3 0) ≡ baby_bear.mul a.cubic x
    → multiple baby_bear (get_or ns 4 0) ≡ baby_bear.mul b.constant y
    → multiple baby_bear (get_or ns 5 0) ≡ baby_bear.mul b.linear y
    → multiple baby_bear (get_or ns 6 0) ≡ baby_bear.mul b.quadratic y
    → multiple baby_bear (get_or ns 7 0) ≡ baby_bear.mul b.cubic y
    → pair_of ns ≡ baby_bear4.add (baby_bear4.mul a (lift4 x)) (baby_bear4.mul b (lift4 y))
unfolding baby_bear4
pair_is ns a b x y p q r s t u v w =
    same_coefficients
    (both (get_or ns 0 0) (get_or ns 4 0) (baby_bear.mul a.constant x) (baby_bear.mul b.constant y) p t)
    (both (get_or ns 1 0) (get_or ns 5 0) (baby_bear.mul a.linear x) (baby_bear.mul b.linear y) q u)
    (both (get_or ns 2 0) (get_or ns 6 0) (baby_bear.mul a.quadratic x) (baby_bear.mul b.quadratic y) r v)
    (both (get_or ns 3 0) (get_or ns 7 0) (baby_bear.mul a.cubic x) (baby_bear.mul b.cubic y) s w)
    ∙ ap₂ baby_bear4.add (scaled_is a x) (scaled_is b y)

module _ (ms ns : List ℕ) (m8 : length ms ≡ 8) (n8 : length ns ≡ 8) where
  added : (k l : ℕ) → k < 8 → l < 8
      → multiple baby_bear (get_or (zip2 (λ m n. m + n) ms ns) k 0 + get_or (zip2 (λ m n. m + n) ms ns) l 0)
      ≡ baby_bear.add (multiple baby_bear (get_or ms k 0 + get_or ms l 0))
      (multiple baby_bear (get_or ns k 0 + get_or ns l 0))
  added k l i j =
      let p = get_or-zip2 (λ m n. m + n) ms ns k 0 0 0 (omega (arith, i, m8)) (omega (arith, i, n8)) in
      let q = get_or-zip2 (λ m n. m + n) ms ns l 0 0 0 (omega (arith, j, m8)) (omega (arith, j, n8)) in
      ap (multiple baby_bear) (let e : get_or (zip2 (λ m n. m + n) ms ns) k 0
      + get_or (zip2 (λ m n. m + n) ms ns) l 0
      ≡ (get_or ms k 0 + get_or ms l 0) + (get_or ns k 0 + get_or ns l 0) = omega (arith, p, q) in e)
      ∙ multiple-add baby_bear baby_bear_laws.ring (get_or ms k 0 + get_or ms l 0)
      (get_or ns k 0 + get_or ns l 0)

  -- sums lane by lane
  pub pair_added : pair_of (zip2 (λ m n. m + n) ms ns) ≡ baby_bear4.add (pair_of ms) (pair_of ns)
  unfolding baby_bear4
  pair_added = same_coefficients (added 0 4 (omega arith) (omega arith))
      (added 1 5 (omega arith) (omega arith)) (added 2 6 (omega arith) (omega arith))
      (added 3 7 (omega arith) (omega arith))

-- nothing is zero
pub pair_none : (ns : List ℕ) → ns ≡ replicate 8 0 → pair_of ns ≡ baby_bear4.zero
unfolding baby_bear4
pair_none ns e = ap pair_of e ∙ same_coefficients none none none none
  where
    none : multiple baby_bear (0 + 0) ≡ baby_bear.zero
    none = multiple-zero baby_bear baby_bear_laws.ring

-- both coefficients, reduced
pub lanes_added : (ns numbers : List ℕ) (k l : ℕ) (a b r : BabyBear) → k < 8 → l < 8
    → length ns ≡ 8 → numbers ≡ map (λ n. n % 2013265921) ns
    → a ≡ lane_of numbers k → b ≡ lane_of numbers l → r ≡ baby_bear.add a b
    → r ≡ multiple baby_bear (get_or ns k 0 + get_or ns l 0)
lanes_added ns numbers k l a b r i j n8 e p q s =
    s
    ∙ ap₂ baby_bear.add
    (p ∙ ap (λ ms. lane_of ms k) e ∙ lane_rest ns k i n8)
    (q ∙ ap (λ ms. lane_of ms l) e ∙ lane_rest ns l j n8)
    ∙ sym (multiple-add baby_bear baby_bear_laws.ring (get_or ns k 0) (get_or ns l 0))

pub totals_length : (low high : List ℕ) → length low ≡ length high
    → length (totals low high) ≡ length low
totals_length [] high e = refl
totals_length (l ∷ ls) [] e = absurd (omega (arith, e))
totals_length (l ∷ ls) (h ∷ hs) e = ap suc (totals_length ls hs (omega (arith, e)))

zip2_length : (ms ns : List ℕ) → length ms ≡ length ns
    → length (zip2 (λ m n. m + n) ms ns) ≡ length ms
zip2_length [] ns e = refl
zip2_length (m ∷ ms) [] e = absurd (omega (arith, e))
zip2_length (m ∷ ms) (n ∷ ns) e = ap suc (zip2_length ms ns (omega (arith, e)))

pub added_long : (ms ns : List ℕ) → length ms ≡ 8 → length ns ≡ 8
    → length (zip2 (λ m n. m + n) ms ns) ≡ 8
added_long ms ns m8 n8 = zip2_length ms ns (m8 ∙ sym n8) ∙ m8

-- four pairs, added up
pub four_pairs : (a b c d : List ℕ) → length a ≡ 8 → length b ≡ 8 → length c ≡ 8 → length d ≡ 8
    → pair_of (zip2 (λ m n. m + n) (zip2 (λ m n. m + n) (zip2 (λ m n. m + n) a b) c) d)
    ≡ baby_bear4.add (baby_bear4.add (baby_bear4.add (pair_of a) (pair_of b)) (pair_of c)) (pair_of d)
four_pairs a b c d a8 b8 c8 d8 =
    let plus = λ (ms : List ℕ) (ns : List ℕ). zip2 (λ m n. m + n) ms ns in
    let two = added_long a b a8 b8 in
    let three = added_long (plus a b) c two c8 in
    pair_added (plus (plus a b) c) d three d8
    ∙ ap (λ s. baby_bear4.add s (pair_of d)) (pair_added (plus a b) c two c8
    ∙ ap (λ s. baby_bear4.add s (pair_of c)) (pair_added a b a8 b8))
