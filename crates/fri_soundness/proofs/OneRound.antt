-- One round. The first `l + 1` decodings tell polynomials; all the others are sums of these; a row
-- where the words aren't these meets few decodings, so there are few such rows; and a decoding that
-- meets none of them has correlated agreement.
use Rattle.std.proofs.Common.{◌≡◌, ℕ, zero, suc, ◌+◌, ◌*◌, ◌<◌, ◌≤◌, List, [], ◌∷◌, length, map, take}
use Rattle.std.proofs.Common.{Bool, true, false, not, inl, inr, refl, sym, ap, ap₂, ◌∙◌, subst, arith}
use Rattle.std.proofs.Common.{mul-le-mul_left}
use Rattle.std.proofs.lemmas.Bool.{cases_lt, cases_Bool, not-true, not-false, both_ways}
use Rattle.std.proofs.lemmas.List.{length-map}
use Rattle.algebra.specs.Field.{FieldOps, IsField}
use Rattle.algebra.specs.Polynomial.{val}
use Rattle.algebra.proofs.Interpolation.{equal_from_values}
use Rattle.algebra.proofs.Batches.{combination, length-combination, val-combination}
use Rattle.algebra.proofs.Lists.{Each, Off, Distinct, distinct_from_AllPairs, each_from_All}
use Rattle.algebra.proofs.Lists.{All_from_each}
use Rattle.fri_soundness.specs.Counting.{AllBut, AtMost}
use Rattle.fri_soundness.specs.Curves.{Row, Decoding, Meets, HasValues, IsClose, IsCorrelated, IsBad}
use Rattle.fri_soundness.specs.Curves.{AreRows}
use Rattle.fri_soundness.proofs.Counting.{is_yes, from_yes, to_yes, count, any, kept, each_map, each_all}
use Rattle.fri_soundness.proofs.Counting.{count-both, length-kept, kept-pass, each-kept, count-kept}
use Rattle.fri_soundness.proofs.Counting.{none-kept, none_each, count_from_all_but}
use Rattle.fri_soundness.proofs.Counting.{all_but_from_count, distinct-kept, each-mapped, any_few}
use Rattle.fri_soundness.proofs.Counting.{few_from_pairs}
use Rattle.fri_soundness.proofs.Through.{through, each-through, told, length-through}

module _ {X : Type 0} where
  pub each-take : (P : X → Type 0) (n : ℕ) (xs : List X) → Each P xs → Each P (take n xs)
  each-take P zero xs h = tt
  each-take P (suc n) [] h = tt
  each-take P (suc n) (x ∷ xs) h = (h.0, each-take P n xs h.1)

  pub length-taken : (n : ℕ) (xs : List X) → n ≤ length xs → length (take n xs) ≡ n
  length-taken zero xs l = refl
  length-taken (suc n) [] l = absurd (omega (arith, l))
  length-taken (suc n) (x ∷ xs) l = ap suc (length-taken n xs (omega (arith, l)))

  each_both : (P Q : X → Type 0) (xs : List X) → Each P xs → Each Q xs → Each (λ x. P x × Q x) xs
  each_both P Q [] h g = tt
  each_both P Q (x ∷ xs) h g = ((h.0, g.0), each_both P Q xs h.1 g.1)

  -- a list of which no element has `P` is no longer than the exceptions
  all_but_none : (P : X → Type 0) (n : ℕ) (xs : List X) → AllBut P n xs → Each (λ x. ¬ (P x)) xs → length xs ≤ n
  all_but_none P n [] h g = omega arith
  all_but_none P zero (x ∷ xs) h g = absurd (g.0 h.0)
  all_but_none P (suc n) (x ∷ xs) (inl h) g = absurd (g.0 h.0)
  all_but_none P (suc n) (x ∷ xs) (inr h) g = omega (arith, all_but_none P n xs h g.1)

module _ {X Y : Type 0} (f : X → Y) where
  off-take : (y : Y) (n : ℕ) (xs : List X) → Off y (map f xs) → Off y (map f (take n xs))
  off-take y zero xs h = tt
  off-take y (suc n) [] h = tt
  off-take y (suc n) (x ∷ xs) h = (h.0, off-take y n xs h.1)

  pub distinct-take : (n : ℕ) (xs : List X) → Distinct (map f xs) → Distinct (map f (take n xs))
  distinct-take zero xs h = tt
  distinct-take (suc n) [] h = tt
  distinct-take (suc n) (x ∷ xs) h = (off-take (f x) n xs h.0, distinct-take n xs h.1)

module _ {A : Type 0} (F : FieldOps A) (L : IsField F) where
  decided_lists : (xs ys : List A) → Dec (xs ≡ ys)
  decided_lists [] [] = yes refl
  decided_lists [] (y ∷ ys) = no (λ e. absurd cc)
  decided_lists (x ∷ xs) [] = no (λ e. absurd cc)
  decided_lists (x ∷ xs) (y ∷ ys) = elim (L.decided x y) [
    | no n ↦ no (λ e. n (cc))
    | yes p ↦ elim (decided_lists xs ys) [
      | no n ↦ no (λ e. n (cc))
      | yes q ↦ yes (ap₂ (λ z zs. z ∷ zs) p q)
    ]
  ]

  pub meets : Decoding A → Row A → Bool
  meets g row = is_yes (L.decided (val F row.entries g.beta) (val F g.polynomial row.point))

  pub meets-true : (g : Decoding A) (row : Row A) → meets g row ≡ true → Meets F g.beta g.polynomial row
  unfolding meets
  meets-true g row e = from_yes (L.decided (val F row.entries g.beta) (val F g.polynomial row.point)) e

  pub true-meets : (g : Decoding A) (row : Row A) → Meets F g.beta g.polynomial row → meets g row ≡ true
  unfolding meets
  true-meets g row e = to_yes (L.decided (val F row.entries g.beta) (val F g.polynomial row.point)) e

  pub has : List (List A) → Row A → Bool
  has ps row = is_yes (decided_lists row.entries (map (λ p. val F p row.point) ps))

  pub has-true : (ps : List (List A)) (row : Row A) → has ps row ≡ true → HasValues F ps row
  unfolding has
  has-true ps row e = from_yes (decided_lists row.entries (map (λ p. val F p row.point) ps)) e

  pub true-has : (ps : List (List A)) (row : Row A) → HasValues F ps row → has ps row ≡ true
  unfolding has
  true-has ps row e = to_yes (decided_lists row.entries (map (λ p. val F p row.point) ps)) e

  same_values : (row : Row A) (gs : List (Decoding A)) → Each (λ g. meets g row ≡ true) gs
      → map (λ x. val F row.entries x) (map (λ g. g.beta) gs)
      ≡ map (λ p. val F p row.point) (map (λ g. g.polynomial) gs)
  same_values row [] h = refl
  same_values row (g ∷ gs) h = ap₂ (λ v vs. v ∷ vs) (meets-true g row h.0) (same_values row gs h.1)

  module _ (rows : List (Row A)) (k l e : ℕ) where
    module _ (base : List (Decoding A)) (count_base : length base ≡ suc l)
        (distinct_base : Distinct (map (λ (g : Decoding A). g.beta) base))
        (close_base : Each (λ (g : Decoding A). IsClose F rows k e g.beta g.polynomial) base)
        (distinct_points : Distinct (map (λ (row : Row A). row.point) rows))
        (words : Each (λ (row : Row A). length row.entries ≡ suc l) rows)
        (enough : (l + 2) * e + k ≤ length rows) where
      ps : List (List A)
      ps = through F (map (λ g. g.beta) base) (map (λ g. g.polynomial) base)

      degrees_base : Each (λ p. length p ≡ k) (map (λ g. g.polynomial) base)
      degrees_base = each-mapped (λ (g : Decoding A). g.polynomial) (λ p. length p ≡ k) base
          (each_map (λ (g : Decoding A). IsClose F rows k e g.beta g.polynomial) (λ (g : Decoding A). length g.polynomial ≡ k) (λ g h. h.degree) base close_base)

      degrees : Each (λ p. length p ≡ k) ps
      unfolding ps
      degrees = each-through F k (map (λ g. g.beta) base) (map (λ g. g.polynomial) base) degrees_base

      as_many : length (map (λ g. g.polynomial) base) ≡ length (map (λ g. g.beta) base)
      as_many = length-map base (λ (g : Decoding A). g.polynomial) ∙ sym (length-map base (λ (g : Decoding A). g.beta))

      length-ps : length ps ≡ suc l
      unfolding ps
      length-ps =
          length-through F L k (map (λ g. g.beta) base) (map (λ g. g.polynomial) base) distinct_base as_many degrees_base
          ∙ length-map base (λ (g : Decoding A). g.beta) ∙ count_base

      -- at a row that meets the first decodings the words are the polynomials
      told_at : (row : Row A) → length row.entries ≡ suc l → Each (λ g. meets g row ≡ true) base → HasValues F ps row
      unfolding ps
      told_at row n h =
          told F L k (map (λ g. g.beta) base) (map (λ g. g.polynomial) base) row.point row.entries distinct_base as_many
          degrees_base (n ∙ sym (length-map base (λ (g : Decoding A). g.beta) ∙ count_base)) (same_values row base h)

      few_misses : (g : Decoding A) → IsClose F rows k e g.beta g.polynomial → count (λ row. not (meets g row)) rows ≤ e
      few_misses g c = count_from_all_but (Meets F g.beta g.polynomial) (λ row. not (meets g row))
          (λ row m. ap not (true-meets g row m)) e rows c.meets

      abbrev misses : Decoding A → Row A → Bool
      misses g row = any (λ h. not (meets h row)) (g ∷ base)

      abbrev common : Decoding A → List (Row A)
      common g = kept (λ row. not (misses g row)) rows

      many_common : (g : Decoding A) → IsClose F rows k e g.beta g.polynomial → k ≤ length (common g)
      many_common g c = omega (
        arith,
        length-kept (λ row. not (misses g row)) rows,
        count-both (misses g) rows,
        enough,
        any_few (λ h row. not (meets h row)) e (g ∷ base) rows
            (few_misses g c, each_map (λ (h : Decoding A). IsClose F rows k e h.beta h.polynomial) (λ h. count (λ row. not (meets h row)) rows ≤ e) few_misses base close_base),
        ap (λ n. suc n * e) count_base,
      )

      same : (g : Decoding A) (row : Row A) → (length row.entries ≡ suc l) × (not (misses g row) ≡ true)
          → val F g.polynomial row.point ≡ val F (combination F k g.beta ps) row.point
      same g row h =
          let met : Each (λ h. not (meets h row) ≡ false) (g ∷ base) = none_each (λ h. not (meets h row)) (g ∷ base) (not-true (misses g row) h.1) in
          sym (meets-true g row (not-false (meets g row) met.0))
          ∙ ap (λ us. val F us g.beta) (told_at row h.0 (each_map (λ h. not (meets h row) ≡ false) (λ h. meets h row ≡ true) (λ h n. not-false (meets h row) n) base met.1))
          ∙ sym (val-combination F L.ring k g.beta ps row.point degrees)

      -- each decoding is the polynomials' sum with the powers of its challenge
      decoding_is : (g : Decoding A) → IsClose F rows k e g.beta g.polynomial
          → g.polynomial ≡ combination F k g.beta ps
      decoding_is g c =
          equal_from_values F L g.polynomial (combination F k g.beta ps) (map (λ row. row.point) (common g))
          (c.degree ∙ sym (length-combination F k g.beta ps degrees))
          (omega (arith, c.degree, length-map (common g) (λ (row : Row A). row.point), many_common g c))
          (distinct-kept (λ (row : Row A). row.point) (λ row. not (misses g row)) rows distinct_points)
          (each-mapped (λ (row : Row A). row.point) (λ x. val F g.polynomial x ≡ val F (combination F k g.beta ps) x) (common g)
          (each_map (λ (row : Row A). (length row.entries ≡ suc l) × (not (misses g row) ≡ true))
          (λ (row : Row A). val F g.polynomial row.point ≡ val F (combination F k g.beta ps) row.point) (same g) (common g)
          (each_both (λ (row : Row A). length row.entries ≡ suc l) (λ (row : Row A). not (misses g row) ≡ true) (common g)
          (each-kept (λ (row : Row A). length row.entries ≡ suc l) (λ row. not (misses g row)) rows words) (kept-pass (λ row. not (misses g row)) rows))))

      -- the rows at which the words are others
      abbrev others : List (Row A)
      others = kept (λ row. not (has ps row)) rows

      abbrev hits : List (Decoding A) → Row A → List (Decoding A)
      hits gs row = kept (λ g. meets g row) gs

      equal_at_hits : (gs : List (Decoding A)) → Distinct (map (λ (g : Decoding A). g.beta) gs)
          → Each (λ (g : Decoding A). IsClose F rows k e g.beta g.polynomial) gs
          → (row : Row A) → length row.entries ≡ suc l → l < length (hits gs row) → HasValues F ps row
      equal_at_hits gs d c row n m =
          equal_from_values F L row.entries (map (λ p. val F p row.point) ps) (map (λ g. g.beta) (hits gs row))
          (n ∙ sym (length-map ps (λ p. val F p row.point) ∙ length-ps))
          (omega (arith, n, m, length-map (hits gs row) (λ (g : Decoding A). g.beta)))
          (distinct-kept (λ (g : Decoding A). g.beta) (λ g. meets g row) gs d)
          (each-mapped (λ (g : Decoding A). g.beta) (λ b. val F row.entries b ≡ val F (map (λ p. val F p row.point) ps) b) (hits gs row)
          (each_map (λ (g : Decoding A). IsClose F rows k e g.beta g.polynomial × (meets g row ≡ true))
          (λ (g : Decoding A). val F row.entries g.beta ≡ val F (map (λ p. val F p row.point) ps) g.beta)
          (λ g h. meets-true g row h.1 ∙ ap (λ p. val F p row.point) (decoding_is g h.0) ∙ val-combination F L.ring k g.beta ps row.point degrees)
          (hits gs row)
          (each_both (λ (g : Decoding A). IsClose F rows k e g.beta g.polynomial) (λ (g : Decoding A). meets g row ≡ true) (hits gs row)
          (each-kept (λ (g : Decoding A). IsClose F rows k e g.beta g.polynomial) (λ g. meets g row) gs c) (kept-pass (λ g. meets g row) gs))))

      -- at most `l` decodings meet such a row
      few_hits : (gs : List (Decoding A)) → Distinct (map (λ (g : Decoding A). g.beta) gs)
          → Each (λ (g : Decoding A). IsClose F rows k e g.beta g.polynomial) gs
          → (row : Row A) → (length row.entries ≡ suc l) × (not (has ps row) ≡ true)
          → count (λ g. meets g row) gs ≤ l
      few_hits gs d c row h = elim (cases_lt l (count (λ g. meets g row) gs)) [
        | inr le ↦ le
        | inl lt ↦ absurd (both_ways (has ps row) (not-true (has ps row) h.1)
            (true-has ps row (equal_at_hits gs d c row h.0 (omega (arith, lt, length-kept (λ g. meets g row) gs)))))
      ]

      each_few_hits : (gs : List (Decoding A)) → Distinct (map (λ (g : Decoding A). g.beta) gs)
          → Each (λ (g : Decoding A). IsClose F rows k e g.beta g.polynomial) gs
          → Each (λ row. count (λ g. meets g row) gs ≤ l) others
      each_few_hits gs d c =
          each_map (λ (row : Row A). (length row.entries ≡ suc l) × (not (has ps row) ≡ true)) (λ row. count (λ g. meets g row) gs ≤ l)
          (few_hits gs d c) others
          (each_both (λ (row : Row A). length row.entries ≡ suc l) (λ (row : Row A). not (has ps row) ≡ true) others
          (each-kept (λ (row : Row A). length row.entries ≡ suc l) (λ row. not (has ps row)) rows words) (kept-pass (λ row. not (has ps row)) rows))

      few_others : (gs : List (Decoding A)) → Distinct (map (λ (g : Decoding A). g.beta) gs)
          → Each (λ (g : Decoding A). IsClose F rows k e g.beta g.polynomial) gs → l * (e + 1) < length gs
          → length others ≤ e
      few_others gs d c many = few_from_pairs meets l e gs others (each_few_hits gs d c)
          (each_map (λ (g : Decoding A). IsClose F rows k e g.beta g.polynomial) (λ (g : Decoding A). count (λ row. not (meets g row)) others ≤ e)
          (λ g h. omega (arith, few_misses g h, count-kept (λ row. not (has ps row)) (λ row. not (meets g row)) rows)) gs c)
          many

      -- agreement of a decoding that none of these rows meets
      correlated : (g : Decoding A) → any (meets g) others ≡ false → IsCorrelated F rows k l g.beta g.polynomial
      correlated g none = record {
        polynomials = ps;
        count = omega (arith, length-ps);
        degrees = All_from_each (λ p. length p ≡ k) ps degrees;
        values = All_from_each (λ row. Meets F g.beta g.polynomial row → HasValues F ps row) rows
            (each_map (λ row. not (has ps row) ≡ true → meets g row ≡ false) (λ row. Meets F g.beta g.polynomial row → HasValues F ps row)
            values rows (none-kept (λ row. not (has ps row)) (meets g) rows none));
      }
        where
          values : (row : Row A) → (not (has ps row) ≡ true → meets g row ≡ false) → Meets F g.beta g.polynomial row → HasValues F ps row
          values row h m = elim (cases_Bool (has ps row)) [
            | inl e ↦ has-true ps row e
            | inr e ↦ absurd (both_ways (meets g row) (h (ap not e)) (true-meets g row m))
          ]

      pub all_but_few : (gs : List (Decoding A)) → Distinct (map (λ (g : Decoding A). g.beta) gs)
          → Each (λ (g : Decoding A). IsClose F rows k e g.beta g.polynomial) gs → l * (e + 1) < length gs
          → AllBut (λ (g : Decoding A). IsCorrelated F rows k l g.beta g.polynomial) (l * e) gs
      all_but_few gs d c many =
          all_but_from_count (λ (g : Decoding A). IsCorrelated F rows k l g.beta g.polynomial) (λ g. any (meets g) others) (l * e) gs
          (each_all (λ (g : Decoding A). any (meets g) others ≡ false → IsCorrelated F rows k l g.beta g.polynomial) correlated gs)
          (omega (arith, any_few (λ row g. meets g row) l others gs (each_few_hits gs d c), mul-le-mul_left l (few_others gs d c many)))

  module _ (rows : List (Row A)) (k l e : ℕ) (R : AreRows F rows k l e) where
    pub decodings_are_correlated : (gs : List (Decoding A)) → Distinct (map (λ (g : Decoding A). g.beta) gs)
        → Each (λ (g : Decoding A). IsClose F rows k e g.beta g.polynomial) gs → l * (e + 1) < length gs
        → AllBut (λ (g : Decoding A). IsCorrelated F rows k l g.beta g.polynomial) (l * e) gs
    decodings_are_correlated gs d c many =
        all_but_few rows k l e (take (suc l) gs)
        (length-taken (suc l) gs (omega (arith, many, mul-le-mul_left l (let o : 1 ≤ e + 1 = omega arith in o))))
        (distinct-take (λ (g : Decoding A). g.beta) (suc l) gs d)
        (each-take (λ (g : Decoding A). IsClose F rows k e g.beta g.polynomial) (suc l) gs c)
        (distinct_from_AllPairs (map (λ row. row.point) rows) R.distinct)
        (each_map (λ (row : Row A). length row.entries ≡ l + 1) (λ (row : Row A). length row.entries ≡ suc l) (λ row n. omega (arith, n)) rows
        (each_from_All (λ (row : Row A). length row.entries ≡ l + 1) rows R.words))
        R.enough gs d c many

    decodings : (betas : List A) → Each (IsBad F rows k l e) betas → List (Decoding A)
    decodings [] h = []
    decodings (beta ∷ betas) h = record { beta = beta; polynomial = h.0.polynomial } ∷ decodings betas h.1

    betas_are : (betas : List A) (h : Each (IsBad F rows k l e) betas) → map (λ (g : Decoding A). g.beta) (decodings betas h) ≡ betas
    unfolding decodings
    betas_are [] h = refl
    betas_are (beta ∷ betas) h = ap (λ bs. beta ∷ bs) (betas_are betas h.1)

    decodings_close : (betas : List A) (h : Each (IsBad F rows k l e) betas)
        → Each (λ (g : Decoding A). IsClose F rows k e g.beta g.polynomial) (decodings betas h)
    unfolding decodings
    decodings_close [] h = tt
    decodings_close (beta ∷ betas) h = (h.0.close, decodings_close betas h.1)

    decodings_uncorrelated : (betas : List A) (h : Each (IsBad F rows k l e) betas)
        → Each (λ (g : Decoding A). ¬ (IsCorrelated F rows k l g.beta g.polynomial)) (decodings betas h)
    unfolding decodings
    decodings_uncorrelated [] h = tt
    decodings_uncorrelated (beta ∷ betas) h = (h.0.uncorrelated, decodings_uncorrelated betas h.1)

    pub few_are_bad : AtMost (IsBad F rows k l e) (l * (e + 1))
    few_are_bad betas d h = elim (cases_lt (l * (e + 1)) (length betas)) [
      | inr le ↦ le
      | inl many ↦ absurd (too_many many)
    ]
      where
        bad : Each (IsBad F rows k l e) betas
        bad = each_from_All (IsBad F rows k l e) betas h

        count_is : length (decodings betas bad) ≡ length betas
        count_is = sym (length-map (decodings betas bad) (λ (g : Decoding A). g.beta)) ∙ ap length (betas_are betas bad)

        too_many : l * (e + 1) < length betas → ⊥
        too_many many = omega (
          arith,
          many,
          count_is,
          all_but_none (λ (g : Decoding A). IsCorrelated F rows k l g.beta g.polynomial) (l * e) (decodings betas bad)
              (decodings_are_correlated (decodings betas bad) (subst Distinct (sym (betas_are betas bad)) (distinct_from_AllPairs betas d))
              (decodings_close betas bad) (omega (arith, many, count_is)))
              (decodings_uncorrelated betas bad),
        )
