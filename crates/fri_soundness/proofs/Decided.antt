-- Correlated agreement of a close polynomial is decided: at any `k` rows where the curve is it, the
-- words can only be the polynomials through their entries there.
use Rattle.std.proofs.Common.{◌≡◌, ℕ, zero, suc, ◌+◌, ◌<◌, ◌≤◌, List, [], ◌∷◌, length, map, take, get_or}
use Rattle.std.proofs.Common.{true, false, not, inl, inr, refl, sym, ap, ap₂, ◌∙◌, subst, arith}
use Rattle.std.proofs.lemmas.Bool.{cases_Bool, both_ways, not-false}
use Rattle.std.proofs.lemmas.List.{length-map, get_or-map}
use Rattle.algebra.specs.Field.{FieldOps, IsField}
use Rattle.algebra.specs.Polynomial.{val, tabulate}
use Rattle.algebra.specs.Interpolation.{Interpolates, interpolant}
use Rattle.algebra.proofs.Interpolation.{interpolant_interpolates, interpolates_unique}
use Rattle.algebra.proofs.Lists.{Each, Distinct, distinct_from_AllPairs, each_from_All, All_from_each}
use Rattle.algebra.proofs.Lists.{length-tabulate, tabulate-equal, tabulate-get_or}
use Rattle.fri_soundness.specs.Curves.{Row, Decoding, Meets, HasValues, IsClose, IsCorrelated, IsBad, AreRows}
use Rattle.fri_soundness.proofs.Counting.{any, kept, each_map, count-both, length-kept, kept-pass}
use Rattle.fri_soundness.proofs.Counting.{each-kept, none-kept, count_from_all_but, distinct-kept}
use Rattle.fri_soundness.proofs.OneRound.{meets, meets-true, true-meets, has, has-true, true-has}
use Rattle.fri_soundness.proofs.OneRound.{each-take, length-taken, distinct-take}

module _ {A : Type 0} (F : FieldOps A) (L : IsField F) (rows : List (Row A)) (k l e : ℕ)
    (R : AreRows F rows k l e) (beta : A) (c : List A) (close : IsClose F rows k e beta c) where
  abbrev decoding : Decoding A
  decoding = record { beta = beta; polynomial = c }

  abbrev met : List (Row A)
  met = kept (meets F L decoding) rows

  abbrev some_met : List (Row A)
  some_met = take k met

  abbrev points : List A
  points = map (λ (row : Row A). row.point) some_met

  abbrev column : ℕ → List A
  column j = map (λ (row : Row A). get_or row.entries j F.zero) some_met

  abbrev candidates : List (List A)
  candidates = tabulate (suc l) (λ j. interpolant F points (column j))

  enough_met : k ≤ length met
  enough_met = omega (
    arith,
    length-kept (meets F L decoding) rows,
    count-both (meets F L decoding) rows,
    R.enough,
    count_from_all_but (Meets F beta c) (λ row. not (meets F L decoding row)) (λ row m. ap not (true-meets F L decoding row m)) e rows close.meets,
  )

  points_distinct : Distinct points
  points_distinct = distinct-take (λ (row : Row A). row.point) k met
      (distinct-kept (λ (row : Row A). row.point) (meets F L decoding) rows (distinct_from_AllPairs (map (λ (row : Row A). row.point) rows) R.distinct))

  length-points : length points ≡ k
  length-points = length-map some_met (λ (row : Row A). row.point) ∙ length-taken k met enough_met

  column_through : (j : ℕ) → Interpolates F points (column j) (interpolant F points (column j))
  column_through j = interpolant_interpolates F L points (column j)
      (length-map some_met (λ (row : Row A). row.point) ∙ sym (length-map some_met (λ (row : Row A). get_or row.entries j F.zero))) points_distinct

  each-tabulate : {X : Type 0} (P : X → Type 0) (n : ℕ) (f : ℕ → X) → ((i : ℕ) → P (f i)) → Each P (tabulate n f)
  each-tabulate P zero f h = tt
  each-tabulate P (suc n) f h = (h zero, each-tabulate P n (λ i. f (suc i)) (λ i. h (suc i)))

  degrees : Each (λ p. length p ≡ k) candidates
  degrees = each-tabulate (λ p. length p ≡ k) (suc l) (λ j. interpolant F points (column j)) (λ j. (column_through j).count ∙ length-points)

  -- candidates with the words' values at every row that is met are the agreement
  correlated : any (λ row. not (has F L candidates row)) met ≡ false → IsCorrelated F rows k l beta c
  correlated none = record {
    polynomials = candidates;
    count = length-tabulate (suc l) (λ j. interpolant F points (column j)) ∙ (let s : suc l ≡ l + 1 = omega arith in s);
    degrees = All_from_each (λ p. length p ≡ k) candidates degrees;
    values = All_from_each (λ row. Meets F beta c row → HasValues F candidates row) rows
        (each_map (λ row. meets F L decoding row ≡ true → not (has F L candidates row) ≡ false) (λ row. Meets F beta c row → HasValues F candidates row)
        (λ row h m. has-true F L candidates row (not-false (has F L candidates row) (h (true-meets F L decoding row m)))) rows
        (none-kept (meets F L decoding) (λ row. not (has F L candidates row)) rows none));
  }

  -- no other polynomials can be
  module _ (x : IsCorrelated F rows k l beta c) where
    has_values : Each (λ row. HasValues F x.polynomials row) met
    has_values =
        each_both_to met (each-kept (λ row. Meets F beta c row → HasValues F x.polynomials row) (meets F L decoding) rows
        (each_from_All (λ row. Meets F beta c row → HasValues F x.polynomials row) rows x.values)) (kept-pass (meets F L decoding) rows)
      where
        each_both_to : (rs : List (Row A)) → Each (λ row. Meets F beta c row → HasValues F x.polynomials row) rs
            → Each (λ row. meets F L decoding row ≡ true) rs → Each (λ row. HasValues F x.polynomials row) rs
        each_both_to [] h g = tt
        each_both_to (r ∷ rs) h g = (h.0 (meets-true F L decoding r g.0), each_both_to rs h.1 g.1)

    in_column : (j : ℕ) → j < length x.polynomials → (rs : List (Row A)) → Each (λ row. HasValues F x.polynomials row) rs
        → map (λ z. val F (get_or x.polynomials j []) z) (map (λ (row : Row A). row.point) rs) ≡ map (λ (row : Row A). get_or row.entries j F.zero) rs
    in_column j l [] h = refl
    in_column j l (r ∷ rs) h = ap₂ (λ v vs. v ∷ vs)
        (sym (get_or-map (λ p. val F p r.point) x.polynomials j [] F.zero l) ∙ ap (λ us. get_or us j F.zero) (sym h.0))
        (in_column j l rs h.1)

    one_is : (j : ℕ) → j < suc l → interpolant F points (column j) ≡ get_or x.polynomials j []
    one_is j b =
        let inside : j < length x.polynomials = omega (arith, b, x.count) in
        interpolates_unique F L points (column j) (interpolant F points (column j)) (get_or x.polynomials j []) points_distinct (column_through j)
        (record {
          count = x.degrees j [] inside ∙ sym length-points;
          values = in_column j inside some_met (each-take (λ row. HasValues F x.polynomials row) k met has_values);
        })

    candidates_are : candidates ≡ x.polynomials
    candidates_are = tabulate-equal (suc l) (λ j. interpolant F points (column j)) (λ j. get_or x.polynomials j []) one_is
        ∙ tabulate-get_or (suc l) x.polynomials [] (omega (arith, x.count))

    none_misses : any (λ row. not (has F L candidates row)) met ≡ false
    none_misses = none met (subst (λ ps. Each (λ row. HasValues F ps row) met) (sym candidates_are) has_values)
      where
        none : (rs : List (Row A)) → Each (λ row. HasValues F candidates row) rs → any (λ row. not (has F L candidates row)) rs ≡ false
        none [] h = refl
        none (r ∷ rs) h = rw (true-has F L candidates r h.0) (none rs h.1)

  pub correlated_decided : Dec (IsCorrelated F rows k l beta c)
  correlated_decided = elim (cases_Bool (any (λ row. not (has F L candidates row)) met)) [
    | inr none ↦ yes (correlated none)
    | inl some ↦ no (λ x. both_ways (any (λ row. not (has F L candidates row)) met) (none_misses x) some)
  ]

  -- at a challenge that isn't bad there is agreement
  pub correlated_unless_bad : ¬ (IsBad F rows k l e beta) → IsCorrelated F rows k l beta c
  correlated_unless_bad good = elim correlated_decided [
    | yes x ↦ x
    | no n ↦ absurd (good (record { polynomial = c; close = close; uncorrelated = n }))
  ]
