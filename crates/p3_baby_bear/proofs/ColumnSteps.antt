-- Sums of columns, four rows more at a time, by lanes and by coefficients.
use Rattle.std.proofs.Common.{◌≡◌, ℕ, zero, suc, ◌+◌, ◌-◌, ◌*◌, ◌<◌, ◌≤◌, List, length, take, drop}
use Rattle.std.proofs.Common.{get_or, refl, sym, ap, ap₂, ◌∙◌, ◌⊎◌, inl, inr, arith}
use Rattle.std.specs.Prelude.{replicate}
use Rattle.std.proofs.lemmas.List.{get_or-take, get_or-drop, length-take-le, get_or-replicate}
use Rattle.std.proofs.Math.Nat.{mul-le-mul_right}
use Rattle.algebra.specs.Field.{FieldOps, IsRing, multiple}
use Rattle.algebra.specs.Polynomial.{sum_below}
use Rattle.algebra.proofs.RingLaws.{add_four, multiple-zero}
use Rattle.algebra.proofs.PolynomialProduct.{sum_below-equal}
use Rattle.p3_field_core.specs.RowSums.{column_term}
use Rattle.p3_field_core.proofs.ColumnSums.{term_is}
use Rattle.p3_field_core.proofs.TermSums.{one_more, item}
use Rattle.p3_baby_bear.specs.declared.baby_bear.BabyBear.{BabyBear}
use Rattle.p3_baby_bear.specs.declared.baby_bear4.BabyBear4.{BabyBear4}
use Rattle.p3_baby_bear.specs.BabyBear.{baby_bear}
use Rattle.p3_baby_bear.specs.BabyBearLaws.{baby_bear_laws}
use Rattle.p3_baby_bear.specs.BabyBear4.{baby_bear4, lift4, coefficients4}
use Rattle.p3_baby_bear.specs.BabyBear4Laws.{scaled_is}

module _ {A : Type 0} (F : FieldOps A) (R : IsRing F) where
  -- four terms more
  pub four_more : (n : ℕ) (f : ℕ → A) (a b c d : A) → a ≡ f n → b ≡ f (n + 1) → c ≡ f (n + 2)
      → d ≡ f (n + 3)
      → F.add (sum_below F n f) (F.add (F.add (F.add a b) c) d) ≡ sum_below F (n + 4) f
  four_more n f a b c d p q r t =
      let s = sum_below F n f in
      add_four F R s a b c d
      ∙ one_more F R (n + 3) f (F.add (F.add (F.add s a) b) c) d
      (one_more F R (n + 2) f (F.add (F.add s a) b) c
      (one_more F R (n + 1) f (F.add s a) b (one_more F R n f s a refl p) q
      ∙ ap (λ k. sum_below F k f) (let o : n + 1 + 1 ≡ n + 2 = omega arith in o)) r
      ∙ ap (λ k. sum_below F k f) (let o : n + 2 + 1 ≡ n + 3 = omega arith in o)) t
      ∙ ap (λ k. sum_below F k f) (let o : n + 3 + 1 ≡ n + 4 = omega arith in o)

-- the sum over some of the rows, and their weights, alone
pub rows_between : {A E : Type 0} (F : FieldOps A) (K : FieldOps E) (lift : A → E) (w : ℕ)
    (weights : List E) (rows : List A) (j s n m : ℕ) → j < w → n * w ≤ m
    → sum_below K n
    (column_term F K lift w (take n (drop s weights)) (take m (drop (s * w) rows)) j)
    ≡ sum_below K n (λ i. column_term F K lift w weights rows j (s + i))
rows_between F K lift w weights rows j s n m l enough = sum_below-equal K n _ _ (λ i h. ap₂
    (λ a b. K.mul a (lift b))
    (get_or-take n (drop s weights) i K.zero h ∙ get_or-drop s weights i K.zero)
    (get_or-take m (drop (s * w) rows) (i * w + j) F.zero
    (let o : (i + 1) * w ≤ n * w = mul-le-mul_right w (let p : i + 1 ≤ n = omega (arith, h) in p) in
    omega (arith, o, l, enough))
    ∙ get_or-drop (s * w) rows (i * w + j) F.zero
    ∙ ap (λ k. get_or rows k F.zero)
    (let o : s * w + (i * w + j) ≡ (s + i) * w + j = omega arith in o)))

pub span : (s e w : ℕ) → s ≤ e → (e - s) * w ≤ e * w - s * w
span s e w l =
    omega (arith, ap (λ k. k * w) (let o : e ≡ s + (e - s) = omega (arith, l) in o))

-- a coefficient of a sum of columns, by the coefficients of the weights
module _ (part : BabyBear4 → BabyBear) (of_zero : part baby_bear4.zero ≡ baby_bear.zero)
    (of_sum : (a b : BabyBear4) → part (baby_bear4.add a b) ≡ baby_bear.add (part a) (part b))
    (of_scaled : (a : BabyBear4) (x : BabyBear)
    → part (baby_bear4.mul a (lift4 x)) ≡ baby_bear.mul (part a) x) where
  part_of_sum : (n : ℕ) (f : ℕ → BabyBear4)
      → part (sum_below baby_bear4 n f) ≡ sum_below baby_bear n (λ i. part (f i))
  unfolding sum_below
  part_of_sum zero f = of_zero
  part_of_sum (suc n) f =
      of_sum (f zero) (sum_below baby_bear4 n (λ i. f (suc i)))
      ∙ ap (λ s. baby_bear.add (part (f zero)) s) (part_of_sum n (λ i. f (suc i)))

  pub part_of_column : (n w : ℕ) (weights : List BabyBear4) (factors : List BabyBear)
      (rows : List BabyBear) (j : ℕ)
      → ((i : ℕ) → i < n → get_or factors i baby_bear.zero ≡ part (get_or weights i baby_bear4.zero))
      → sum_below baby_bear n (column_term baby_bear baby_bear (λ x. x) w factors rows j)
      ≡ part (sum_below baby_bear4 n (column_term baby_bear baby_bear4 lift4 w weights rows j))
  part_of_column n w weights factors rows j same =
      sum_below-equal baby_bear n _ _ (λ i l.
      ap (λ a. baby_bear.mul a (get_or rows (i * w + j) baby_bear.zero)) (same i l)
      ∙ sym (of_scaled (get_or weights i baby_bear4.zero) (get_or rows (i * w + j) baby_bear.zero)))
      ∙ sym (part_of_sum n (column_term baby_bear baby_bear4 lift4 w weights rows j))

-- one lane of a product, of the factor of row `i` and the entry of a column
pub lane_term : (w : ℕ) (factors rows : List BabyBear) (column l i start : ℕ)
    (read a b p : BabyBear) → start + l ≡ i * w + (column + l) → p ≡ baby_bear.mul a b → a ≡ read
    → read ≡ get_or factors i baby_bear.zero → b ≡ get_or rows (start + l) baby_bear.zero
    → p ≡ column_term baby_bear baby_bear (λ x. x) w factors rows (column + l) i
lane_term w factors rows column l i start read a b p at e f g h =
    term_is baby_bear baby_bear (λ x. x) w factors rows (column + l) i p a b e (f ∙ g)
    (h ∙ ap (λ k. get_or rows k baby_bear.zero) at)

-- the same of each coefficient, where the factors stand first in a longer list
module _ (n w : ℕ) (weights : List BabyBear4) (all rows : List BabyBear) (j : ℕ)
    (long : n ≤ length all) where
  abbrev sum_of_factors : BabyBear
  sum_of_factors = sum_below baby_bear (length (take n all))
      (column_term baby_bear baby_bear (λ x. x) w (take n all) rows j)

  abbrev sum_of_weights : BabyBear4
  sum_of_weights =
      sum_below baby_bear4 n (column_term baby_bear baby_bear4 lift4 w weights rows j)

  first : (part : BabyBear4 → BabyBear) → part baby_bear4.zero ≡ baby_bear.zero
      → ((a b : BabyBear4) → part (baby_bear4.add a b) ≡ baby_bear.add (part a) (part b))
      → ((a : BabyBear4) (x : BabyBear)
      → part (baby_bear4.mul a (lift4 x)) ≡ baby_bear.mul (part a) x)
      → ((i : ℕ) → i < n → get_or all i baby_bear.zero ≡ part (get_or weights i baby_bear4.zero))
      → sum_of_factors ≡ part sum_of_weights
  first part z s m same =
      ap (λ k. sum_below baby_bear k (column_term baby_bear baby_bear (λ x. x) w (take n all) rows j))
      (length-take-le n all long)
      ∙ part_of_column part z s m n w weights (take n all) rows j
      (λ i l. get_or-take n all i baby_bear.zero l ∙ same i l)

  abbrev Coefficients : ℕ → Type 0
  Coefficients k = (i : ℕ) → i < n → get_or all i baby_bear.zero
      ≡ get_or (coefficients4 (get_or weights i baby_bear4.zero)) k baby_bear.zero

  pub constants_of_column : Coefficients 0 → sum_of_factors ≡ sum_of_weights.constant
  unfolding baby_bear4
  constants_of_column same = first (λ (x : BabyBear4). x.constant) refl (λ a b. refl)
      (λ a x. ap (λ (x : BabyBear4). x.constant) (sym (scaled_is a x))) same

  pub linears_of_column : Coefficients 1 → sum_of_factors ≡ sum_of_weights.linear
  unfolding baby_bear4
  linears_of_column same = first (λ (x : BabyBear4). x.linear) refl (λ a b. refl)
      (λ a x. ap (λ (x : BabyBear4). x.linear) (sym (scaled_is a x))) same

  pub quadratics_of_column : Coefficients 2 → sum_of_factors ≡ sum_of_weights.quadratic
  unfolding baby_bear4
  quadratics_of_column same = first (λ (x : BabyBear4). x.quadratic) refl (λ a b. refl)
      (λ a x. ap (λ (x : BabyBear4). x.quadratic) (sym (scaled_is a x))) same

  pub cubics_of_column : Coefficients 3 → sum_of_factors ≡ sum_of_weights.cubic
  unfolding baby_bear4
  cubics_of_column same = first (λ (x : BabyBear4). x.cubic) refl (λ a b. refl)
      (λ a x. ap (λ (x : BabyBear4). x.cubic) (sym (scaled_is a x))) same

-- what is said of the first ones, and of each of the eight after them
pub added_by_eight : (new wanted : ℕ → BabyBear4) (g : ℕ)
    → ((k : ℕ) → k < 8 * g → new k ≡ wanted k)
    → ((l : ℕ) → l < 8 → new (8 * g + l) ≡ wanted (8 * g + l))
    → (k : ℕ) → k < 8 * (g + 1) → new k ≡ wanted k
added_by_eight new wanted g before here k h =
    let s : (k < 8 * g) ⊎ (8 * g ≤ k) = grind arith in
    elim s [
      | inl l ↦ before k l
      | inr l ↦
          let e : 8 * g + (k - 8 * g) ≡ k = omega (arith, l) in
          ap new (sym e) ∙ here (k - 8 * g) (omega (arith, l, h)) ∙ ap wanted e
    ]

-- no numbers count nothing
pub none_counts : (ns : List ℕ) (k : ℕ) → k < 8 → ns ≡ replicate 8 0
    → multiple baby_bear (get_or ns k 0) ≡ baby_bear.zero
none_counts ns k l e =
    ap (λ ms. multiple baby_bear (get_or ms k 0)) e ∙ ap (multiple baby_bear) (get_or-replicate 8 k 0 0 l)
    ∙ multiple-zero baby_bear baby_bear_laws.ring

-- what was read at an index, by another word for it
pub item_at : (rows : List BabyBear) (i j : ℕ) (x : BabyBear) → i ≡ j → i < length rows
    → x ≡ get_or rows i x → x ≡ get_or rows j baby_bear.zero
item_at rows i j x e l is = item rows i x baby_bear.zero l is ∙ ap (λ k. get_or rows k baby_bear.zero) e
