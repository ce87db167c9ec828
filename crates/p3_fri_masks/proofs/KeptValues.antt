-- The values that polynomials of masked and padded columns have of the columns themselves.
use Rattle.std.proofs.Common.{◌≡◌, ℕ, suc, ◌+◌, ◌*◌, ◌^◌, ◌<◌, List, [], sym, ap, ◌∙◌, arith}
use Rattle.std.proofs.Common.{length, get_or, replicate}
use Rattle.std.proofs.lemmas.List.{get_or-map, get_or_append_left, get_or-replicate, length-replicate, length-map}
use Rattle.algebra.specs.Field.{FieldOps, IsField, pow}
use Rattle.algebra.specs.Polynomial.{val}
use Rattle.algebra.specs.TwoAdic.{AreRoots}
use Rattle.algebra.proofs.Lists.{map-tabulate, get_or-tabulate, tabulate-equal, tabulate-get_or}
use Rattle.algebra.proofs.Powers.{double, pow-square}
use Rattle.p3_field_core.specs.Coset.{coset_point}
use Rattle.p3_matrix.specs.declared.dense.RowMajorMatrix.{RowMajorMatrix}
use Rattle.p3_matrix.specs.Matrix.{rows, matrix_width}
use Rattle.p3_matrix.specs.Words.{past, randoms}
use Rattle.p3_matrix.proofs.Widths.{row_width}
use Rattle.p3_dft.specs.Evaluations.{column}
use Rattle.p3_fri_masks.specs.KeptValues.{HasValuesOn, IsHalved, MaskedColumnsKeepValues, PaddedColumnsKeepValues}
use Rattle.p3_fri_masks.proofs.KeptRows.{masks_between, zeros_between}

module _ {A : Type 0} (F : FieldOps A) (L : IsField F) (top : ℕ) (w : ℕ → A) (W : AreRoots F top w) where
  infixl 70 ◌⊗◌
  open F use {mul as ◌⊗◌}

  pub points_halved : (shift : A) (k : ℕ) → k < top → IsHalved F w shift k
  unfolding pow
  points_halved shift k l = record { even = λ i. ap (λ x. shift ⊗ x) (even_power i); odd = λ i. odd_point i }
    where
      even_power : (i : ℕ) → pow F (w (suc k)) (2 * i) ≡ pow F (w k) i
      even_power i =
          ap (λ n. pow F (w (suc k)) n) (let e : 2 * i ≡ i + i = omega arith in e)
          ∙ sym (pow-square F L.ring (w (suc k)) i)
          ∙ ap (λ x. pow F x i) (W.square k l)

      odd_point : (i : ℕ) → coset_point F (w (suc k)) shift (2 * i + 1) ≡ coset_point F (w k) (shift ⊗ w (suc k)) i
      odd_point i =
          ap (λ n. shift ⊗ pow F (w (suc k)) n) (let e : 2 * i + 1 ≡ suc (2 * i) = omega arith in e)
          ∙ ap (λ x. shift ⊗ (w (suc k) ⊗ x)) (even_power i)
          ∙ sym (L.mul_assoc shift (w (suc k)) (pow F (w k) i))

  -- an entry of a column of values is the value at its point
  pub value_at : (m : RowMajorMatrix A) (j : ℕ) (c : List A) (shift : A) (k n : ℕ) → n < 2 ^ k → length (rows m) ≡ 2 ^ k
      → HasValuesOn F w shift k c (column F m j)
      → val F c (coset_point F (w k) shift n) ≡ get_or (get_or (rows m) n []) j F.zero
  value_at m j c shift k n l tall is =
      sym (get_or-tabulate (2 ^ k) (λ i. val F c (coset_point F (w k) shift i)) n F.zero l)
      ∙ ap (λ ys. get_or ys n F.zero) (sym (map-tabulate (λ x. val F c x) (2 ^ k) (coset_point F (w k) shift)) ∙ is)
      ∙ get_or-map (λ row. get_or row j F.zero) (rows m) n [] F.zero (omega (arith, l, tall))

  -- a list is the values at points where each entry is
  values_by_entries : (c ys : List A) (shift : A) (k : ℕ) → length ys ≡ 2 ^ k
      → ((i : ℕ) → i < 2 ^ k → val F c (coset_point F (w k) shift i) ≡ get_or ys i F.zero)
      → HasValuesOn F w shift k c ys
  values_by_entries c ys shift k long h =
      map-tabulate (λ x. val F c x) (2 ^ k) (coset_point F (w k) shift)
      ∙ tabulate-equal (2 ^ k) (λ i. val F c (coset_point F (w k) shift i)) (λ i. get_or ys i F.zero) h
      ∙ tabulate-get_or (2 ^ k) ys F.zero long

  module _ (values wider : RowMajorMatrix A) (shift : A) (k : ℕ) (l : k < top) (tall : length (rows values) ≡ 2 ^ k)
      (twice : length (rows wider) ≡ 2 * length (rows values)) (j : ℕ) (c : List A)
      (has : HasValuesOn F w shift (suc k) c (column F wider j)) where
    wider_tall : length (rows wider) ≡ 2 ^ suc k
    wider_tall = omega (arith, twice, tall, double k)

    halved : IsHalved F w shift k
    halved = points_halved shift k l

    at_even : (i : ℕ) → i < 2 ^ k → val F c (coset_point F (w k) shift i) ≡ get_or (get_or (rows wider) (2 * i) []) j F.zero
    at_even i b =
        ap (λ x. val F c x) (sym (halved.even i))
        ∙ value_at wider j c shift (suc k) (2 * i) (omega (arith, b, double k)) wider_tall has

    at_odd : (i : ℕ) → i < 2 ^ k
        → val F c (coset_point F (w k) (shift ⊗ w (suc k)) i) ≡ get_or (get_or (rows wider) (2 * i + 1) []) j F.zero
    at_odd i b =
        ap (λ x. val F c x) (sym (halved.odd i))
        ∙ value_at wider j c shift (suc k) (2 * i + 1) (omega (arith, b, double k)) wider_tall has

    -- where each row of `values` begins the row at the even index, the values are kept
    even_kept : ((i : ℕ) → i < 2 ^ k → get_or (get_or (rows wider) (2 * i) []) j F.zero ≡ get_or (get_or (rows values) i []) j F.zero)
        → HasValuesOn F w shift k c (column F values j)
    even_kept same =
        values_by_entries c (column F values j) shift k (length-map (rows values) (λ row. get_or row j F.zero) ∙ tall)
        (λ i b. at_even i b ∙ same i b
        ∙ sym (get_or-map (λ row. get_or row j F.zero) (rows values) i [] F.zero (omega (arith, b, tall))))

    odd_kept : ((i : ℕ) → i < 2 ^ k → get_or (get_or (rows wider) (2 * i + 1) []) j F.zero ≡ F.zero)
        → HasValuesOn F w (shift ⊗ w (suc k)) k c (replicate (2 ^ k) F.zero)
    odd_kept none =
        values_by_entries c (replicate (2 ^ k) F.zero) (shift ⊗ w (suc k)) k (length-replicate (2 ^ k) F.zero)
        (λ i b. at_odd i b ∙ none i b ∙ sym (get_or-replicate (2 ^ k) i F.zero F.zero b))

  pub masked_columns_keep_values : MaskedColumnsKeepValues F w top
  masked_columns_keep_values from_word r s values masked is shift k l tall j c inside has =
      let between = masks_between from_word r (matrix_width values) (rows values) s in
      even_kept values masked shift k l tall (ap length is.entries ∙ between.height) j c has
      (λ i b.
      let below : i < length (rows values) = omega (arith, b, tall) in
      let own = get_or (rows values) i [] in
      let added = randoms from_word r (past (i * (matrix_width values + 2 * r)) s) in
      ap (λ rs. get_or (get_or rs (2 * i) []) j F.zero) is.entries
      ∙ ap (λ row. get_or row j F.zero) (between.even i below)
      ∙ get_or_append_left own added F.zero j (omega (arith, inside, row_width values i below)))

  pub padded_columns_keep_values : PaddedColumnsKeepValues F w top
  padded_columns_keep_values values padded is shift k l tall j c inside has =
      let between = zeros_between F.zero (matrix_width values) (rows values) in
      let twice = ap length is.entries ∙ between.height in (
        even_kept values padded shift k l tall twice j c has
            (λ i b.
            ap (λ rs. get_or (get_or rs (2 * i) []) j F.zero) is.entries
            ∙ ap (λ row. get_or row j F.zero) (between.even i (omega (arith, b, tall)))),
        odd_kept values padded shift k l tall twice j c has
            (λ i b.
            ap (λ rs. get_or (get_or rs (2 * i + 1) []) j F.zero) is.entries
            ∙ ap (λ row. get_or row j F.zero) (between.odd i (omega (arith, b, tall)))
            ∙ get_or-replicate (matrix_width values) j F.zero F.zero inside),
      )
