-- The columns of an extension with its rows in bit-reversed order.
use Rattle.std.proofs.Common.{◌≡◌, ◌≤◌, ◌<◌, ℕ, ◌+◌, ◌^◌, List, [], ◌∷◌, length, get_or, map, refl}
use Rattle.std.proofs.Common.{sym, ap, ap₂, ◌∙◌, arith}
use Rattle.std.proofs.Math.ListN.{get_or-map}
use Rattle.std.proofs.lemmas.List.{length-map}
use Rattle.algebra.specs.Field.{FieldOps, IsField, pow}
use Rattle.algebra.specs.Polynomial.{val, tabulate}
use Rattle.algebra.specs.Interpolation.{interpolant}
use Rattle.algebra.specs.TwoAdic.{AreRoots, pt}
use Rattle.algebra.specs.Words.{coset_word}
use Rattle.algebra.specs.Digits.{rev}
use Rattle.algebra.proofs.Lists.{length-tabulate, map-tabulate, tabulate-equal}
use Rattle.algebra.proofs.Interpolation.{interpolant_interpolates}
use Rattle.p3_field_core.specs.Index.{bit_reversed}
use Rattle.p3_field_core.specs.Coset.{coset_point, coset_points}
use Rattle.p3_field_core.proofs.IndexReversal.{length-bit_reversed, bit_reversed-tabulate}
use Rattle.p3_matrix.specs.declared.dense.RowMajorMatrix.{RowMajorMatrix}
use Rattle.p3_matrix.specs.Matrix.{rows, matrix_width}
use Rattle.p3_dft.specs.Evaluations.{subgroup_points, column, extension, AreCosetExtensions}
use Rattle.p3_dft.specs.CosetWords.{column_polynomial, HoldsCosetWords, ExtensionsAreWords}
use Rattle.p3_dft.proofs.Coefficients.{points_distinct}

map-bit_reversed : {A B : Type 0} (f : A → B) (k : ℕ) (xs : List A) → map f (bit_reversed k xs) ≡ bit_reversed k (map f xs)
unfolding bit_reversed
map-bit_reversed f k [] = refl
map-bit_reversed f k (x ∷ xs) =
    map-tabulate f (2 ^ k) (λ i. get_or (x ∷ xs) (rev k i) x)
    ∙ tabulate-equal (2 ^ k) (λ i. f (get_or (x ∷ xs) (rev k i) x)) (λ i. get_or (map f (x ∷ xs)) (rev k i) (f x))
    (λ i l. sym (get_or-map f (x ∷ xs) (rev k i) x))

module _ {A : Type 0} (F : FieldOps A) (L : IsField F) (top : ℕ) (w : ℕ → A) (W : AreRoots F top w) where
  -- the values on a coset, in bit-reversed order
  reversed_values : (shift : A) (n : ℕ) (c : List A)
      → bit_reversed n (map (λ x. val F c x) (coset_points F (w n) shift n)) ≡ coset_word F w shift n c
  unfolding pt
  reversed_values shift n c =
      ap (λ ys. bit_reversed n ys) (map-tabulate (λ x. val F c x) (2 ^ n) (coset_point F (w n) shift))
      ∙ bit_reversed-tabulate n (λ i. val F c (coset_point F (w n) shift i))

  pub extensions_are_words : ExtensionsAreWords F w top
  extensions_are_words shift k added values extended words b size known order width = record {
    width = width ∙ known.width;
    height = ap length order ∙ length-bit_reversed (k + added) (rows extended) all;
    columns = λ j l.
        ap (λ rs. map (λ entries. get_or entries j F.zero) rs) order
        ∙ map-bit_reversed (λ entries. get_or entries j F.zero) (k + added) (rows extended)
        ∙ ap (λ ys. bit_reversed (k + added) ys) (known.columns j l)
        ∙ reversed_values shift (k + added) (column_polynomial F w k values j);
    values_on_subgroup = λ j l.
        interpolant_interpolates F L (subgroup_points F (w k) k) (column F values j)
        (length-tabulate (2 ^ k) (λ i. pow F (w k) i) ∙ sym size ∙ sym (length-map (rows values) (λ entries. get_or entries j F.zero)))
        (points_distinct F L top w W k (omega (arith, b)));
  }
    where
      all : length (rows extended) ≡ 2 ^ (k + added)
      all = known.height ∙ length-tabulate (2 ^ (k + added)) (coset_point F (w (k + added)) shift)
