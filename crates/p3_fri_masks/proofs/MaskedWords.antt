-- The words of a masked chunk: its coefficients, row after row, with zeros below, and their values.
use Rattle.std.proofs.Common.{◌≡◌, ◌≢◌, ◌≤◌, ◌<◌, ℕ, ◌+◌, ◌-◌, ◌*◌, ◌^◌, List, [], ◌∷◌, ◌++◌, length, map, replicate}
use Rattle.std.proofs.Common.{refl, sym, ap, ap₂, ◌∙◌, arith, get_or, length-append}
use Rattle.std.proofs.Math.ListN.{get_or-map}
use Rattle.std.proofs.Math.Nat.{pow-le-pow_right}
use Rattle.std.proofs.lemmas.List.{length-map, length-replicate}
use Rattle.std.proofs.lemmas.Nat.{mul-le}
use Rattle.algebra.specs.Field.{FieldOps, IsField, IsRing}
use Rattle.algebra.specs.Polynomial.{val}
use Rattle.algebra.specs.Interpolation.{interpolant}
use Rattle.algebra.specs.TwoAdic.{AreRoots, pt}
use Rattle.algebra.specs.Digits.{rev}
use Rattle.algebra.specs.Words.{coset_word}
use Rattle.algebra.specs.RecombinedQuotients.{masked_chunk}
use Rattle.algebra.proofs.Lists.{length-tabulate, map-tabulate, tabulate-equal, distinct_from_AllPairs, Distinct}
use Rattle.algebra.proofs.Interpolation.{interpolant_interpolates, interpolates_unique}
use Rattle.algebra.proofs.Values.{val-padded}
use Rattle.p3_field_core.specs.Index.{bit_reversed}
use Rattle.p3_field_core.specs.Coset.{coset_point, coset_points}
use Rattle.p3_field_core.proofs.Cosets.{natural_distinct}
use Rattle.p3_field_core.proofs.IndexReversal.{length-bit_reversed, bit_reversed-tabulate}
use Rattle.p3_matrix.specs.declared.dense.RowMajorMatrix.{RowMajorMatrix}
use Rattle.p3_matrix.specs.Matrix.{rows, matrix_width}
use Rattle.p3_dft.specs.Evaluations.{column, AreEvaluations}
use Rattle.p3_dft.specs.Strided.{strided}
use Rattle.p3_dft.proofs.Sizes.{double_next}
use Rattle.p3_dft.proofs.Columns.{Holds, column-strided, length-held}
use Rattle.p3_fri_masks.specs.MaskedChunks.{HoldsMaskedChunk}
use Rattle.p3_fri_masks.proofs.Columns.{strided-append, strided-zeros, strided-masked_chunk, length-masked}

map-bit_reversed : {A B : Type 0} (f : A → B) (k : ℕ) (xs : List A)
    → map f (bit_reversed k xs) ≡ bit_reversed k (map f xs)
unfolding bit_reversed
map-bit_reversed f k [] = refl
map-bit_reversed f k (x ∷ xs) =
    map-tabulate f (2 ^ k) (λ i. get_or (x ∷ xs) (rev k i) x)
    ∙ tabulate-equal (2 ^ k) (λ i. f (get_or (x ∷ xs) (rev k i) x))
    (λ i. get_or (map f (x ∷ xs)) (rev k i) (f x))
    (λ i l. sym (get_or-map f (x ∷ xs) (rev k i) x))

module _ {A : Type 0} (F : FieldOps A) (L : IsField F) (top : ℕ) (w : ℕ → A) (W : AreRoots F top w) where
  -- what a chunk's columns are interpolated to
  pub coefficients_are : (s : A) → s ≢ F.zero → (k : ℕ) → k ≤ top
      → (chunk coefficients : RowMajorMatrix A) → length (rows chunk) ≡ 2 ^ k
      → AreEvaluations F (coset_points F (w k) s k) coefficients chunk
      → (j : ℕ) → j < matrix_width chunk
      → column F coefficients j ≡ interpolant F (coset_points F (w k) s k) (column F chunk j)
  coefficients_are s off k b chunk coefficients height known j l =
      interpolates_unique F L points (column F chunk j) (column F coefficients j)
      (interpolant F points (column F chunk j)) distinct
      (known.columns j (omega (arith, l, known.width)))
      (interpolant_interpolates F L points (column F chunk j)
      (length-tabulate (2 ^ k) (coset_point F (w k) s) ∙ sym height
      ∙ sym (length-map (rows chunk) (λ entries. get_or entries j F.zero))) distinct)
    where
      points : List A
      points = coset_points F (w k) s k

      distinct : Distinct points
      distinct = distinct_from_AllPairs points (natural_distinct F L top w W k b s off)

  -- the values of a matrix of coefficients on a coset, in bit-reversed order
  pub reversed_words : (shift : A) (n : ℕ) (coefficients values words : RowMajorMatrix A)
      → AreEvaluations F (coset_points F (w n) shift n) coefficients values
      → rows words ≡ bit_reversed n (rows values) → (j : ℕ) → j < matrix_width coefficients
      → column F words j ≡ coset_word F w shift n (column F coefficients j)
  unfolding pt
  reversed_words shift n coefficients values words known order j l =
      ap (λ rs. map (λ entries. get_or entries j F.zero) rs) order
      ∙ map-bit_reversed (λ entries. get_or entries j F.zero) n (rows values)
      ∙ ap (λ ys. bit_reversed n ys) (sym (known.columns j l).values
      ∙ map-tabulate (λ x. val F (column F coefficients j) x) (2 ^ n) (coset_point F (w n) shift))
      ∙ bit_reversed-tabulate n (λ i. val F (column F coefficients j) (coset_point F (w n) shift i))

  -- polynomials with the same values have the same word
  pub same_words : (shift : A) (n : ℕ) (c d : List A) → ((x : A) → val F c x ≡ val F d x)
      → coset_word F w shift n c ≡ coset_word F w shift n d
  same_words shift n c d same =
      tabulate-equal (2 ^ n) (λ i. val F c (F.mul shift (pt F w i n)))
      (λ i. val F d (F.mul shift (pt F w i n))) (λ i l. same (F.mul shift (pt F w i n)))

module _ {A : Type 0} (F : FieldOps A) (R : IsRing F) where
  doubled : (k b : ℕ) → 2 ^ (k + 1 + b) ≡ (2 ^ k + 2 ^ k) + (2 ^ (k + 1 + b) - (2 ^ k + 2 ^ k))
  doubled k b = omega (arith, pow-le-pow_right {n = 2} (omega arith) {i = k + 1} {j = k + 1 + b} (omega arith), twice k)
    where
      twice : (k : ℕ) → 2 ^ (k + 1) ≡ 2 ^ k + 2 ^ k
      twice k = double_next k

  -- a column of the coefficients with zeros below them has the values of the masked polynomial
  pub val-masked_column : (s : A) (k b width : ℕ) (cs ts : List A) (n j : ℕ) (x : A)
      → length cs ≡ 2 ^ k * width → length ts ≡ 2 ^ k * width → j < width
      → val F (strided F width (2 ^ (k + 1 + b)) (masked_chunk F s k cs ts ++ replicate n F.zero) j) x
      ≡ val F (masked_chunk F s k (strided F width (2 ^ k) cs j) (strided F width (2 ^ k) ts j)) x
  val-masked_column s k b width cs ts n j x a c l =
      ap (λ h. val F (strided F width h (masked_chunk F s k cs ts ++ replicate n F.zero) j) x)
      (doubled k b)
      ∙ ap (λ ys. val F ys x)
      (strided-append F R width (2 ^ k + 2 ^ k) (2 ^ (k + 1 + b) - (2 ^ k + 2 ^ k))
      (masked_chunk F s k cs ts) (replicate n F.zero) j size l
      ∙ ap₂ (λ ys zs. ys ++ zs) (strided-masked_chunk F R s k width cs ts j a c l)
      (strided-zeros F R width (2 ^ (k + 1 + b) - (2 ^ k + 2 ^ k)) n j))
      ∙ val-padded F R (masked_chunk F s k (strided F width (2 ^ k) cs j) (strided F width (2 ^ k) ts j))
      (2 ^ (k + 1 + b) - (2 ^ k + 2 ^ k)) x
    where
      size : length (masked_chunk F s k cs ts) ≡ (2 ^ k + 2 ^ k) * width
      size = length-masked F R s k width cs ts a c

module _ {A : Type 0} (F : FieldOps A) (L : IsField F) (top : ℕ) (w : ℕ → A) (W : AreRoots F top w)
    (s g : A) (off : s ≢ F.zero) (k b : ℕ) (within : k + 1 + b ≤ top) where
  pub holds_masked_chunk : (chunk coefficients padded values words : RowMajorMatrix A)
      (width n : ℕ) (mask cs ps : List A) → length (rows chunk) ≡ 2 ^ k
      → AreEvaluations F (coset_points F (w k) s k) coefficients chunk
      → Holds coefficients width (2 ^ k) cs → Holds padded width (2 ^ (k + 1 + b)) ps
      → ps ≡ masked_chunk F s k cs mask ++ replicate n F.zero → length mask ≡ 2 ^ k * width
      → AreEvaluations F (coset_points F (w (k + 1 + b)) g (k + 1 + b)) padded values
      → rows words ≡ bit_reversed (k + 1 + b) (rows values)
      → matrix_width words ≡ matrix_width values
      → HoldsMaskedChunk F w k g b s width (rows chunk) mask words
  holds_masked_chunk chunk coefficients padded values words width n mask cs ps height known given made are size evaluated order as_wide =
      record {
        columns = as_wide ∙ evaluated.width ∙ made.columns;
        height = ap length order ∙ length-bit_reversed (k + 1 + b) (rows values)
            (evaluated.height ∙ length-held F padded width (2 ^ (k + 1 + b)) ps made);
        words = λ j l.
            reversed_words F L top w W g (k + 1 + b) padded values words evaluated order j
            (omega (arith, l, made.columns))
            ∙ ap (λ c. coset_word F w g (k + 1 + b) c)
            (column-strided F padded width (2 ^ (k + 1 + b)) ps made j l
            ∙ ap (λ xs. strided F width (2 ^ (k + 1 + b)) xs j) are)
            ∙ same_words F L top w W g (k + 1 + b)
            (strided F width (2 ^ (k + 1 + b)) (masked_chunk F s k cs mask ++ replicate n F.zero) j)
            (masked_chunk F s k (strided F width (2 ^ k) cs j) (strided F width (2 ^ k) mask j))
            (λ x. val-masked_column F L.ring s k b width cs mask n j x given.size size l)
            ∙ ap (λ q. coset_word F w g (k + 1 + b)
            (masked_chunk F s k q (strided F width (2 ^ k) mask j)))
            (sym (column-strided F coefficients width (2 ^ k) cs given j l)
            ∙ coefficients_are F L top w W s off k (omega (arith, within)) chunk coefficients height
            known j (omega (arith, l, known.width, given.columns)));
      }

pub room_for_mask : (k b width m size : ℕ) → m ≡ 2 ^ k * width → size ≡ 2 ^ (k + 1 + b) * width
    → m + m ≤ size
room_for_mask k b width m size e is =
    omega (arith, e, is, mul-le (2 ^ k + 2 ^ k) width (2 ^ (k + 1 + b)) width fewer (omega arith))
  where
    fewer : 2 ^ k + 2 ^ k ≤ 2 ^ (k + 1 + b)
    fewer = omega (arith, double_next k, pow-le-pow_right {n = 2} (omega arith) {i = k + 1} {j = k + 1 + b} (omega arith))

pub length-masked_and_padded : {A : Type 0} (F : FieldOps A) → IsRing F → (s : A) (k width size : ℕ)
    (cs ts : List A) → length cs ≡ 2 ^ k * width → length ts ≡ 2 ^ k * width
    → length ts + length ts ≤ size
    → length (masked_chunk F s k cs ts ++ replicate (size - (length ts + length ts)) F.zero) ≡ size
length-masked_and_padded F R s k width size cs ts a c room =
    length-append (masked_chunk F s k cs ts) (replicate (size - (length ts + length ts)) F.zero)
    ∙ ap₂ (λ x y. x + y)
    (length-masked F R s k width cs ts a c
    ∙ (let e : (2 ^ k + 2 ^ k) * width ≡ length ts + length ts = omega (arith, c) in e))
    (length-replicate (size - (length ts + length ts)) F.zero)
    ∙ omega (arith, room)
