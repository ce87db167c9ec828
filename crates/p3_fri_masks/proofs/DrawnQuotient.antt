-- A quotient whose chunks are masked by drawn values is what it was.
use Rattle.std.proofs.Common.{◌≡◌, ◌≢◌, ℕ, zero, suc, ◌+◌, ◌-◌, ◌*◌, ◌^◌, ◌<◌, ◌≤◌, List, [], ◌∷◌, length, map}
use Rattle.std.proofs.Common.{get_or, refl, sym, ap, ap₂, subst, ◌∙◌, arith}
use Rattle.std.proofs.lemmas.List.{length-map, get_or-map, get_or_append_left}
use Rattle.rand_core.specs.Stream.{Stream}
use Rattle.algebra.specs.Field.{FieldOps, IsField, IsHomomorphism}
use Rattle.algebra.specs.Polynomial.{val}
use Rattle.algebra.specs.Interpolation.{interpolant}
use Rattle.algebra.specs.TwoAdic.{AreRoots}
use Rattle.algebra.specs.RecombinedQuotients.{ChunksApart, recombined, chunk_factor}
use Rattle.algebra.proofs.Interpolation.{interpolant_interpolates}
use Rattle.algebra.proofs.Lists.{Each, length-tabulate, distinct_from_AllPairs}
use Rattle.algebra.proofs.PolynomialProduct.{sum_below-equal}
use Rattle.p3_field_core.specs.Coset.{coset_point, coset_points}
use Rattle.p3_field_core.proofs.Cosets.{natural_distinct}
use Rattle.p3_matrix.specs.declared.dense.RowMajorMatrix.{RowMajorMatrix}
use Rattle.p3_matrix.specs.Columns.{rows_with_random_columns}
use Rattle.p3_matrix.specs.Matrix.{rows, matrix_width}
use Rattle.p3_matrix.specs.Words.{past, randoms}
use Rattle.p3_dft.specs.Strided.{strided}
use Rattle.p3_dft.proofs.Sizes.{double_next}
use Rattle.p3_fri_masks.specs.Draws.{random_rows}
use Rattle.p3_fri_masks.proofs.WiderRows.{each_width}
use Rattle.p3_fri_masks.proofs.RandomRows.{length-random_rows, length-random_row}
use Rattle.p3_fri_masks.specs.QuotientDraws.{chunks_with_random_columns, past_columns}
use Rattle.p3_fri_masks.specs.MaskedChunks.{column_of, masked_polynomial}
use Rattle.p3_fri_masks.specs.QuotientLdes.{CanBeMasked, first_log_size, first_width, mask_size, masks_drawn}
use Rattle.p3_fri_masks.proofs.Columns.{length-masked, length-strided}
use Rattle.p3_fri_masks.proofs.ManyMasks.{chunk_height, first_within}
use Rattle.p3_fri_masks.proofs.Recombination.{masked_chunks_recombine}

-- an entry of a list, with its images
pub record EntryOf {X : Type 0} (xs : List X) (i : ℕ) : Type 0 where
  pub entry : X
  pub here : get_or xs i entry ≡ entry

pub entry_of : {X : Type 0} (xs : List X) (i : ℕ) → i < length xs → EntryOf xs i
entry_of [] i l = absurd (omega (arith, l))
entry_of (x ∷ xs) zero l = record { entry = x; here = refl }
entry_of (x ∷ xs) (suc i) l =
    let e = entry_of xs i (omega (arith, l)) in record { entry = e.entry; here = e.here }

pub image_of : {X Y : Type 0} (g : X → Y) (xs : List X) (i : ℕ) (d : Y) → i < length xs
    → (e : EntryOf xs i) → get_or (map g xs) i d ≡ g e.entry
image_of g xs i d l e = get_or-map g xs i e.entry d l ∙ ap g e.here

-- recombined quotients of the same values
pub recombined_agree : {E : Type 0} (K : FieldOps E) (n k : ℕ) (s v v' : ℕ → E) (z : E)
    → ((i : ℕ) → i < n → v i ≡ v' i) → recombined K n k s v z ≡ recombined K n k s v' z
unfolding recombined
recombined_agree K n k s v v' z same =
    sum_below-equal K n (λ i. K.mul (v i) (chunk_factor K n k s i z))
    (λ i. K.mul (v' i) (chunk_factor K n k s i z))
    (λ i l. ap (λ x. K.mul x (chunk_factor K n k s i z)) (same i l))

-- random columns on the right change none of the columns
module _ {A : Type 0} (F : FieldOps A) (f : ℕ → A) (r : ℕ) where
  column_kept : (width : ℕ) (rs : List (List A)) (s : Stream)
      → Each (λ row. length row ≡ width) rs → (j : ℕ) → j < width
      → column_of F (rows_with_random_columns f r rs s) j ≡ column_of F rs j
  column_kept width [] s h j l = refl
  column_kept width (row ∷ rs) s h j l =
      ap₂ (λ x xs. x ∷ xs)
      (get_or_append_left row (randoms f r s) F.zero j (omega (arith, l, h.0)))
      (column_kept width rs (past r s) h.1 j l)

  -- the rows of a chunk with random columns
  module _ {C : Type 0} (entries : C → List (List A)) where
    chunk_widened : (chunks : List C) (s : Stream) (i : ℕ) → i < length chunks → (e : EntryOf chunks i)
        → (t : Stream) × (get_or (chunks_with_random_columns f r (map entries chunks) s) i []
        ≡ rows_with_random_columns f r (entries e.entry) t)
    chunk_widened [] s i l e = absurd (omega (arith, l))
    chunk_widened (c ∷ chunks) s zero l e =
        (s, ap (λ c. rows_with_random_columns f r (entries c) s) e.here)
    chunk_widened (c ∷ chunks) s (suc i) l e =
        chunk_widened chunks (past (length (entries c) * r) s) i (omega (arith, l))
        (record { entry = e.entry; here = e.here })

module _ {A E D : Type 0} (F : FieldOps A) (K : FieldOps E) (lift : A → E) (L : IsField F)
    (M : IsField K) (H : IsHomomorphism F K lift) (top : ℕ) (w : ℕ → A) (W : AreRoots F top w)
    (shift : D → A) (log_size : D → ℕ) (off_zero : (d : D) → shift d ≢ F.zero) (b : ℕ)
    (chunks : List (D × RowMajorMatrix A)) (can : CanBeMasked F shift log_size top b chunks)
    (f : ℕ → A) (r : ℕ) (s : Stream) where
  abbrev k : ℕ
  k = first_log_size log_size chunks

  abbrev v : ℕ
  v = first_width chunks

  abbrev shifts : List A
  shifts = map (λ e. shift e.0) chunks

  abbrev wide : List (List (List A))
  wide = chunks_with_random_columns f r (map (λ e. rows e.1) chunks) s

  abbrev masks : List (List A)
  masks = masks_drawn F shift log_size f r chunks s

  -- the polynomial of a column of a chunk with its mask
  abbrev pub masked_at : (i j : ℕ) → List A
  masked_at i j = masked_polynomial F w k (get_or shifts i F.zero) (v + r) (get_or wide i [])
      (get_or masks i []) j

  many_shifts : length shifts ≡ length chunks
  many_shifts = length-map chunks (λ (e : D × RowMajorMatrix A). shift e.0)

  shift_nonzero : (i : ℕ) → i < length chunks → get_or shifts i F.zero ≢ F.zero
  shift_nonzero i l e =
      let x = entry_of chunks i l in
      off_zero x.entry.0 (sym (image_of (λ c. shift c.0) chunks i F.zero l x) ∙ e)

  within : k + 1 + b ≤ top
  within = first_within log_size top b chunks can.some can.within

  pub masked_degree : (i j : ℕ) → i < length chunks → length (masked_at i j) ≡ 2 ^ (k + 1)
  masked_degree i j l =
      length-masked F L.ring (get_or shifts i F.zero) k 1 q t (q_length ∙ one (2 ^ k))
      (length-strided F L.ring (v + r) (2 ^ k) (get_or masks i []) j ∙ one (2 ^ k))
      ∙ sym (double_next k ∙ one (2 ^ k + 2 ^ k))
    where
      q : List A
      q = interpolant F (coset_points F (w k) (get_or shifts i F.zero) k)
          (column_of F (get_or wide i []) j)

      t : List A
      t = strided F (v + r) (2 ^ k) (get_or masks i []) j

      one : (n : ℕ) → n ≡ n * 1
      one n = omega arith

      q_length : length q ≡ 2 ^ k
      q_length =
          (interpolant_interpolates F L (coset_points F (w k) (get_or shifts i F.zero) k)
          (column_of F (get_or wide i []) j)
          (length-tabulate (2 ^ k) (coset_point F (w k) (get_or shifts i F.zero))
          ∙ sym (chunk_height F L.ring shift log_size top b chunks can f r s i l)
          ∙ sym (length-map (get_or wide i []) (λ row. get_or row j F.zero)))
          (distinct_from_AllPairs (coset_points F (w k) (get_or shifts i F.zero) k)
          (natural_distinct F L top w W k (omega (arith, within)) (get_or shifts i F.zero)
          (shift_nonzero i l)))).count
          ∙ length-tabulate (2 ^ k) (coset_point F (w k) (get_or shifts i F.zero))

  -- the polynomial of a column of a chunk as it was handed in
  abbrev pub given_at : (i j : ℕ) → List A
  given_at i j = interpolant F (coset_points F (w k) (get_or shifts i F.zero) k)
      (column_of F (get_or (map (λ e. rows e.1) chunks) i []) j)

  column_given : (i j : ℕ) → i < length chunks → j < v
      → column_of F (get_or wide i []) j
      ≡ column_of F (get_or (map (λ e. rows e.1) chunks) i []) j
  column_given i j l below =
      let x = entry_of chunks i l in
      let widened = chunk_widened F f r (λ (e : D × RowMajorMatrix A). rows e.1) chunks s i l x in
      ap (λ rs. column_of F rs j) widened.1
      ∙ column_kept F f r (matrix_width x.entry.1) (rows x.entry.1) widened.0
      (each_width x.entry.1) j (omega (arith, below, wide_as_first x))
      ∙ ap (λ rs. column_of F rs j)
      (sym (image_of (λ (e : D × RowMajorMatrix A). rows e.1) chunks i [] l x))
    where
      wide_as_first : (x : EntryOf chunks i) → matrix_width x.entry.1 ≡ v
      wide_as_first x = ap (λ (e : D × RowMajorMatrix A). matrix_width e.1) (sym x.here)
          ∙ can.widths i x.entry l

  -- at each point, each column of the chunks recombines to what it did before
  pub recombined_kept : (z : E) (j : ℕ) → j < v
      → recombined K (length chunks) k (λ i. lift (get_or shifts i F.zero))
      (λ i. val K (map lift (masked_at i j)) z) z
      ≡ recombined K (length chunks) k (λ i. lift (get_or shifts i F.zero))
      (λ i. val K (map lift (given_at i j)) z) z
  recombined_kept z j below =
      ap (λ n. recombined K n k (λ i. lift (get_or shifts i F.zero))
      (λ i. val K (map lift (masked_at i j)) z) z) (sym all)
      ∙ masked_chunks_recombine F K lift L M H top w W m k (v + r) shifts wide random
      (omega (arith, within)) (many_shifts ∙ sym all)
      (λ i l. shift_nonzero i (omega (arith, l, all)))
      (subst (λ n. ChunksApart F n k (λ i. get_or shifts i F.zero))
      (length-map chunks (λ (e : D × RowMajorMatrix A). log_size e.0) ∙ sym all)
      can.disjoint.apart)
      (λ i l. chunk_height F L.ring shift log_size top b chunks can f r s i (omega (arith, l, all)))
      (length-random_rows f m size t) (λ i l. length-random_row f m size t i l) z j
      (omega (arith, below))
      ∙ ap (λ n. recombined K n k (λ i. lift (get_or shifts i F.zero))
      (λ i. val K (map lift (interpolant F (coset_points F (w k) (get_or shifts i F.zero) k)
      (column_of F (get_or wide i []) j))) z) z) all
      ∙ recombined_agree K (length chunks) k (λ i. lift (get_or shifts i F.zero))
      (λ i. val K (map lift (interpolant F (coset_points F (w k) (get_or shifts i F.zero) k)
      (column_of F (get_or wide i []) j))) z) (λ i. val K (map lift (given_at i j)) z) z
      (λ i l. ap (λ ys. val K (map lift (interpolant F
      (coset_points F (w k) (get_or shifts i F.zero) k) ys)) z) (column_given i j l below))
    where
      m : ℕ
      m = length chunks - 1

      all : suc m ≡ length chunks
      all = omega (arith, can.some)

      size : ℕ
      size = mask_size log_size r chunks

      t : Stream
      t = past_columns r (map (λ e. rows e.1) chunks) s

      random : List (List A)
      random = random_rows f m size t
