-- Bytes that are written one part after the other, and messages of one length side by side.
use borrow.Rule.Slice.PartMut.{put_mid}
use Rattle.std.proofs.Common.{◌≡◌, ℕ, ◌+◌, ◌-◌, ◌*◌, ◌<◌, ◌≤◌, List, [], ◌∷◌, ◌++◌, length, get_or}
use Rattle.std.proofs.Common.{take, drop, ap, ap₂, sym, ◌∙◌, arith, below_more, slice_set, slice_index_or, map, ◌/◌}
use Rattle.std.specs.List.{flat_map}
use Rattle.std.proofs.lemmas.List.{take_more, flat_map_more, drop-take, take_at, drop_at, drop_all, length-drop, append-nil}
use Rattle.std.proofs.lemmas.List.{length-append, length-take, length-map, at_drop_more}
use Rattle.std.proofs.lemmas.List.{get_or_default}
use Rattle.std.proofs.lemmas.Nat.{row_fits}
use Rattle.std.proofs.lemmas.Slice.{take-put_mid, take-put_mid_below, between-put_mid}
use Rattle.sha256_lanes.specs.Lanes.{message_of}
use Rattle.algebra.proofs.Lists.{entry_of_map}
use Rattle.p3_matrix.specs.declared.dense.RowMajorMatrix.{RowMajorMatrix}
use Rattle.p3_matrix.specs.Matrix.{rows, matrix_width}
use Rattle.p3_mmcs.specs.Batch.{dimensions_of, opened_row}
use Rattle.p3_mmcs.specs.Encoding.{rows_length}

-- behind what was written stands the part of one element more
pub written_more : {X : Type 0} (f : X → List ℕ) (head : List ℕ) (xs : List X) (i : ℕ) (x : X)
    (out part : List ℕ) (at k n : ℕ) → i < length xs → x ≡ get_or xs i x → at ≤ length out
    → part ≡ f x → n ≡ at + length part → take at out ≡ head ++ flat_map f (take i xs)
    → take n (put_mid at k out part) ≡ head ++ flat_map f (take (i + 1) xs)
written_more f head xs i x out part at k n within is room part_is next before =
    take-put_mid at k out part n next room
    ∙ ap₂ (λ us vs. us ++ vs) before part_is
    ∙ flat_map_more f head (take i xs) x
    ∙ ap (λ ys. head ++ flat_map f ys)
    (ap (λ y. take i xs ++ y ∷ []) is ∙ sym (take_more xs i x within))

-- the bytes are as many as before
pub length_written : (out part : List ℕ) (at k : ℕ) → at + k ≤ length out → length part ≡ k
    → length (put_mid at k out part) ≡ length out
length_written out part at k room same =
    omega (
      arith,
      room,
      same,
      length-append (take at out) (part ++ drop k (drop at out)),
      length-append part (drop k (drop at out)),
      length-take at out,
      length-drop k (drop at out),
      length-drop at out,
    )

module _ (len lane : ℕ) (messages message : List ℕ)
    (within : lane * len + len ≤ length messages) (same : length message ≡ len) where
  -- a message in another lane leaves those before it
  message_kept : (k : ℕ) → k < lane
      → message_of len k (put_mid (lane * len) ((lane + 1) * len - lane * len) messages message)
      ≡ message_of len k messages
  message_kept k below =
      let fits : k * len + len ≤ lane * len = row_fits k len lane len below (omega arith) in
      sym (drop-take (k * len) len _)
      ∙ ap (drop (k * len)) (take-put_mid_below (lane * len) ((lane + 1) * len - lane * len) messages
      message (k * len + len) fits (omega (arith, within)))
      ∙ drop-take (k * len) len messages

  -- and stands in its own
  message_written :
      message_of len lane (put_mid (lane * len) ((lane + 1) * len - lane * len) messages message)
      ≡ message
  message_written =
      let one : len ≡ (lane + 1) * len - lane * len = omega arith in
      ap (λ n. take n (drop (lane * len)
      (put_mid (lane * len) ((lane + 1) * len - lane * len) messages message))) one
      ∙ between-put_mid (lane * len) ((lane + 1) * len - lane * len) messages message
      ((lane + 1) * len) (omega (arith, within)) (same ∙ one)

  -- so with one lane more each lane up to it has its message
  pub messages_more : (f : ℕ → List ℕ) → ((k : ℕ) → k < lane → message_of len k messages ≡ f k)
      → message ≡ f lane → (k : ℕ) → k < lane + 1
      → message_of len k (put_mid (lane * len) ((lane + 1) * len - lane * len) messages message)
      ≡ f k
  messages_more f before here =
      below_more (λ k. message_of len k
      (put_mid (lane * len) ((lane + 1) * len - lane * len) messages message) ≡ f k) lane
      (λ k below. message_kept k below ∙ before k below)
      (message_written ∙ here)

-- the bytes of a node
pub node_written : (out left right : List ℕ) → length out ≡ 65 → length left ≡ 32
    → length right ≡ 32
    → put_mid 33 32 (put_mid 1 32 (slice_set out 0 1) left) right ≡ 1 ∷ left ++ right
node_written [] left right all l r = absurd (omega (arith, all))
node_written (b ∷ bs) left right all l r =
    ap₂ (λ us vs. 1 ∷ us ++ (right ++ vs)) (take_at left (drop 32 bs) 32 l)
    (ap (drop 32) (drop_at left (drop 32 bs) 32 l)
    ∙ drop_all 32 (drop 32 bs) (omega (arith, all, length-drop 32 bs)))
    ∙ ap (λ vs. 1 ∷ left ++ vs) (append-nil right)

module _ {T : Type 0} (matrices : List (RowMajorMatrix T)) (k : ℕ) (matrix : RowMajorMatrix T)
    (within : k < length matrices) (is : matrix ≡ get_or matrices k matrix) where
  -- the bytes of the rows from a matrix on
  pub rows_length_from : (len : ℕ) → rows_length len (dimensions_of (drop k matrices))
      ≡ 8 + len * matrix_width matrix + rows_length len (dimensions_of (drop (k + 1) matrices))
  rows_length_from len =
      at_drop_more (λ ms. rows_length len (dimensions_of ms)) matrices k matrix within
      ∙ ap (λ m. 8 + len * matrix_width m + rows_length len (dimensions_of (drop (k + 1) matrices)))
      (sym is)

  -- the row that is opened of it stands at its place among those opened
  pub opened_entry : (greatest index height : ℕ) (row : List T) → height ≡ length (rows matrix)
      → row ≡ slice_index_or (rows matrix) (index / (greatest / height)) []
      → row ≡ get_or (map (opened_row greatest index) matrices) k row
  opened_entry greatest index height row height_is row_is =
      row_is
      ∙ ap (λ n. slice_index_or (rows matrix) (index / (greatest / n)) []) height_is
      ∙ entry_of_map (opened_row greatest index) matrices k matrix within is
      ∙ get_or_default (map (opened_row greatest index) matrices) k
      (opened_row greatest index matrix) row
      (omega (arith, within, length-map matrices (opened_row greatest index)))
