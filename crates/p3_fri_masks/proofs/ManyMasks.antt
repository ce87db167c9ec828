-- Chunks with random columns fit the masks that are drawn for them.
use Rattle.std.proofs.Common.{◌≡◌, ℕ, zero, suc, ◌+◌, ◌-◌, ◌*◌, ◌^◌, ◌<◌, ◌≤◌, ◌⊎◌, inl, inr, List, [], ◌∷◌, ◌++◌, length, map, All}
use Rattle.std.proofs.Common.{get_or, refl, sym, ap, ap₂, subst, ◌∙◌, arith, length-append, replicate}
use Rattle.std.specs.Prelude.{Result, Ok, Err, IfOk}
use Rattle.std.proofs.lemmas.Bool.{cases_lt}
use Rattle.std.proofs.lemmas.List.{length-map, get_or-map, get_or_append_left, get_or_default}
use Rattle.rand_core.specs.Stream.{Stream}
use Rattle.algebra.specs.Field.{FieldOps, IsRing}
use Rattle.algebra.specs.RecombinedQuotients.{combined}
use Rattle.algebra.proofs.Lists.{Each, each_from_All, map-map}
use Rattle.p3_matrix.specs.declared.dense.RowMajorMatrix.{RowMajorMatrix}
use Rattle.p3_matrix.specs.Matrix.{rows, matrix_width}
use Rattle.p3_matrix.specs.Columns.{rows_with_random_columns}
use Rattle.p3_matrix.specs.Words.{past}
use Rattle.p3_fri_masks.specs.Draws.{random_rows}
use Rattle.p3_fri_masks.proofs.RandomRows.{length-random_rows, length-random_row}
use Rattle.p3_fri_masks.specs.QuotientDraws.{chunks_with_random_columns, past_columns}
use Rattle.p3_fri_masks.specs.MaskedChunks.{FitMasks, HoldMaskedChunks}
use Rattle.p3_fri_masks.specs.QuotientMasks.{mask_factors, balancing_mask, quotient_masks}
use Rattle.p3_fri_masks.specs.QuotientLdes.{CanBeMasked, first_log_size, first_width, mask_size, masks_drawn, past_masks, AreMaskedChunks}
use Rattle.p3_fri_masks.proofs.Columns.{length-combined}
use Rattle.p3_fri_masks.proofs.ChunkWords.{entry_after}

-- lists of numbers, entry by entry
module _ {X : Type 0} (f g : X → ℕ) where
  mapped_each : (xs : List X) → Each (λ x. f x ≡ g x) xs → map f xs ≡ map g xs
  mapped_each [] h = refl
  mapped_each (x ∷ xs) h = ap₂ (λ y ys. y ∷ ys) h.0 (mapped_each xs h.1)

  mapped_as : (xs : List X) → All (λ x. f x ≡ g x) xs → map f xs ≡ map g xs
  mapped_as xs h = mapped_each xs (each_from_All (λ x. f x ≡ g x) xs h)

module _ {A : Type 0} (f : ℕ → A) (r : ℕ) where
  length-wider_rows : (rs : List (List A)) (s : Stream)
      → length (rows_with_random_columns f r rs s) ≡ length rs
  length-wider_rows [] s = refl
  length-wider_rows (row ∷ rs) s = ap suc (length-wider_rows rs (past r s))

  -- the chunks keep their heights
  pub heights_kept : (chunks : List (List (List A))) (s : Stream)
      → map length (chunks_with_random_columns f r chunks s) ≡ map length chunks
  heights_kept [] s = refl
  heights_kept (c ∷ chunks) s =
      ap₂ (λ n ns. n ∷ ns) (length-wider_rows c s) (heights_kept chunks (past (length c * r) s))

constant_at : {X : Type 0} (n : ℕ) (xs : List X) (i d : ℕ) → i < length xs
    → get_or (map (λ x. n) xs) i d ≡ n
constant_at n [] i d l = absurd (omega (arith, l))
constant_at n (x ∷ xs) zero d l = refl
constant_at n (x ∷ xs) (suc i) d l = constant_at n xs i d (omega (arith, l))

-- where some list has an image, so has each that has the same images
pub some_mapped : {X Y : Type 0} (f : X → ℕ) (h : Y → ℕ) (xs : List X) (ys : List Y)
    → map f xs ≡ map h ys → 0 < length ys → 0 < length xs
some_mapped f h xs ys same some =
    omega (arith, some, length-map xs f, length-map ys h, ap length same)

-- the greatest cosets lie within the two-adicity
module _ {A D : Type 0} (log_size : D → ℕ) (top b : ℕ) where
  pub first_within : (cs : List (D × RowMajorMatrix A)) → 0 < length cs
      → All (λ e. log_size e.0 + 1 + b ≤ top) cs → first_log_size log_size cs + 1 + b ≤ top
  first_within [] some h = absurd (omega (arith, some))
  first_within (c ∷ cs) some h = h 0 c (omega arith)

-- what can be masked for words can be masked for fewer
pub can_for_fewer : {A D : Type 0} (F : FieldOps A) (shift : D → A) (log_size : D → ℕ) (top b : ℕ)
    (chunks given : List (D × RowMajorMatrix A)) → given ≡ chunks
    → CanBeMasked F shift log_size top b chunks → CanBeMasked F shift log_size top 0 given
can_for_fewer F shift log_size top b chunks given same can =
    subst (λ es. CanBeMasked F shift log_size top 0 es) (sym same)
    (record {
      some = can.some;
      heights = can.heights;
      widths = can.widths;
      within = λ i d l. omega (arith, can.within i d l);
      disjoint = can.disjoint;
    })

-- of chunks that can be masked
module _ {A D : Type 0} (F : FieldOps A) (R : IsRing F) (shift : D → A) (log_size : D → ℕ)
    (top b : ℕ) (chunks : List (D × RowMajorMatrix A))
    (can : CanBeMasked F shift log_size top b chunks) (f : ℕ → A) (r : ℕ) (s : Stream) where
  abbrev count : ℕ
  count = length chunks - 1

  -- the masks that are drawn for them
  module _ (masks : List (List A)) (drawn : masks ≡ masks_drawn F shift log_size f r chunks s) where
    abbrev size : ℕ
    size = mask_size log_size r chunks

    abbrev random : List (List A)
    random = random_rows f count size (past_columns r (map (λ e. rows e.1) chunks) s)

    abbrev last : List A
    last = balancing_mask F count size
        (mask_factors F count (first_log_size log_size chunks) (map (λ e. shift e.0) chunks)) random

    many_random : length random ≡ count
    many_random = length-random_rows f count size (past_columns r (map (λ e. rows e.1) chunks) s)

    random_size : (i : ℕ) → i < count → length (get_or random i []) ≡ size
    random_size i l =
        length-random_row f count size (past_columns r (map (λ e. rows e.1) chunks) s) i l

    last_size : length last ≡ size
    last_size =
        length-map (combined F count
        (λ i. get_or (mask_factors F count (first_log_size log_size chunks)
        (map (λ e. shift e.0) chunks)) i F.zero) (λ i. get_or random i []) (replicate size F.zero))
        (λ a. F.mul (F.neg F.one) a)
        ∙ length-combined F R size count
        (λ i. get_or (mask_factors F count (first_log_size log_size chunks)
        (map (λ e. shift e.0) chunks)) i F.zero) (λ i. get_or random i []) random_size

    pub many_masks : length masks ≡ length chunks
    many_masks = ap length drawn ∙ length-append random (last ∷ [])
        ∙ (let e : length random + 1 ≡ length chunks = omega (arith, many_random, can.some) in e)

    pub mask_sizes : All (λ mask. length mask ≡ size) masks
    mask_sizes i d l =
        ap (λ ms. length (get_or ms i d)) drawn ∙ found (cases_lt i count)
      where
        found : (i < count) ⊎ (count ≤ i) → length (get_or (random ++ last ∷ []) i d) ≡ size
        found (inl below) =
            ap length (get_or_append_left random (last ∷ []) d i (omega (arith, below, many_random))
            ∙ get_or_default random i d [] (omega (arith, below, many_random)))
            ∙ random_size i below
        found (inr past) =
            ap (λ n. length (get_or (random ++ last ∷ []) n d))
            (let e : i ≡ length random = omega (arith, past, l, many_masks, many_random, can.some) in e)
            ∙ ap length (entry_after random [] last d) ∙ last_size

  chunk_log_sizes : map length (map (λ e. rows e.1) chunks)
      ≡ map (λ n. 2 ^ n) (map (λ e. log_size e.0) chunks)
  chunk_log_sizes =
      map-map length (λ (e : D × RowMajorMatrix A). rows e.1) chunks
      ∙ mapped_as (λ e. length (rows e.1)) (λ e. 2 ^ log_size e.0) chunks can.heights
      ∙ sym (map-map (λ n. 2 ^ n) (λ (e : D × RowMajorMatrix A). log_size e.0) chunks)

  -- the chunks with random columns
  pub many_chunks : length (chunks_with_random_columns f r (map (λ e. rows e.1) chunks) s)
      ≡ length chunks
  many_chunks =
      sym (length-map (chunks_with_random_columns f r (map (λ e. rows e.1) chunks) s) length)
      ∙ ap length (heights_kept f r (map (λ e. rows e.1) chunks) s)
      ∙ length-map (map (λ (e : D × RowMajorMatrix A). rows e.1) chunks) length
      ∙ length-map chunks (λ (e : D × RowMajorMatrix A). rows e.1)

  pub chunk_height : (i : ℕ) → i < length chunks
      → length (get_or (chunks_with_random_columns f r (map (λ e. rows e.1) chunks) s) i [])
      ≡ 2 ^ first_log_size log_size chunks
  chunk_height i l =
      sym (get_or-map length (chunks_with_random_columns f r (map (λ e. rows e.1) chunks) s) i [] 0
      (omega (arith, l, many_chunks)))
      ∙ ap (λ ns. get_or ns i 0)
      (heights_kept f r (map (λ e. rows e.1) chunks) s ∙ chunk_log_sizes)
      ∙ get_or-map (λ n. 2 ^ n) (map (λ e. log_size e.0) chunks) i 0 0 inside
      ∙ ap (λ n. 2 ^ n) (can.disjoint.one_size i 0 inside)
    where
      inside : i < length (map (λ e. log_size e.0) chunks)
      inside = omega (arith, l, length-map chunks (λ (e : D × RowMajorMatrix A). log_size e.0))

  -- their rows with random columns
  module _ (wider : List (RowMajorMatrix A))
      (widened : map rows wider ≡ chunks_with_random_columns f r (map (λ e. rows e.1) chunks) s)
      (widths : map matrix_width wider ≡ map (λ e. matrix_width e.1 + r) chunks) where
    pub many_wider : length wider ≡ length chunks
    many_wider = sym (length-map wider matrix_width) ∙ ap length widths
        ∙ length-map chunks (λ e. matrix_width e.1 + r)

    heights_are : map (λ m. length (rows m)) wider
        ≡ map (λ n. 2 ^ n) (map (λ e. log_size e.0) chunks)
    heights_are =
        sym (map-map length rows wider) ∙ ap (λ cs. map length cs) widened
        ∙ heights_kept f r (map (λ e. rows e.1) chunks) s ∙ chunk_log_sizes

    pub height_at : All (λ m. length (rows m) ≡ 2 ^ first_log_size log_size chunks) wider
    height_at i d l =
        sym (get_or-map (λ m. length (rows m)) wider i d 0 l)
        ∙ ap (λ ns. get_or ns i 0) heights_are
        ∙ get_or-map (λ n. 2 ^ n) (map (λ e. log_size e.0) chunks) i 0 0 inside
        ∙ ap (λ n. 2 ^ n) (can.disjoint.one_size i 0 inside)
      where
        inside : i < length (map (λ e. log_size e.0) chunks)
        inside = omega (arith, l, many_wider, length-map chunks (λ (e : D × RowMajorMatrix A). log_size e.0))

    widths_are : map matrix_width wider ≡ map (λ e. first_width chunks + r) chunks
    widths_are = widths
        ∙ mapped_as (λ e. matrix_width e.1 + r) (λ e. first_width chunks + r) chunks
        (λ i d l. ap (λ n. n + r) (can.widths i d l))

    pub width_at : All (λ m. matrix_width m ≡ first_width chunks + r) wider
    width_at i d l =
        sym (get_or-map matrix_width wider i d 0 l) ∙ ap (λ ns. get_or ns i 0) widths_are
        ∙ constant_at (first_width chunks + r) chunks i 0 (omega (arith, l, many_wider))

    pub first_wide : get_or (map matrix_width wider) 0 0 ≡ first_width chunks + r
    first_wide = ap (λ ns. get_or ns 0 0) widths_are
        ∙ constant_at (first_width chunks + r) chunks 0 0 can.some

    -- as many coefficients as a mask has
    pub size_by_first : (first second : RowMajorMatrix A) (height width size : ℕ)
        → first ≡ get_or wider 0 first → second ≡ get_or wider 0 second
        → height ≡ length (rows first) → width ≡ matrix_width second → size ≡ height * width
        → size ≡ mask_size log_size r chunks
    size_by_first first second height width size first_is second_is tall wide is =
        is ∙ ap₂ (λ m n. m * n)
        (tall ∙ ap (λ m. length (rows m)) first_is ∙ height_at 0 first some)
        (wide ∙ ap matrix_width second_is ∙ width_at 0 second some)
      where
        some : 0 < length wider
        some = omega (arith, many_wider, can.some)

    pub fit_masks : (masks : List (List A)) → masks ≡ masks_drawn F shift log_size f r chunks s
        → FitMasks top b (first_log_size log_size chunks) (get_or (map matrix_width wider) 0 0)
        (map (λ e. log_size e.0) chunks) wider masks
    fit_masks masks drawn =
        subst (λ n. FitMasks top b (first_log_size log_size chunks) n
        (map (λ e. log_size e.0) chunks) wider masks) (sym first_wide)
        (record {
          one_size = can.disjoint.one_size;
          count = many_wider ∙ as_many;
          heights = height_at;
          widths = width_at;
          count_masks = many_masks masks drawn ∙ as_many;
          sizes = mask_sizes masks drawn;
          within = first_within log_size top b chunks can.some can.within;
        })
      where
        as_many : length chunks ≡ length (map (λ e. log_size e.0) chunks)
        as_many = sym (length-map chunks (λ (e : D × RowMajorMatrix A). log_size e.0))

    -- the words that are held are those of the chunks with random columns and masks
    pub held_as_drawn : (w : ℕ → A) (g : A) (given : List (D × RowMajorMatrix A))
        (masks : List (List A)) (ldes : List (RowMajorMatrix A)) → given ≡ chunks
        → masks ≡ masks_drawn F shift log_size f r chunks s
        → HoldMaskedChunks F w (first_log_size log_size given) g b (map (λ e. shift e.0) given)
        (get_or (map matrix_width wider) 0 0) (map rows wider) masks ldes
        → AreMaskedChunks F shift log_size f r chunks s w g b ldes
    held_as_drawn w g given masks ldes same drawn h =
        subst (λ ms. HoldMaskedChunks F w (first_log_size log_size chunks) g b
        (map (λ e. shift e.0) chunks) (first_width chunks + r)
        (chunks_with_random_columns f r (map (λ e. rows e.1) chunks) s) ms ldes) drawn
        (subst (λ cs. HoldMaskedChunks F w (first_log_size log_size chunks) g b
        (map (λ e. shift e.0) chunks) (first_width chunks + r) cs masks ldes) widened
        (subst (λ n. HoldMaskedChunks F w (first_log_size log_size chunks) g b
        (map (λ e. shift e.0) chunks) n (map rows wider) masks ldes) first_wide
        (subst (λ es. HoldMaskedChunks F w (first_log_size log_size es) g b
        (map (λ e. shift e.0) es) (get_or (map matrix_width wider) 0 0) (map rows wider) masks ldes)
        same h)))

-- the masks that were made are those that are drawn after the random columns
module _ {A D : Type 0} (F : FieldOps A) (shift : D → A) (log_size : D → ℕ) (f : ℕ → A) (r : ℕ)
    (chunks : List (D × RowMajorMatrix A)) (s : Stream) where
  pub made_as_drawn : (given : List (D × RowMajorMatrix A)) (size : ℕ) (now : Stream)
      (masks : List (List A)) → given ≡ chunks → size ≡ mask_size log_size r chunks
      → now ≡ past_columns r (map (λ e. rows e.1) chunks) s
      → masks ≡ quotient_masks F (length given - 1) (first_log_size log_size given) size
      (map (λ e. shift e.0) given) (random_rows f (length given - 1) size now)
      → masks ≡ masks_drawn F shift log_size f r chunks s
  made_as_drawn given size now masks same size_is now_is made =
      made
      ∙ ap (λ es. quotient_masks F (length es - 1) (first_log_size log_size es) size
      (map (λ e. shift e.0) es) (random_rows f (length es - 1) size now)) same
      ∙ ap₂ (λ n t. quotient_masks F (length chunks - 1) (first_log_size log_size chunks) n
      (map (λ e. shift e.0) chunks) (random_rows f (length chunks - 1) n t)) size_is now_is

  pub past_as_drawn : (given : List (D × RowMajorMatrix A)) (size : ℕ) (now next : Stream)
      → given ≡ chunks → size ≡ mask_size log_size r chunks
      → now ≡ past_columns r (map (λ e. rows e.1) chunks) s
      → next ≡ past ((length given - 1) * size) now → next ≡ past_masks log_size r chunks s
  past_as_drawn given size now next same size_is now_is after =
      after ∙ ap (λ es. past ((length es - 1) * size) now) same
      ∙ ap₂ (λ n t. past ((length chunks - 1) * n) t) size_is now_is

pub if_ok : {T E : Type 0} (r : Result T E) (P : T → Type 0) → ((x : T) → P x) → IfOk r P
if_ok (Ok x) P h = h x
if_ok (Err e) P h = tt
