-- What the words of masked chunks hold: their sizes, their columns, and the quotient that they make.
use Rattle.std.proofs.Common.{◌≡◌, ◌≢◌, ℕ, zero, suc, ◌+◌, ◌-◌, ◌*◌, ◌/◌, ◌^◌, ◌<◌, ◌≤◌, List, [], ◌∷◌, length, map}
use Rattle.std.proofs.Common.{All, get_or, sym, ap, ap₂, subst, ◌∙◌, arith}
use Rattle.std.specs.List.{AllZip}
use Rattle.std.proofs.lemmas.List.{length-map, length-take-le, get_or-take, get_or-map}
use Rattle.std.proofs.Math.ListN.{get_or-map as mapped_at}
use mathlib.Core.Path.{fun_ext}
use Rattle.rand_core.specs.Stream.{Stream}
use Rattle.algebra.specs.Field.{FieldOps, IsField, IsHomomorphism}
use Rattle.algebra.specs.Interpolation.{interpolant}
use Rattle.algebra.specs.Polynomial.{val, tabulate}
use Rattle.algebra.specs.Quotients.{values_at}
use Rattle.algebra.specs.RecombinedQuotients.{recombined, recombined_columns}
use Rattle.algebra.specs.TwoAdic.{AreRoots}
use Rattle.algebra.specs.Words.{IsCosetWord}
use Rattle.algebra.proofs.Lists.{length-tabulate, get_or-tabulate, map-tabulate, map-map, tabulate-equal}
use Rattle.p3_field_core.specs.Coset.{coset_points}
use Rattle.p3_matrix.specs.declared.dense.RowMajorMatrix.{RowMajorMatrix}
use Rattle.p3_matrix.specs.Matrix.{rows, matrix_width}
use Rattle.p3_dft.specs.Evaluations.{column}
use Rattle.p3_dft.proofs.Sizes.{double_next}
use Rattle.p3_fri_extensions.specs.Extension.{polynomial_on}
use Rattle.p3_fri_relation.specs.Setting.{Fields}
use Rattle.p3_fri_openings.specs.Committed.{committed_column, committed_values}
use Rattle.p3_fri_openings.proofs.Committed.{committed_is}
use Rattle.p3_fri_openings.proofs.Log2.{pow-divided}
use Rattle.p3_fri_openings.specs.Held.{HoldsWords}
use Rattle.p3_fri_hiding_openings.specs.Chunks.{polynomials_on, recombined_on}
use Rattle.p3_fri_hiding_openings.specs.Ldes.{HasLdeHeight}
use Rattle.p3_fri_masks.specs.QuotientDraws.{chunks_with_random_columns}
use Rattle.p3_fri_masks.specs.MaskedChunks.{HoldsMaskedChunk, column_of}
use Rattle.p3_fri_masks.specs.QuotientLdes.{CanBeMasked, AreMaskedChunks, first_log_size, first_width, masks_drawn}
use Rattle.p3_fri_masks.proofs.DrawnQuotient.{EntryOf, entry_of, image_of, recombined_agree}
use Rattle.p3_fri_masks.proofs.DrawnQuotient.{masked_at, given_at, masked_degree, recombined_kept}
use Rattle.p3_fri_masks.proofs.ManyMasks.{many_chunks, first_within}
use Rattle.p3_fri_hiding_openings.specs.Shown.{shown_in}

-- lists entry by entry
zip_by_entries : {A B : Type 0} (R : A → B → Type 0) (xs : List A) (ys : List B)
    → length xs ≡ length ys
    → ((i : ℕ) (x : A) (y : B) → i < length xs → R (get_or xs i x) (get_or ys i y))
    → AllZip R xs ys
zip_by_entries R [] [] e h = tt
zip_by_entries R [] (y ∷ ys) e h = absurd (omega (arith, e))
zip_by_entries R (x ∷ xs) [] e h = absurd (omega (arith, e))
zip_by_entries R (x ∷ xs) (y ∷ ys) e h = (
  h zero x y (omega arith),
  zip_by_entries R xs ys (omega (arith, e)) (λ i a b l. h (suc i) a b (omega (arith, l))),
)

-- chunks with the same recombined columns
columns_agree : {E : Type 0} (K : FieldOps E) (k : ℕ) (shifts : List E) (rows others : List (List E))
    (z : E) (v : ℕ) → length (get_or rows 0 []) ≡ v → length (get_or others 0 []) ≡ v
    → ((j : ℕ) → j < v
    → recombined K (length shifts) k (λ i. get_or shifts i K.zero)
    (λ i. get_or (get_or rows i []) j K.zero) z
    ≡ recombined K (length shifts) k (λ i. get_or shifts i K.zero)
    (λ i. get_or (get_or others i []) j K.zero) z)
    → recombined_columns K k shifts rows z ≡ recombined_columns K k shifts others z
columns_agree K k shifts rows others z v wide others_wide same =
    ap (λ n. tabulate n (λ j. recombined K (length shifts) k (λ i. get_or shifts i K.zero)
    (λ i. get_or (get_or rows i []) j K.zero) z)) wide
    ∙ tabulate-equal v (λ j. recombined K (length shifts) k (λ i. get_or shifts i K.zero)
    (λ i. get_or (get_or rows i []) j K.zero) z)
    (λ j. recombined K (length shifts) k (λ i. get_or shifts i K.zero)
    (λ i. get_or (get_or others i []) j K.zero) z) same
    ∙ ap (λ n. tabulate n (λ j. recombined K (length shifts) k (λ i. get_or shifts i K.zero)
    (λ i. get_or (get_or others i []) j K.zero) z)) (sym others_wide)

-- the values of `n` polynomials
value_of_column : {A E : Type 0} (F : FieldOps A) (K : FieldOps E) (lift : A → E) (n : ℕ)
    (p : ℕ → List A) (z : E) (j : ℕ) → j < n
    → get_or (values_at F K lift (tabulate n p) z) j K.zero ≡ val K (map lift (p j)) z
value_of_column F K lift n p z j l =
    ap (λ ys. get_or ys j K.zero) (map-tabulate (λ c. val K (map lift c) z) n p)
    ∙ get_or-tabulate n (λ j. val K (map lift (p j)) z) j K.zero l

count_of_values : {A E : Type 0} (F : FieldOps A) (K : FieldOps E) (lift : A → E) (n : ℕ)
    (p : ℕ → List A) (z : E) → length (values_at F K lift (tabulate n p) z) ≡ n
count_of_values F K lift n p z =
    length-map (tabulate n p) (λ c. val K (map lift c) z) ∙ length-tabulate n p

-- of chunks on cosets of these shifts and sizes, and the words of the masked chunks
module _ {F E D : Type 0} (f : Fields F E) (L : IsField f.base) (M : IsField f.ext)
    (H : IsHomomorphism f.base f.ext f.lift) (W : AreRoots f.base f.two_adicity f.root)
    (nonzero : f.shift ≢ f.base.zero) (b r : ℕ) (shift : D → F) (log_size : D → ℕ)
    (off_zero : (d : D) → shift d ≢ f.base.zero) (chunks : List (D × RowMajorMatrix F))
    (can : CanBeMasked f.base shift log_size f.two_adicity b chunks) (from_word : ℕ → F)
    (s : Stream) (ldes : List (RowMajorMatrix F))
    (masked : AreMaskedChunks f.base shift log_size from_word r chunks s f.root f.shift b ldes)
  where
    abbrev k : ℕ
    k = first_log_size log_size chunks

    abbrev v : ℕ
    v = first_width chunks

    abbrev polynomial : (i j : ℕ) → List F
    polynomial i j = masked_at f.base f.ext f.lift L M H f.two_adicity f.root W shift log_size
        off_zero b chunks can from_word r s i j

    abbrev given : (i j : ℕ) → List F
    given i j = given_at f.base f.ext f.lift L M H f.two_adicity f.root W shift log_size
        off_zero b chunks can from_word r s i j

    many_ldes : length ldes ≡ length chunks
    many_ldes = masked.count
        ∙ many_chunks f.base L.ring shift log_size f.two_adicity b chunks can from_word r s

    within : k + 1 + b ≤ f.two_adicity
    within = first_within log_size f.two_adicity b chunks can.some can.within

    -- what the words of chunk `i` are of
    abbrev Held : (i : ℕ) → RowMajorMatrix F → Type 0
    Held i m = HoldsMaskedChunk f.base f.root k f.shift b
        (get_or (map (λ e. shift e.0) chunks) i f.base.zero) (v + r)
        (get_or (chunks_with_random_columns from_word r (map (λ e. rows e.1) chunks) s) i [])
        (get_or (masks_drawn f.base shift log_size from_word r chunks s) i []) m

    word_of : (i : ℕ) → i < length chunks → (m : RowMajorMatrix F) → Held i m → (j : ℕ)
        → j < matrix_width m
        → IsCosetWord f.base f.root f.shift (k + 1 + b) (2 ^ (k + 1)) (column f.base m j)
    word_of i l m held j below = record {
      polynomial = polynomial i j;
      degree = masked_degree f.base f.ext f.lift L M H f.two_adicity f.root W shift log_size
          off_zero b chunks can from_word r s i j l;
      values = held.words j (omega (arith, below, held.columns));
    }

    pub ldes_have_heights : All (HasLdeHeight f.two_adicity b) ldes
    ldes_have_heights i m l = record {
      log_size = k + 1;
      height = (masked.held i m l).height;
      within = within;
    }

    pub ldes_hold_words : All (HoldsWords f b) ldes
    ldes_hold_words i m l = record {
      log_size = k + 1;
      height = (masked.held i m l).height;
      columns = λ j below. word_of i (omega (arith, l, many_ldes)) (get_or ldes i m)
          (masked.held i m l) j below;
    }

    pub ldes_are_wide : All (λ m. r ≤ matrix_width m) ldes
    ldes_are_wide i m l = omega (arith, (masked.held i m l).columns)

    size_at : (i : ℕ) (e : D × RowMajorMatrix F) → i < length chunks
        → log_size (get_or chunks i e).0 ≡ k
    size_at i e l =
        sym (get_or-map (λ (c : D × RowMajorMatrix F). log_size c.0) chunks i e 0 l)
        ∙ can.disjoint.one_size i 0
        (omega (arith, l, length-map chunks (λ (c : D × RowMajorMatrix F). log_size c.0)))

    -- the masks double the sizes
    pub sizes_shown : AllZip (λ lde e. (shown_in f b r lde).size ≡ 2 * 2 ^ log_size e.0) ldes chunks
    sizes_shown =
        zip_by_entries (λ lde e. (shown_in f b r lde).size ≡ 2 * 2 ^ log_size e.0) ldes chunks
        many_ldes
        (λ i m e l. ap (λ n. n / 2 ^ b) (masked.held i m l).height ∙ pow-divided (k + 1) b
        ∙ doubled k ∙ ap (λ n. 2 * 2 ^ n) (sym (size_at i e (omega (arith, l, many_ldes)))))
      where
        doubled : (n : ℕ) → 2 ^ (n + 1) ≡ 2 * 2 ^ n
        doubled n = omega (arith, double_next n)

    -- the values that are shown, and those of the chunks' polynomials
    module _ (z : E) where
      abbrev shifts : List F
      shifts = map (λ e. shift e.0) chunks

      abbrev shown : List (List E)
      shown = map (λ lde. (shown_in f b r lde).values_at z) ldes

      abbrev values : List (List E)
      values = map (λ e. (polynomials_on f (shift e.0) (log_size e.0) e.1).values_at z) chunks

      held_entry : (i : ℕ) → i < length ldes → (x : EntryOf ldes i) → Held i x.entry
      held_entry i l x = subst (λ m. Held i m) x.here (masked.held i x.entry l)

      shown_at : (i j : ℕ) → i < length chunks → j < v
          → get_or (get_or shown i []) j f.ext.zero
          ≡ val f.ext (map f.lift (polynomial i j)) z
      unfolding word_of
      shown_at i j l below =
          let here : i < length ldes = omega (arith, l, many_ldes) in
          let x = entry_of ldes i here in
          let held = held_entry i here x in
          let all = count_of_values f.base f.ext f.lift (matrix_width x.entry)
          (λ c. committed_column f b (column f.base x.entry c)) z in
          let inside : j < length (committed_values f b x.entry z) - r =
          omega (arith, below, held.columns, all) in
          let column_there : j < matrix_width x.entry = omega (arith, below, held.columns) in
          ap (λ ys. get_or ys j f.ext.zero)
          (image_of (λ lde. (shown_in f b r lde).values_at z) ldes i [] here x)
          ∙ get_or-take (length (committed_values f b x.entry z) - r) (committed_values f b x.entry z) j
          f.ext.zero inside
          ∙ value_of_column f.base f.ext f.lift (matrix_width x.entry)
          (λ c. committed_column f b (column f.base x.entry c)) z j column_there
          ∙ ap (λ c. val f.ext (map f.lift c) z)
          (committed_is f L W nonzero b (k + 1) (column f.base x.entry j) within
          (word_of i l x.entry held j column_there))

      value_at : (i j : ℕ) → i < length chunks → j < v
          → get_or (get_or values i []) j f.ext.zero ≡ val f.ext (map f.lift (given i j)) z
      value_at i j l below =
          let x = entry_of chunks i l in
          let wide : matrix_width x.entry.1 ≡ v =
          ap (λ (e : D × RowMajorMatrix F). matrix_width e.1) (sym x.here) ∙ can.widths i x.entry l in
          let size : log_size x.entry.0 ≡ k =
          ap (λ (e : D × RowMajorMatrix F). log_size e.0) (sym x.here) ∙ size_at i x.entry l in
          ap (λ ys. get_or ys j f.ext.zero)
          (image_of (λ e. (polynomials_on f (shift e.0) (log_size e.0) e.1).values_at z) chunks i []
          l x)
          ∙ value_of_column f.base f.ext f.lift (matrix_width x.entry.1)
          (λ c. polynomial_on f.base f.root (shift x.entry.0) (log_size x.entry.0)
          (column f.base x.entry.1 c)) z j (omega (arith, below, wide))
          ∙ ap (λ c. val f.ext (map f.lift c) z)
          (ap₂ (λ n t. interpolant f.base (coset_points f.base (f.root n) t n)
          (column f.base x.entry.1 j)) size
          (sym (image_of (λ (e : D × RowMajorMatrix F). shift e.0) chunks i f.base.zero l x))
          ∙ ap (λ rs. interpolant f.base
          (coset_points f.base (f.root k) (get_or shifts i f.base.zero) k) (column_of f.base rs j))
          (sym (image_of (λ (e : D × RowMajorMatrix F). rows e.1) chunks i [] l x)))

      shown_width : length (get_or shown 0 []) ≡ v
      shown_width =
          let here : 0 < length ldes = omega (arith, can.some, many_ldes) in
          let x = entry_of ldes 0 here in
          let held = held_entry 0 here x in
          let all = count_of_values f.base f.ext f.lift (matrix_width x.entry)
          (λ c. committed_column f b (column f.base x.entry c)) z in
          ap length (image_of (λ lde. (shown_in f b r lde).values_at z) ldes 0 [] here x)
          ∙ length-take-le (length (committed_values f b x.entry z) - r) (committed_values f b x.entry z)
          (omega arith)
          ∙ omega (arith, held.columns, all)

      value_width : length (get_or values 0 []) ≡ v
      value_width =
          let x = entry_of chunks 0 can.some in
          ap length (image_of (λ e. (polynomials_on f (shift e.0) (log_size e.0) e.1).values_at z)
          chunks 0 [] can.some x)
          ∙ count_of_values f.base f.ext f.lift (matrix_width x.entry.1)
          (λ c. polynomial_on f.base f.root (shift x.entry.0) (log_size x.entry.0)
          (column f.base x.entry.1 c)) z
          ∙ ap (λ (e : D × RowMajorMatrix F). matrix_width e.1) (sym x.here)
          ∙ can.widths 0 x.entry can.some

      -- the shifts in the extension
      as_lifted : (u : ℕ → E)
          → recombined f.ext (length (map f.lift shifts)) k
          (λ i. get_or (map f.lift shifts) i f.ext.zero) u z
          ≡ recombined f.ext (length chunks) k (λ i. f.lift (get_or shifts i f.base.zero)) u z
      as_lifted u =
          ap₂ (λ n t. recombined f.ext n k t u z)
          (length-map shifts f.lift ∙ length-map chunks (λ (e : D × RowMajorMatrix F). shift e.0))
          (fun_ext (λ i. ap (λ d. get_or (map f.lift shifts) i d) (sym H.zero)
          ∙ mapped_at f.lift shifts i f.base.zero))

      same_columns : (j : ℕ) → j < v
          → recombined f.ext (length (map f.lift shifts)) k
          (λ i. get_or (map f.lift shifts) i f.ext.zero)
          (λ i. get_or (get_or shown i []) j f.ext.zero) z
          ≡ recombined f.ext (length (map f.lift shifts)) k
          (λ i. get_or (map f.lift shifts) i f.ext.zero)
          (λ i. get_or (get_or values i []) j f.ext.zero) z
      same_columns j below =
          as_lifted (λ i. get_or (get_or shown i []) j f.ext.zero)
          ∙ recombined_agree f.ext (length chunks) k (λ i. f.lift (get_or shifts i f.base.zero))
          (λ i. get_or (get_or shown i []) j f.ext.zero)
          (λ i. val f.ext (map f.lift (polynomial i j)) z) z (λ i l. shown_at i j l below)
          ∙ recombined_kept f.base f.ext f.lift L M H f.two_adicity f.root W shift log_size off_zero
          b chunks can from_word r s z j below
          ∙ sym (recombined_agree f.ext (length chunks) k
          (λ i. f.lift (get_or shifts i f.base.zero))
          (λ i. get_or (get_or values i []) j f.ext.zero)
          (λ i. val f.ext (map f.lift (given i j)) z) z (λ i l. value_at i j l below))
          ∙ sym (as_lifted (λ i. get_or (get_or values i []) j f.ext.zero))

      recombined_by_chunks : (rows : List (List E))
          → recombined_on f (map log_size (map (λ e. e.0) chunks)) (map shift (map (λ e. e.0) chunks))
          rows z ≡ recombined_columns f.ext k (map f.lift shifts) rows z
      recombined_by_chunks rows =
          ap₂ (λ ns ss. recombined_on f ns ss rows z)
          (map-map log_size (λ (e : D × RowMajorMatrix F). e.0) chunks)
          (map-map shift (λ (e : D × RowMajorMatrix F). e.0) chunks)

      -- the chunks recombine to what they did before they were masked
      pub recombined_shown :
          recombined_on f (map log_size (map (λ e. e.0) chunks)) (map shift (map (λ e. e.0) chunks))
          (map (λ lde. (shown_in f b r lde).values_at z) ldes) z
          ≡ recombined_on f (map log_size (map (λ e. e.0) chunks))
          (map shift (map (λ e. e.0) chunks))
          (map (λ e. (polynomials_on f (shift e.0) (log_size e.0) e.1).values_at z) chunks) z
      recombined_shown =
          recombined_by_chunks shown
          ∙ columns_agree f.ext k (map f.lift shifts) shown values z v shown_width value_width
          same_columns
          ∙ sym (recombined_by_chunks values)
