-- The words of chunks with their masks, one chunk after another.
use Rattle.std.proofs.Common.{◌≡◌, ℕ, ◌+◌, ◌*◌, ◌^◌, ◌<◌, ◌≤◌, ◌⊎◌, inl, inr, List, [], ◌∷◌, ◌++◌, length, map}
use Rattle.std.proofs.Common.{get_or, refl, sym, ap, ap₂, subst, ◌∙◌, arith, length-append}
use Rattle.std.proofs.lemmas.Bool.{cases_lt}
use Rattle.std.proofs.lemmas.List.{length-map, get_or_append_left, map-append}
use Rattle.algebra.specs.Field.{FieldOps}
use Rattle.p3_matrix.specs.declared.dense.RowMajorMatrix.{RowMajorMatrix}
use Rattle.p3_matrix.specs.Matrix.{rows, matrix_width}
use Rattle.p3_fri_masks.proofs.Batches.{IsLeft}
use Rattle.p3_fri_masks.specs.MaskedChunks.{HoldsMaskedChunk, HoldMaskedChunks, FitMasks}

pub entry_after : {X : Type 0} (xs later : List X) (x d : X)
    → get_or (xs ++ x ∷ later) (length xs) d ≡ x
entry_after [] later x d = refl
entry_after (y ∷ xs) later x d = entry_after xs later x d

-- the next of what is left of a list
pub next_left : {X : Type 0} (yielded rest later all : List X) (x d : X) (n : ℕ)
    → IsLeft yielded rest all n → rest ≡ x ∷ later → get_or all (length yielded) d ≡ x
next_left yielded rest later all x d n left step =
    ap (λ xs. get_or xs (length yielded) d) (sym left.whole ∙ ap (λ ys. yielded ++ ys) step)
    ∙ entry_after yielded later x d

pub some_left : {X : Type 0} (yielded rest later all : List X) (x : X) (n : ℕ)
    → IsLeft yielded rest all n → rest ≡ x ∷ later → length yielded < length all
some_left yielded rest later all x n left step =
    omega (
      arith,
      ap length (sym left.whole ∙ ap (λ ys. yielded ++ ys) step),
      length-append yielded (x ∷ later),
    )

module _ {A : Type 0} where
  -- what is asked of the matrix and the mask at a place
  pub record FitsAt (two_adicity log_blowup k width n : ℕ) (matrix : RowMajorMatrix A)
      (mask : List A) : Type 0 where
    pub log_size : n ≡ k
    pub columns : matrix_width matrix ≡ width
    pub height : length (rows matrix) ≡ 2 ^ n
    pub size : length mask ≡ 2 ^ n * matrix_width matrix
    pub within : n + 1 + log_blowup ≤ two_adicity

  pub fits_at : (top b k width : ℕ) (log_sizes : List ℕ) (matrices : List (RowMajorMatrix A))
      (masks : List (List A)) → FitMasks top b k width log_sizes matrices masks
      → (i n : ℕ) (matrix : RowMajorMatrix A) (mask : List A) → i < length matrices
      → n ≡ get_or log_sizes i 0 → get_or matrices i matrix ≡ matrix → mask ≡ get_or masks i []
      → FitsAt top b k width n matrix mask
  fits_at top b k width log_sizes matrices masks fit i n matrix mask below size_is matrix_is mask_is =
      record {
        log_size = same;
        columns = columns;
        height = ap (λ m. length (rows m)) (sym matrix_is) ∙ fit.heights i matrix below
            ∙ ap (λ m. 2 ^ m) (sym same);
        size = ap length mask_is
            ∙ fit.sizes i [] (omega (arith, below, fit.count, fit.count_masks))
            ∙ ap₂ (λ m v. 2 ^ m * v) (sym same) (sym columns);
        within = omega (arith, fit.within, same);
      }
    where
      same : n ≡ k
      same = size_is ∙ fit.one_size i 0 (omega (arith, below, fit.count))

      columns : matrix_width matrix ≡ width
      columns = ap matrix_width (sym matrix_is) ∙ fit.widths i matrix below

  -- the same of the next matrix of those that are left
  pub fits_next : (top b k width : ℕ) (log_sizes : List ℕ) (matrices : List (RowMajorMatrix A))
      (masks : List (List A)) → FitMasks top b k width log_sizes matrices masks
      → (yielded rest later : List (RowMajorMatrix A)) (x : RowMajorMatrix A) (m : ℕ)
      → IsLeft yielded rest matrices m → rest ≡ x ∷ later → (i n : ℕ) (mask : List A)
      → i ≡ length yielded → n ≡ get_or log_sizes i 0 → mask ≡ get_or masks i []
      → FitsAt top b k width n x mask
  fits_next top b k width log_sizes matrices masks fit yielded rest later x m left step i n mask at size_is mask_is =
      fits_at top b k width log_sizes matrices masks fit i n x mask
      (omega (arith, at, some_left yielded rest later matrices x m left step)) size_is
      (ap (λ j. get_or matrices j x) at ∙ next_left yielded rest later matrices x x m left step)
      mask_is

-- the same words of the same chunk
moved : {A : Type 0} (F : FieldOps A) (w : ℕ → A) (g : A) (b n k : ℕ) (s t : A) (v width : ℕ)
    (c d : List (List A)) (old new : List A) (m made : RowMajorMatrix A)
    → HoldsMaskedChunk F w n g b s v c old m → n ≡ k → s ≡ t → v ≡ width → c ≡ d → old ≡ new
    → m ≡ made → HoldsMaskedChunk F w k g b t width d new made
moved F w g b n k s t v width c d old new m made h size_is shift_is width_is chunk_is mask_is matrix_is =
    subst (λ x. HoldsMaskedChunk F w k g b t width d new x) matrix_is
    (subst (λ x. HoldsMaskedChunk F w k g b t width d x m) mask_is
    (subst (λ x. HoldsMaskedChunk F w k g b t width x old m) chunk_is
    (subst (λ x. HoldsMaskedChunk F w k g b t x c old m) width_is
    (subst (λ x. HoldsMaskedChunk F w k g b x v c old m) shift_is
    (subst (λ x. HoldsMaskedChunk F w x g b s v c old m) size_is h)))))

module _ {A : Type 0} (F : FieldOps A) (w : ℕ → A) (k : ℕ) (g : A) (b : ℕ) (shifts : List A)
    (width : ℕ) (masks : List (List A)) where
  pub one_more_held : (given : List (RowMajorMatrix A)) (x : RowMajorMatrix A)
      (matrices grown : List (RowMajorMatrix A)) (made : RowMajorMatrix A) (n v : ℕ) (s : A)
      (mask : List A) → HoldMaskedChunks F w k g b shifts width (map rows given) masks matrices
      → n ≡ k → v ≡ width → s ≡ get_or shifts (length given) F.zero
      → mask ≡ get_or masks (length given) []
      → HoldsMaskedChunk F w n g b s v (rows x) mask made → grown ≡ matrices ++ made ∷ []
      → HoldMaskedChunks F w k g b shifts width (map rows (given ++ x ∷ [])) masks grown
  one_more_held given x matrices grown made n v s mask before size_is width_is shift_is mask_is words more =
      record {
        count = ap length more ∙ length-append matrices (made ∷ [])
            ∙ ap (λ c. c + 1) before.count
            ∙ sym (ap length pushed ∙ length-append (map rows given) (rows x ∷ []));
        held = λ i m l. found i m (cases_lt i (length matrices)) l;
      }
    where
      pushed : map rows (given ++ x ∷ []) ≡ map rows given ++ rows x ∷ []
      pushed = map-append rows given (x ∷ [])

      many : length matrices ≡ length given
      many = before.count ∙ length-map given rows

      earlier : (i : ℕ) (m : RowMajorMatrix A) → i < length matrices
          → HoldsMaskedChunk F w k g b (get_or shifts i F.zero) width
          (get_or (map rows (given ++ x ∷ [])) i []) (get_or masks i []) (get_or grown i m)
      earlier i m l =
          moved F w g b k k (get_or shifts i F.zero) (get_or shifts i F.zero) width width
          (get_or (map rows given) i []) (get_or (map rows (given ++ x ∷ [])) i [])
          (get_or masks i []) (get_or masks i []) (get_or matrices i m) (get_or grown i m)
          (before.held i m l) refl refl refl
          (sym (ap (λ rs. get_or rs i []) pushed
          ∙ get_or_append_left (map rows given) (rows x ∷ []) [] i (omega (arith, l, before.count))))
          refl
          (sym (ap (λ ms. get_or ms i m) more ∙ get_or_append_left matrices (made ∷ []) m i l))

      last : (i : ℕ) (m : RowMajorMatrix A) → i ≡ length given
          → HoldsMaskedChunk F w k g b (get_or shifts i F.zero) width
          (get_or (map rows (given ++ x ∷ [])) i []) (get_or masks i []) (get_or grown i m)
      last i m e =
          moved F w g b n k s (get_or shifts i F.zero) v width (rows x)
          (get_or (map rows (given ++ x ∷ [])) i []) mask (get_or masks i []) made (get_or grown i m)
          words size_is (shift_is ∙ ap (λ j. get_or shifts j F.zero) (sym e)) width_is
          (sym (ap₂ (λ rs j. get_or rs j []) pushed (e ∙ sym (length-map given rows))
          ∙ entry_after (map rows given) [] (rows x) []))
          (mask_is ∙ ap (λ j. get_or masks j []) (sym e))
          (sym (ap₂ (λ ms j. get_or ms j m) more (e ∙ sym many) ∙ entry_after matrices [] made m))

      found : (i : ℕ) (m : RowMajorMatrix A) → (i < length matrices) ⊎ (length matrices ≤ i)
          → i < length grown
          → HoldsMaskedChunk F w k g b (get_or shifts i F.zero) width
          (get_or (map rows (given ++ x ∷ [])) i []) (get_or masks i []) (get_or grown i m)
      found i m (inl below) l = earlier i m below
      found i m (inr past) l =
          last i m (omega (arith, past, l, many, ap length more, length-append matrices (made ∷ [])))
