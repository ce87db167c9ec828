-- Random columns drawn for one chunk after another.
use Rattle.std.proofs.Common.{◌≡◌, ℕ, ◌+◌, ◌*◌, ◌<◌, List, [], ◌∷◌, ◌++◌, length, map, take}
use Rattle.std.proofs.Common.{get_or, refl, sym, ap, ap₂, ◌∙◌}
use Rattle.std.proofs.lemmas.List.{take_more, map-append}
use Rattle.rand_core.specs.Stream.{Stream}
use Rattle.p3_matrix.specs.declared.dense.RowMajorMatrix.{RowMajorMatrix}
use Rattle.p3_matrix.specs.Matrix.{rows, matrix_width}
use Rattle.p3_matrix.specs.Words.{past}
use Rattle.p3_matrix.specs.Columns.{rows_with_random_columns}
use Rattle.p3_fri_masks.specs.QuotientDraws.{chunks_with_random_columns, past_columns}

module _ {T : Type 0} (f : ℕ → T) where
  chunks-push : (r : ℕ) (chunks : List (List (List T))) (chunk : List (List T)) (s : Stream)
      → chunks_with_random_columns f r (chunks ++ chunk ∷ []) s
      ≡ chunks_with_random_columns f r chunks s
      ++ rows_with_random_columns f r chunk (past_columns r chunks s) ∷ []
  chunks-push r [] chunk s = refl
  chunks-push r (c ∷ chunks) chunk s =
      ap (λ cs. rows_with_random_columns f r c s ∷ cs)
      (chunks-push r chunks chunk (past (length c * r) s))

past_columns-push : {T : Type 0} (r : ℕ) (chunks : List (List (List T))) (chunk : List (List T))
    (s : Stream)
    → past_columns r (chunks ++ chunk ∷ []) s ≡ past (length chunk * r) (past_columns r chunks s)
past_columns-push r [] chunk s = refl
past_columns-push r (c ∷ chunks) chunk s = past_columns-push r chunks chunk (past (length c * r) s)

-- the first chunks have their random columns
module _ {T C : Type 0} (f : ℕ → T) (entries : C → List (List T)) (width : C → ℕ) (r : ℕ) where
  pub record AreWidened (chunks : List C) (start : Stream) (i : ℕ)
      (wider : List (RowMajorMatrix T)) (now : Stream) : Type 0 where
    pub widened : map rows wider
        ≡ chunks_with_random_columns f r (map entries (take i chunks)) start
    pub widths : map matrix_width wider ≡ map (λ e. width e + r) (take i chunks)
    pub stream : now ≡ past_columns r (map entries (take i chunks)) start

  pub one_more_chunk : (chunks : List C) (start now next : Stream) (i : ℕ) (chunk : C)
      (wider grown : List (RowMajorMatrix T)) (made : RowMajorMatrix T)
      → AreWidened chunks start i wider now → i < length chunks → chunk ≡ get_or chunks i chunk
      → rows made ≡ rows_with_random_columns f r (entries chunk) now
      → matrix_width made ≡ width chunk + r → next ≡ past (length (entries chunk) * r) now
      → grown ≡ wider ++ made ∷ [] → AreWidened chunks start (i + 1) grown next
  one_more_chunk chunks start now next i chunk wider grown made before l is entries_are width_is after more =
      let first = take i chunks in
      let split : take (i + 1) chunks ≡ first ++ chunk ∷ [] =
      take_more chunks i chunk l ∙ ap (λ c. first ++ c ∷ []) (sym is) in
      let mapped : map entries (take (i + 1) chunks) ≡ map entries first ++ entries chunk ∷ [] =
      ap (λ cs. map entries cs) split ∙ map-append entries first (chunk ∷ []) in
      record {
        widened = ap (λ ms. map rows ms) more ∙ map-append rows wider (made ∷ [])
            ∙ ap₂ (λ ms m. ms ++ m ∷ []) before.widened
            (entries_are ∙ ap (λ t. rows_with_random_columns f r (entries chunk) t) before.stream)
            ∙ sym (ap (λ cs. chunks_with_random_columns f r cs start) mapped
            ∙ chunks-push f r (map entries first) (entries chunk) start);
        widths = ap (λ ms. map matrix_width ms) more ∙ map-append matrix_width wider (made ∷ [])
            ∙ ap₂ (λ ms m. ms ++ m ∷ []) before.widths width_is
            ∙ sym (ap (λ cs. map (λ e. width e + r) cs) split
            ∙ map-append (λ e. width e + r) first (chunk ∷ []));
        stream = after ∙ ap (λ t. past (length (entries chunk) * r) t) before.stream
            ∙ sym (ap (λ cs. past_columns r cs start) mapped
            ∙ past_columns-push r (map entries first) (entries chunk) start);
      }
