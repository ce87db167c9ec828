-- The flat form of what is asked of matrices that are kept.
use Rattle.std.specs.Prelude.{ℕ, List, [], ◌∷◌, ◌++◌, vec_len, All, string_bytes}
use Rattle.fri_records.specs.declared.records.Matrix.{Matrix}
use Rattle.fri_records.specs.declared.records.Batch.{Batch}
use Rattle.fri_flat.specs.declared.kept.Asked.{Asked}
use Rattle.fri_flat.specs.declared.layout.Layout.{Layout}
use Rattle.fri_verification.specs.Bound.{IsContext}
use Rattle.fri_flat.specs.Flat.{words, number, elements, list, context, IsElement}

module _ (l : Layout) where
  -- a matrix's values aren't there
  abbrev pub asked_matrix : Matrix → List ℕ
  asked_matrix m = number l m.domain.shift
      ++ words (m.domain.log_size ∷ m.width ∷ vec_len m.points ∷ [])
      ++ elements l m.points.items

  abbrev pub IsAskedMatrix : Matrix → Type 0
  IsAskedMatrix m = All (IsElement l) m.points.items

  abbrev pub asked_batch : Batch → List ℕ
  asked_batch b = list asked_matrix b.matrices

  abbrev pub IsAskedBatch : Batch → Type 0
  IsAskedBatch b = All IsAskedMatrix b.matrices.items

  abbrev pub asked : Asked → List ℕ
  asked a = context (string_bytes a.context) ++ list asked_batch a.batches

  pub record IsAsked (a : Asked) : Type 0 where
    pub context : IsContext (string_bytes a.context)
    pub batches : All IsAskedBatch a.batches.items
