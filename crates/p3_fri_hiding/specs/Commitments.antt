-- What is committed to: extensions of masked, of padded and of random matrices.
use Rattle.std.specs.Prelude.{◌≡◌, ◌^◌, ℕ, List}
use Rattle.std.specs.List.{AllZip}
use Rattle.rand_core.specs.Stream.{Stream}
use Rattle.p3_matrix.specs.declared.dense.RowMajorMatrix.{RowMajorMatrix}
use Rattle.p3_fri_relation.specs.Setting.{Fields}
use Rattle.p3_fri_extensions.specs.Extension.{IsLowDegreeExtension}
use Rattle.p3_fri_masks.specs.Draws.{AreRandom}
use Rattle.p3_fri_masks.specs.Masked.{AreMasked}
use Rattle.p3_fri_masks.specs.Padded.{IsPadded}

module _ {F E D : Type 0} (f : Fields F E) (shift : D → F) (log_size : D → ℕ) (log_blowup : ℕ)
  where
    -- the matrices extend these, each from the coset beside it
    abbrev pub AreExtended : List (D × RowMajorMatrix F) → List (RowMajorMatrix F) → Type 0
    AreExtended evaluations matrices = AllZip (λ m e. IsLowDegreeExtension f.base f.root f.shift
        log_blowup (shift e.0) (log_size e.0) e.1 m) matrices evaluations

    -- they extend these after each was masked by the next words of the stream
    pub record ExtendMasked (from_word : ℕ → F) (r : ℕ)
        (evaluations : List (D × RowMajorMatrix F)) (s : Stream)
        (matrices : List (RowMajorMatrix F)) : Type 0 where
      pub masked : List (D × RowMajorMatrix F)
      pub masks : AreMasked from_word r evaluations s masked
      pub words : AreExtended masked matrices

    -- they extend these after rows of zeros were put between the rows of each
    pub record ExtendPadded (evaluations : List (D × RowMajorMatrix F))
        (matrices : List (RowMajorMatrix F)) : Type 0 where
      pub padded : List (D × RowMajorMatrix F)
      pub zeros : AllZip (λ p e. (p.0 ≡ e.0) × IsPadded f.base.zero e.1 p.1) padded evaluations
      pub words : AreExtended padded matrices

    -- they extend matrices of `width` random columns, one beside each of these domains, of the next
    -- words of the stream
    pub record ExtendRandom (from_word : ℕ → F) (width : ℕ) (domains : List D) (s : Stream)
        (matrices : List (RowMajorMatrix F)) : Type 0 where
      pub random : List (D × RowMajorMatrix F)
      pub values : AreRandom from_word (λ d. 2 ^ log_size d) width domains s random
      pub words : AreExtended random matrices
