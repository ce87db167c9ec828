-- The quotient that masked chunks make.
use Rattle.std.specs.Prelude.{◌≡◌, ◌≢◌, ◌≤◌, ◌<◌, ℕ, suc, ◌*◌, ◌^◌, List, [], length, map}
use Rattle.std.specs.Prelude.{slice_index_or}
use Rattle.algebra.specs.Field.{FieldOps}
use Rattle.algebra.specs.Interpolation.{interpolant}
use Rattle.algebra.specs.Polynomial.{val}
use Rattle.algebra.specs.RecombinedQuotients.{ChunksApart, recombined}
use Rattle.p3_field_core.specs.Coset.{coset_points}
use Rattle.p3_fri_masks.specs.MaskedChunks.{column_of, masked_polynomial}
use Rattle.p3_fri_masks.specs.QuotientMasks.{quotient_masks}

module _ {A E : Type 0} (F : FieldOps A) (K : FieldOps E) (lift : A → E) (top : ℕ) (w : ℕ → A)
  where
    -- column by column, at each point of an extension, chunks on disjoint cosets recombine to what
    -- they did before they were masked, whatever the masks of all but the last
    abbrev pub MaskedChunksRecombine : Type 0
    MaskedChunksRecombine = (m k width : ℕ) (shifts : List A)
        (chunks : List (List (List A))) (masks : List (List A)) → k ≤ top → length shifts ≡ suc m
        → ((i : ℕ) → i < suc m → slice_index_or shifts i F.zero ≢ F.zero)
        → ChunksApart F (suc m) k (λ i. slice_index_or shifts i F.zero)
        → ((i : ℕ) → i < suc m → length (slice_index_or chunks i []) ≡ 2 ^ k)
        → length masks ≡ m
        → ((i : ℕ) → i < m → length (slice_index_or masks i []) ≡ 2 ^ k * width)
        → (z : E) (j : ℕ) → j < width
        → recombined K (suc m) k (λ i. lift (slice_index_or shifts i F.zero))
        (λ i. val K (map lift (masked_polynomial F w k (slice_index_or shifts i F.zero) width
        (slice_index_or chunks i [])
        (slice_index_or (quotient_masks F m k (2 ^ k * width) shifts masks) i []) j)) z) z
        ≡ recombined K (suc m) k (λ i. lift (slice_index_or shifts i F.zero))
        (λ i. val K (map lift (interpolant F
        (coset_points F (w k) (slice_index_or shifts i F.zero) k)
        (column_of F (slice_index_or chunks i []) j))) z) z
