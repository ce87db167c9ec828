-- Two chunks of a quotient.
use Rattle.std.proofs.Common.{◌≡◌, ◌≤◌, ◌+◌, ◌^◌, ℕ, [], ◌∷◌, length, refl, arith}
use Rattle.algebra.specs.Field.{FieldOps}
use Rattle.p3_matrix.specs.declared.dense.RowMajorMatrix.{RowMajorMatrix}
use Rattle.p3_matrix.specs.Matrix.{rows, matrix_width}
use Rattle.p3_fri_masks.specs.QuotientLdes.{first_width}
use Rattle.p3_fri_masks.specs.QuotientMasks.{AreDisjoint}
use Rattle.p3_fri_hiding.specs.Quotients.{CanExtend}
use Rattle.refused_calls.proofs.Lists.{both}

-- of one height and width, on disjoint cosets of that size
module _ {A D : Type 0} (F : FieldOps A) (shift : D → A) (log_size : D → ℕ) (top log_blowup : ℕ)
    (a b : D × RowMajorMatrix A) where
  pub extendable : length (rows a.1) ≡ 2 ^ log_size a.0 → length (rows b.1) ≡ 2 ^ log_size b.0
      → matrix_width b.1 ≡ matrix_width a.1 → log_size a.0 + 1 + log_blowup ≤ top
      → log_size b.0 + 1 + log_blowup ≤ top
      → AreDisjoint F (log_size a.0 ∷ log_size b.0 ∷ []) (shift a.0 ∷ shift b.0 ∷ [])
      → CanExtend F shift log_size top log_blowup (a ∷ b ∷ []) 2
  extendable first second widths within also disjoint = record {
    several = omega arith;
    one_each = refl;
    masked = record {
      some = omega arith;
      heights = both (λ e. length (rows e.1) ≡ 2 ^ log_size e.0) a b first second;
      widths = both (λ e. matrix_width e.1 ≡ first_width (a ∷ b ∷ [])) a b refl widths;
      within = both (λ e. log_size e.0 + 1 + log_blowup ≤ top) a b within also;
      disjoint = disjoint;
    };
  }
