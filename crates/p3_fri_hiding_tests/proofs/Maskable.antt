-- Two chunks that can be masked.
use Rattle.std.proofs.Common.{◌≡◌, ◌≤◌, ◌+◌, ◌^◌, ℕ, List, [], ◌∷◌, length, map, All}
use Rattle.std.proofs.Common.{refl, sym, subst, arith}
use Rattle.std.proofs.lemmas.List.Elements.{All-cons, All-nil}
use Rattle.algebra.specs.Field.{FieldOps}
use Rattle.p3_matrix.specs.declared.dense.RowMajorMatrix.{RowMajorMatrix}
use Rattle.p3_matrix.specs.Matrix.{matrix_width, rows}
use Rattle.p3_fri_hiding.specs.Quotients.{CanExtend}
use Rattle.p3_fri_masks.specs.QuotientMasks.{AreDisjoint}
use Rattle.p3_fri_hiding_tests.specs.Fits.{Fits}

-- what holds of both holds of each
both : {X : Type 0} (P : X → Type 0) (x y : X) → P x → P y → All P (x ∷ y ∷ [])
both P x y first second = All-cons P x (y ∷ []) first (All-cons P y [] second (All-nil P))

module _ {A D : Type 0} (F : FieldOps A) (shift : D → A) (log_size : D → ℕ) (top : ℕ)
    (a b : D × RowMajorMatrix A) where
  pub extendable : 11 ≤ top → Fits 1 (log_size a.0) a.1 → Fits 1 (log_size b.0) b.1
      → matrix_width a.1 ≡ matrix_width b.1 → (domains : List D) → domains ≡ a.0 ∷ b.0 ∷ []
      → AreDisjoint F (map log_size domains) (map shift domains)
      → CanExtend F shift log_size top 2 (a ∷ b ∷ []) 2
  extendable large of_a of_b alike domains are disjoint = record {
    several = omega arith;
    one_each = refl;
    masked = record {
      some = omega arith;
      heights = both (λ e. length (rows e.1) ≡ 2 ^ log_size e.0) a b (omega (arith, of_a.scaled))
          (omega (arith, of_b.scaled));
      widths = both (λ e. matrix_width e.1 ≡ matrix_width a.1) a b refl (sym alike);
      within = both (λ e. log_size e.0 + 1 + 2 ≤ top) a b (omega (arith, large, of_a.most))
          (omega (arith, large, of_b.most));
      disjoint = subst (λ ds. AreDisjoint F (map log_size ds) (map shift ds)) are disjoint;
    };
  }

-- a list that is equal to that of chunks
pub equal_chunks : {A D : Type 0} (F : FieldOps A) (shift : D → A) (log_size : D → ℕ) (top b : ℕ)
    (es ds : List (D × RowMajorMatrix A)) → es ≡ ds
    → CanExtend F shift log_size top b ds (length ds)
    → CanExtend F shift log_size top b es (length es)
equal_chunks F shift log_size top b es ds are can =
    subst (λ xs. CanExtend F shift log_size top b xs (length xs)) (sym are) can
