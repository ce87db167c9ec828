use Rattle.std.proofs.Common.{◌≡◌, ℕ, zero, suc, [], ◌∷◌, arith, refl, subst}
use Rattle.std.specs.Int.{IsPowerOfTwo}
use Rattle.p3_matrix.specs.declared.Dimensions.{Dimensions}
use Rattle.p3_mmcs.specs.Batch.{HavePowerHeights}
use Rattle.p3_fri_queries_tests.proofs.queries.commit_and_open.Goals as goal

one_height : (dims : Dimensions) (w n : ℕ) → dims.height ≡ n → HavePowerHeights (dims ∷ [])
    → HavePowerHeights (record { width = w; height = n } ∷ [])
one_height dims w n e h zero d l = subst (λ (m : ℕ). IsPowerOfTwo m) e (h 0 d (omega arith))
one_height dims w n e h (suc k) d l = absurd (omega arith)

pub commit_matrix-requires : goal.commit_matrix-requires
commit_matrix-requires g c = record {
  height = one_height c.dimensions.result _ _ c.dimensions.ensures.height (c.if-not-have_power_heights.ensures.0 refl);
}
