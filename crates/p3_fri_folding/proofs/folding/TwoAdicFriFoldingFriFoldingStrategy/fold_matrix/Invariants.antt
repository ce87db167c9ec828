use Rattle.std.proofs.Common.{◌≡◌, ℕ, ◌^◌, [], length, slice_index_or}
use Rattle.algebra.specs.Polynomial.{tabulate}
use Rattle.p3_matrix.specs.Matrix.{rows}
use Rattle.algebra.specs.Folds.{fold_value}
use Rattle.p3_fri_folding.proofs.folding.TwoAdicFriFoldingFriFoldingStrategy.fold_matrix.Given as goal

-- the rows so far are folded
abbrev pub invariant-loop-i : goal.invariant-loop-i
invariant-loop-i g l = (h : ℕ) → length (rows l.matrix) ≡ 2 ^ h
    → l.word.items ≡ tabulate l.i (λ i. fold_value g.EF.Field.ops (λ k. g.EF.ExtensionField.lift (g.F.TwoAdicField.root k)) i h l.fn.log_arity l.fn.beta (slice_index_or (rows l.matrix) i []))
