use Rattle.std.proofs.Common.{◌≡◌, ◌<◌, ℕ, ◌+◌, ◌*◌, ◌++◌, List, length, take, get_or}
use Rattle.algebra.specs.Field.{pow}
use Rattle.algebra.specs.Polynomial.{val}
use Rattle.algebra.specs.Nested.{lists}
use Rattle.algebra.specs.Cosets.{coset_pt}
use Rattle.p3_matrix.specs.Matrix.{matrix_width}
use Rattle.p3_fri_openings.specs.Log2.{log2}
use Rattle.p3_pcs.specs.Claims.{point_claims}
use Rattle.p3_fri_batch.specs.Words.{terms_at}
use Rattle.p3_fri_batch.proofs.points.add_opened_points.Given as goal

abbrev pub invariant-loop-point : goal.invariant-loop-point
invariant-loop-point g l =
    let K = g.EF.Field.ops in
    let alpha = l.ladder.alpha in
    record {
      sums : (i : ℕ) (d : g.row.EF.Denot) (row ts : List g.row.EF.Denot) → i < length l.initial.word
          → length row ≡ matrix_width l.opened.matrix.now
          → get_or l.compressed i d ≡ val K row alpha
          → l.fn.step ≡ pow K alpha (length ts)
          → get_or l.initial.word i d ≡ val K ts alpha
          → get_or l.word i d ≡ val K (ts ++ terms_at K (g.EF.ExtensionField.lift
          (coset_pt g.F.Field.ops g.F.TwoAdicField.root g.F.Field.GENERATOR i
          (log2 (length l.initial.word)))) row
          (take l.point (point_claims l.opened.points.now (lists l.opened.values.now)))) alpha;
      steps : (n : ℕ) → l.fn.step ≡ pow K alpha n
          → l.step ≡ pow K alpha (n + l.point * matrix_width l.opened.matrix.now);
    }
