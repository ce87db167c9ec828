use Rattle.std.proofs.Common.{◌≡◌, ◌<◌, ◌≤◌, ◌*◌, ◌-◌, ◌^◌, ℕ, vec_len}
use Rattle.algebra.specs.Field.{pow}
use Rattle.algebra.specs.Polynomial.{val}
use Rattle.p3_dft.specs.Strided.{strided}
use Rattle.p3_fri_extensions.proofs.fitting.reduced.Given as goal

abbrev pub invariant-loop-rows : goal.invariant-loop-rows
invariant-loop-rows g l =
    let F = g.F.Field.ops in
    record {
      above : l.log_size ≤ l.rows;
      below : l.rows ≤ l.log_height;
      len : vec_len l.reduced ≡ 2 ^ l.rows * l.width;
      values : (j : ℕ) (x : g.row.F.Denot) → j < l.width
          → pow F x (2 ^ l.log_size) ≡ pow F l.shift (2 ^ l.log_size)
          → val F (strided F l.width (2 ^ l.rows) l.reduced.items j) x
          ≡ val F (strided F l.width (2 ^ l.log_height) l.fn.values.items j) x;
    }

abbrev pub decreases-loop-rows : goal.decreases-loop-rows
decreases-loop-rows g l = l.rows - l.log_size
