use Rattle.std.proofs.Common.{◌≡◌, ◌*◌, ℕ}
use Rattle.algebra.specs.Polynomial.{tabulate}
use Rattle.p3_uni_stark_quotient.specs.Prepared.{IsPreparedFor, quotient_at}
use Rattle.p3_uni_stark_quotient.proofs.blocks.push_blocks.Given as goal

-- the values at the points of the blocks so far
abbrev pub invariant-loop-block : goal.invariant-loop-block
invariant-loop-block g l =
    let F = g.F.Field.ops in
    let K = g.EF.Field.ops in
    let prepared = l.fn.prepared in
    (h : g.row.F.Denot) (n : ℕ) (alpha : g.row.EF.Denot) (x : ℕ → g.row.F.Denot)
    → IsPreparedFor F K prepared h n alpha x
    → l.values.items ≡ tabulate (l.block * g.P.PackedField.WIDTH)
    (quotient_at F K prepared h n alpha x g.EF.ExtensionField.lift)
