use Rattle.std.proofs.Common.{◌≡◌, ℕ}
use Rattle.algebra.specs.Polynomial.{tabulate}
use Rattle.p3_uni_stark_quotient.specs.Prepared.{IsPreparedFor, quotient_at}
use Rattle.p3_uni_stark_quotient.proofs.rows.push_rows.Given as goal

-- the values at the points so far
abbrev pub invariant-loop-row : goal.invariant-loop-row
invariant-loop-row g l =
    let F = g.F.Field.ops in
    let K = g.EF.Field.ops in
    let lift = g.EF.ExtensionField.lift in
    let prepared = l.fn.prepared in
    (h : g.row.F.Denot) (n : ℕ) (alpha : g.row.EF.Denot) (x : ℕ → g.row.F.Denot)
    → IsPreparedFor F K prepared h n alpha x
    → l.fn.values.items ≡ tabulate l.fn.first (quotient_at F K prepared h n alpha x lift)
    → l.values.items ≡ tabulate l.row (quotient_at F K prepared h n alpha x lift)
