use Rattle.std.proofs.Common.{◌≡◌, ◌<◌, ℕ, get_or}
use Rattle.p3_fri_openings.proofs.values.write_weights.Given as goal

abbrev pub invariant-loop-i : goal.invariant-loop-i
invariant-loop-i g l =
    (k : ℕ) (d : g.row.EF.Denot) → k < l.i → get_or l.weights k d
    ≡ g.EF.Field.ops.mul (get_or l.inverses k g.EF.Field.ops.zero)
    (g.EF.ExtensionField.lift (get_or l.coset k g.F.Field.ops.zero))
