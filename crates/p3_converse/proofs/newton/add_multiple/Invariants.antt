use Rattle.std.proofs.Common.{◌≡◌, ◌-◌, ◌∷◌, ◌++◌, List, take, drop, get_or}
use Rattle.algebra.specs.Interpolation.{plus_multiple}
use Rattle.p3_converse.proofs.newton.add_multiple.Given as goal

-- what is left from here gives what the whole gives from the start
abbrev pub invariant-loop-j : goal.invariant-loop-j
invariant-loop-j g l =
    let F = g.F.Field.ops in
    (y : g.row.F.Denot) (q : List g.row.F.Denot) → l.initial.coefficients ≡ y ∷ q
    → plus_multiple F l.root y q ≡ take (l.j - 1) l.coefficients ++ plus_multiple F l.root (get_or l.coefficients (l.j - 1) F.zero) (drop l.j l.coefficients)
