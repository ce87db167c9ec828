use Rattle.std.proofs.Common.{◌≡◌, ◌∷◌, ◌++◌, drop}
use Rattle.algebra.proofs.Values.{stretched}
use Rattle.p3_converse.proofs.quotient.unquotient.Given as goal

-- what is left from here gives what the whole gives from the start
abbrev pub invariant-loop-coefficient : goal.invariant-loop-coefficient
invariant-loop-coefficient g l =
    let F = g.EF.Field.ops in
    l.c.items ++ stretched F l.power l.inverse (drop l.coefficient-index l.q) ≡ l.fn.y ∷ stretched F F.one l.inverse l.q
