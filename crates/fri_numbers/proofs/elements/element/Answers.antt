use Rattle.std.proofs.Common.{ap, ◌∙◌, arith}
use Rattle.std.proofs.Math.Nat.{mod-eq_of_lt}
use Rattle.fri_numbers.proofs.elements.element.Goals as goal

pub returns-then-number-ORDER_U64-clause-number : goal.returns-then-number-ORDER_U64-clause-number
returns-then-number-ORDER_U64-clause-number g c =
    ap g.F.PrimeField64.canonical c.from_canonical.ensures
    ∙ g.met.F.PrimeField64.canonical_multiple c.args.number
    ∙ mod-eq_of_lt (omega (arith, c.if-number-ORDER_U64.true, c.ORDER_U64.ensures))
