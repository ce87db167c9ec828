use Rattle.std.proofs.Common.{◌≡◌, take}
use Rattle.p3_converse.specs.Newton.{difference_product}
use Rattle.p3_converse.proofs.newton.product_of_differences.Given as goal

abbrev pub invariant-loop-other : goal.invariant-loop-other
invariant-loop-other g l = l.product ≡ difference_product g.F.Field.ops l.point (take l.other-index l.others)
