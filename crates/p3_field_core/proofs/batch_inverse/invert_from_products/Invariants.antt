use Rattle.p3_field_core.proofs.Inverses.{IsUndoneFrom}
use Rattle.p3_field_core.proofs.batch_inverse.invert_from_products.Given as goal

abbrev pub invariant-loop-i : goal.invariant-loop-i
invariant-loop-i g l = IsUndoneFrom g.F.Field.ops l.values l.i l.products l.inverse
