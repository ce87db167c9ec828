use Rattle.std.proofs.Common.{◌≡◌, take}
use Rattle.algebra.specs.Polynomial.{tabulate}
use Rattle.algebra.specs.Products.{product}
use Rattle.p3_field_core.proofs.batch_inverse.batch_multiplicative_inverse.Given as goal

abbrev pub invariant-loop-value : goal.invariant-loop-value
invariant-loop-value g l = record {
  running : l.inverses.items
      ≡ tabulate l.value-index (λ i. product g.F.Field.ops (take i l.values));
  next : l.product ≡ product g.F.Field.ops (take l.value-index l.values);
}
