use Rattle.std.proofs.Common.{◌∷◌, [], ◌++◌, ap, ap₂, sym, ◌∙◌}
use Rattle.algebra.specs.Field.{pow}
use Rattle.algebra.proofs.Lists.{tabulate-next}
use Rattle.algebra.proofs.Powers.{pow-zero, pow-next}
use Rattle.p3_dft.proofs.scaling.powers.Goals as goal

pub loop-init : goal.loop-init
loop-init g c = record {
  powers = c.in_ok-powers.ensures.items;
  power = c.ONE-power.ensures ∙ g.met.F.Field.one_law ∙ sym (pow-zero g.F.Field.ops c.args.base);
}

pub loop-preserved : goal.loop-preserved
loop-preserved g c =
    let F = g.F.Field.ops in
    let base = c.args.base in
    let here = c.loop in
    record {
      powers = c.in_ok-push.ensures.items ∙ ap₂ (λ xs x. xs ++ x ∷ []) here.invariant.powers here.invariant.power ∙ sym (tabulate-next here.counter (λ i. pow F base i));
      power = g.met.F.Field.mul_law base here.power c.mul-power.result c.mul-power.ensures ∙ ap (λ x. F.mul base x) here.invariant.power ∙ sym (pow-next F base here.counter);
    }
