use Rattle.std.proofs.Common.{◌∷◌, [], ◌++◌, ap, ap₂, sym, ◌∙◌}
use Rattle.algebra.specs.Field.{pow}
use Rattle.algebra.proofs.Lists.{tabulate-next}
use Rattle.algebra.proofs.Powers.{pow-zero, pow-next}
use Rattle.p3_field_core.proofs.powers.shifted_powers.Goals as goal

pub loop-init : goal.loop-init
loop-init g c =
    let F = g.F.Field.ops in
    record {
      powers = c.in_ok-powers.ensures.items;
      next = sym (ap (λ x. F.mul c.args.first x) (pow-zero F c.args.base)
          ∙ g.met.F.Field.laws.mul_one c.args.first);
    }

pub loop-preserved : goal.loop-preserved
loop-preserved g c =
    let F = g.F.Field.ops in
    let field = g.met.F.Field in
    let here = c.loop in
    let first = c.args.first in
    let base = c.args.base in
    record {
      powers = c.in_ok-push.ensures.items
          ∙ ap₂ (λ xs y. xs ++ y ∷ []) here.invariant.powers here.invariant.next
          ∙ sym (tabulate-next here.counter (λ i. F.mul first (pow F base i)));
      next = field.mul_law here.power base c.mul-power.result c.mul-power.ensures
          ∙ ap (λ x. F.mul x base) here.invariant.next
          ∙ field.laws.mul_assoc first (pow F base here.counter) base
          ∙ ap (λ x. F.mul first x)
          (field.laws.mul_comm (pow F base here.counter) base
          ∙ sym (pow-next F base here.counter));
    }
