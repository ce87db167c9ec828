use Rattle.std.proofs.Common.{arith}
use Rattle.std.proofs.lemmas.Grind.{common_steps}
use Rattle.std.proofs.lemmas.List.Elements.{All-more}
use Rattle.fri_flat.specs.Flat.{IsElement}
use Rattle.fri_flat.proofs.writer.push_elements.Goals as goal

pub loop-element-preserved : goal.loop-element-preserved
loop-element-preserved c = record {
  form = grind (arith, common_steps);
  lengths = All-more (IsElement c.args.layout) c.args.list.now c.loop-element.element-index
      c.element-item.result c.loop-element-test.true c.loop-element.invariant.lengths
      (rw (← c.element-item.is) c.in_ok-push_element.ensures.length);
}
