use Rattle.std.proofs.Common.{◌<◌, ◌∙◌, arith}
use Rattle.p3_challenger_core.proofs.Runs.{draws-state, draws-pushed, draws-end}
use Rattle.p3_challenger_fs.proofs.script.draw_numbers.Goals as goal

pub loop-preserved : goal.loop-preserved
loop-preserved g c =
    let draw = λ (s : g.row.C.Denot). g.C.CanSampleBits.sampled_bits s c.args.width in
    let here = c.loop in
    let drawn = c.sample_bits in
    let after = drawn.new.self in
    let below : here.counter < c.args.count = omega arith in
    record {
      values = draws-pushed draw here.challenger after here.numbers.items c.push.new.self.items
          drawn.result c.args.count here.counter below c.in_ok-push.ensures.items
          drawn.ensures.value drawn.ensures.state ∙ here.invariant.values;
      state = draws-state draw here.challenger after c.args.count here.counter below
          drawn.ensures.state ∙ here.invariant.state;
      room = omega (arith, here.invariant.room, c.push.ensures.capacity);
      len = omega (arith, here.invariant.len, c.in_ok-push.ensures.len);
    }

pub returns-clause-values : goal.returns-clause-values
returns-clause-values g c =
    let draw = λ (s : g.row.C.Denot). g.C.CanSampleBits.sampled_bits s c.args.width in
    draws-end draw c.loop.challenger c.loop.numbers.items _ c.args.count c.loop.counter
    (omega arith) c.loop.invariant.values
