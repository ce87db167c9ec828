use Rattle.std.proofs.Common.{◌+◌, ◌<◌, ◌≤◌, length, arith, ap, ◌∙◌}
use Rattle.std.proofs.lemmas.List.{length_push}
use Rattle.p3_air.specs.Nodes.{node_meaning, meanings_after, values_in}
use Rattle.p3_air.specs.Shapes.{entries_of}
use Rattle.p3_air.proofs.Meanings.{meanings_next, meanings_end}
use Rattle.p3_air.proofs.air.Air.evaluate_into.Goals as goal

pub loop-i-init : goal.loop-i-init
loop-i-init g c =
    let m = values_in g.EF.Field.ops g.EF.ExtensionField.lift g.F.Field.ops.zero
    (entries_of c.args.window.now) in
    record {
      len = ap length c.clear.ensures.items;
      run = ap (λ xs. meanings_after m xs c.args.self.now.nodes.items) c.clear.ensures.items;
    }

pub loop-i-preserved : goal.loop-i-preserved
loop-i-preserved g c =
    let m = values_in g.EF.Field.ops g.EF.ExtensionField.lift g.F.Field.ops.zero
    (entries_of c.args.window.now) in
    let there : c.loop-i.i < length c.args.self.now.nodes.items = omega arith in
    let node = c.index.result.now in
    let values = c.loop-i.values.items in
    record {
      len = ap length c.in_ok-push.ensures.items ∙ length_push values c.node_value-value.result
          ∙ ap (λ n. n + 1) c.loop-i.invariant.len;
      run = meanings_next m c.args.self.now.nodes.items c.loop-i.i values c.push.new.self.items node
          c.node_value-value.result there c.index.ensures
          (c.node_value-value.ensures ∙ ap (λ xs. node_meaning m xs node) c.as_slice.ensures.value)
          c.in_ok-push.ensures.items c.loop-i.invariant.run;
    }

pub returns : goal.returns
returns g c =
    let m = values_in g.EF.Field.ops g.EF.ExtensionField.lift g.F.Field.ops.zero
    (entries_of c.args.window.now) in
    let end : length c.args.self.now.nodes.items ≤ c.loop-i.i = omega arith in
    meanings_end m c.args.self.now.nodes.items c.loop-i.i c.loop-i.values.items end
    c.loop-i.invariant.run
