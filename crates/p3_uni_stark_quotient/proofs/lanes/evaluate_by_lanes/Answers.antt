use Rattle.std.proofs.Common.{◌+◌, ◌<◌, ◌≤◌, ℕ, [], ◌∷◌, length, map, sym, ap, ◌∙◌, arith}
use Rattle.std.proofs.lemmas.List.{at_drop_all, length_push, map-append}
use Rattle.p3_air.specs.Nodes.{Meaning, node_meaning, meanings_after, values_in}
use Rattle.p3_air.specs.Shapes.{entries_of}
use Rattle.p3_air.proofs.Meanings.{meanings_next}
use Rattle.p3_uni_stark_quotient.specs.Lanes.{in_lane, lane_entries}
use Rattle.p3_uni_stark_quotient.proofs.lanes.evaluate_by_lanes.Goals as goal

pub loop-i-preserved : goal.loop-i-preserved
loop-i-preserved g c =
    let lane = g.P.PackedField.lane in
    let m : ℕ → Meaning g.row.F.Denot g.row.F.Denot =
    λ k. values_in g.F.Field.ops (λ x. x) g.F.Field.ops.zero
    (lane_entries lane k (entries_of c.args.window.now)) in
    let there : c.loop-i.i < length c.args.air.now.nodes.items = omega arith in
    let node = c.index.result.now in
    let value = c.node_by_lanes-value.result in
    let values = c.loop-i.values.items in
    record {
      len = ap length c.in_ok-push.ensures.items ∙ length_push values value
          ∙ ap (λ n. n + 1) c.loop-i.invariant.len;
      run = λ k within. meanings_next (m k) c.args.air.now.nodes.items c.loop-i.i
          (in_lane lane k values) (in_lane lane k c.push.new.self.items) node (lane value k) there
          c.index.ensures
          (c.node_by_lanes-value.ensures k within
          ∙ ap (λ xs. node_meaning (m k) (in_lane lane k xs) node) c.as_slice.ensures.value)
          (ap (in_lane lane k) c.in_ok-push.ensures.items
          ∙ map-append (λ v. lane v k) values (value ∷ []))
          (c.loop-i.invariant.run k within);
    }

pub returns : goal.returns
returns g c k within =
    let lane = g.P.PackedField.lane in
    let m = values_in g.F.Field.ops (λ x. x) g.F.Field.ops.zero
    (lane_entries lane k (entries_of c.args.window.now)) in
    let end : length c.args.air.now.nodes.items ≤ c.loop-i.i = omega arith in
    sym (at_drop_all (λ ns. meanings_after m (in_lane lane k c.loop-i.values.items) ns)
    c.args.air.now.nodes.items c.loop-i.i end)
    ∙ c.loop-i.invariant.run k within
