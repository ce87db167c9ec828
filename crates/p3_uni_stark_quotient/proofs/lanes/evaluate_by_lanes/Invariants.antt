use Rattle.std.proofs.Common.{◌≡◌, ◌<◌, ℕ, length, drop}
use Rattle.p3_air.specs.Nodes.{meanings_after, meanings, values_in}
use Rattle.p3_air.specs.Shapes.{entries_of}
use Rattle.p3_uni_stark_quotient.specs.Lanes.{in_lane, lane_entries}
use Rattle.p3_uni_stark_quotient.proofs.lanes.evaluate_by_lanes.Given as goal

abbrev pub invariant-loop-i : goal.invariant-loop-i
invariant-loop-i g l =
    let at = g.P.PackedField.lane in
    let m = λ (k : ℕ). values_in g.F.Field.ops (λ x. x) g.F.Field.ops.zero
    (lane_entries at k (entries_of l.window)) in
    record {
      len : length l.values.items ≡ l.i;
      run : (k : ℕ) → k < g.P.PackedField.WIDTH
          → meanings_after (m k) (in_lane at k l.values.items) (drop l.i l.air.nodes.items)
          ≡ meanings (m k) l.air.nodes.items;
    }
