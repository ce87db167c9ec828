use Rattle.std.proofs.Common.{◌≡◌, take}
use Rattle.std.specs.List.{flat_map}
use Rattle.p3_uni_stark_quotient.specs.Lanes.{selected_lanes}
use Rattle.p3_uni_stark_quotient.proofs.lanes.select_all_by_lanes.Given as goal

abbrev pub invariant-loop-constraint : goal.invariant-loop-constraint
invariant-loop-constraint g l = l.selected.items ≡ flat_map (selected_lanes g.F.Field.ops
    g.P.PackedField.lane l.fn.selectors l.fn.values g.P.PackedField.WIDTH)
    (take l.constraint-index l.fn.constraints)
