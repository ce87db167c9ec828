use Rattle.std.proofs.Common.{◌≡◌, map, take, slice_index_or}
use Rattle.p3_uni_stark_identity.specs.Folding.{selected_by}
use Rattle.p3_uni_stark_quotient.proofs.row.select_all.Given as goal

abbrev pub invariant-loop-constraint : goal.invariant-loop-constraint
invariant-loop-constraint g l = l.selected.items ≡ map (λ c. selected_by g.F.Field.ops
    l.fn.selectors c.rows (slice_index_or l.fn.values c.node g.F.Field.ops.zero))
    (take l.constraint-index l.fn.constraints)
