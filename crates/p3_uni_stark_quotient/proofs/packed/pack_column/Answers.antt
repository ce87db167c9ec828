use Rattle.std.proofs.Common.{◌<◌, length, get_or, sym, ap, subst, ◌∙◌}
use Rattle.std.proofs.lemmas.List.{get_or_read}
use Rattle.p3_uni_stark_quotient.proofs.ByLanes.{lane_more}
use Rattle.p3_uni_stark_quotient.proofs.packed.pack_column.Goals as goal

pub loop-lane-preserved : goal.loop-lane-preserved
loop-lane-preserved g c k x row below =
    let width = g.P.PackedField.WIDTH in
    let rows = c.args.rows.now in
    let column = c.args.column in
    let lane = c.loop-lane.lane in
    let here = c.index-rows-lane.result in
    let within : lane < width =
    subst (λ n. lane < n) c.WIDTH-lane-end.ensures c.loop-lane-test.true in
    let there : lane < length rows = subst (λ n. lane < n) (sym c.requires.count) within in
    let whole : column < length here.now = subst (λ r. column < length r.now)
    (sym c.index-rows-lane.is) (c.requires.column lane here there) in
    lane_more g.P.PackedField.lane c.loop-lane.packed c.with_lane-packed.result
    c.index-row-column.result width lane (λ j. get_or (get_or rows j row).now column x) within
    (λ j l. c.loop-lane.invariant j x row l) c.with_lane-packed.ensures.here
    c.with_lane-packed.ensures.elsewhere
    (get_or_read here.now column c.index-row-column.result whole c.index-row-column.is x
    ∙ ap (λ r. get_or r.now column x) (get_or_read rows lane here there c.index-rows-lane.is row))
    k below
