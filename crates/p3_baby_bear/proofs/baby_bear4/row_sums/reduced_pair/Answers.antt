use Rattle.std.proofs.Common.{◌≡◌, length, ◌∙◌, arith}
use Rattle.p3_lanes.specs.Halves.{totals}
use Rattle.p3_baby_bear.specs.BabyBear4Laws.{same_coefficients}
use Rattle.p3_baby_bear.proofs.LaneSteps.{canonical_map}
use Rattle.p3_baby_bear.proofs.RowSteps.{lanes_added, totals_length}
use Rattle.p3_baby_bear.proofs.baby_bear4.row_sums.reduced_pair.Goals as goal

pub invariant_of-lanes : goal.invariant_of-lanes
invariant_of-lanes c =
    record { canonical = λ l. rw c.reduced_halves.ensures (canonical_map (λ n. n) (totals c.args.sums.low c.args.sums.high) l) }

pub returns : goal.returns
returns c =
    let ns = totals c.args.sums.low c.args.sums.high in
    let n8 : length ns ≡ 8 = totals_length c.args.sums.low c.args.sums.high (omega arith) ∙ omega arith in
    let is = c.reduced_halves.ensures in
    same_coefficients
    (lanes_added ns c.reduced_halves.result 0 4 c.lane.result c.lane-2.result c.add.result (omega arith) (omega arith) n8 is c.lane.ensures c.lane-2.ensures c.add.ensures)
    (lanes_added ns c.reduced_halves.result 1 5 c.lane-3.result c.lane-4.result c.add-2.result (omega arith) (omega arith) n8 is c.lane-3.ensures c.lane-4.ensures c.add-2.ensures)
    (lanes_added ns c.reduced_halves.result 2 6 c.lane-5.result c.lane-6.result c.add-3.result (omega arith) (omega arith) n8 is c.lane-5.ensures c.lane-6.ensures c.add-3.ensures)
    (lanes_added ns c.reduced_halves.result 3 7 c.lane-7.result c.lane-8.result c.add-4.result (omega arith) (omega arith) n8 is c.lane-7.ensures c.lane-8.ensures c.add-4.ensures)
