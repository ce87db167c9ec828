use Rattle.std.proofs.Common.{ℕ, ◌+◌, ◌<◌, length, get_or, sym, ap, subst, arith}
use Rattle.std.proofs.Math.Nat.{lt_of_lt_of_le}
use Rattle.std.proofs.lemmas.List.{get_or_read}
use Rattle.p3_uni_stark_quotient.proofs.ByLanes.{lane_more}
use Rattle.p3_uni_stark_quotient.proofs.lanes.pack_selectors.Goals as goal

pub loop-lane-preserved : goal.loop-lane-preserved
loop-lane-preserved g c k s below =
    let lane = g.P.PackedField.lane in
    let width = g.P.PackedField.WIDTH in
    let start = c.args.start in
    let selectors = c.args.selectors.now in
    let here = c.index-selectors-start.result in
    let i = c.loop-lane.lane in
    let within : i < width = subst (λ n. i < n) c.WIDTH-lane-end.ensures c.loop-lane-test.true in
    let inside : start + i < length selectors = omega (arith, within, c.requires) in
    let read = get_or_read selectors (start + i) here inside c.index-selectors-start.is s in
    let so_far = c.loop-lane.invariant in
    record {
      first = lane_more lane c.loop-lane.first c.with_lane-first.result here.is_first_row width i
          (λ j. (get_or selectors (start + j) s).is_first_row) within
          (λ j l. (so_far j s l).first) c.with_lane-first.ensures.here
          c.with_lane-first.ensures.elsewhere (ap (λ x. x.is_first_row) read) k below;
      last = lane_more lane c.loop-lane.last c.with_lane-last.result here.is_last_row width i
          (λ j. (get_or selectors (start + j) s).is_last_row) within
          (λ j l. (so_far j s l).last) c.with_lane-last.ensures.here
          c.with_lane-last.ensures.elsewhere (ap (λ x. x.is_last_row) read) k below;
      transition = lane_more lane c.loop-lane.transition c.with_lane-transition.result
          here.is_transition width i (λ j. (get_or selectors (start + j) s).is_transition) within
          (λ j l. (so_far j s l).transition) c.with_lane-transition.ensures.here
          c.with_lane-transition.ensures.elsewhere (ap (λ x. x.is_transition) read) k below;
      inverse = lane_more lane c.loop-lane.inverse c.with_lane-inverse.result
          here.inv_vanishing width i (λ j. (get_or selectors (start + j) s).inv_vanishing) within
          (λ j l. (so_far j s l).inverse) c.with_lane-inverse.ensures.here
          c.with_lane-inverse.ensures.elsewhere (ap (λ x. x.inv_vanishing) read) k below;
    }

pub returns : goal.returns
returns g c l s within =
    let h = c.loop-lane.invariant l s
    (lt_of_lt_of_le (subst (λ n. l < n) (sym c.WIDTH-lane-end.ensures) within)
    c.loop-lane-test.false) in
    λ j. record {
      is_first_row = h.first j;
      is_last_row = h.last j;
      is_transition = h.transition j;
      inv_vanishing = h.inverse j;
    }
