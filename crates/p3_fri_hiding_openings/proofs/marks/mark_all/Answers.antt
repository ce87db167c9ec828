use Rattle.std.proofs.lemmas.List.Edits.{map_over_more}
use Rattle.p3_pcs.specs.Requests.{with_data}
use Rattle.p3_fri_hiding_openings.specs.Requests.{after_opening}
use Rattle.p3_fri_hiding_openings.proofs.marks.mark_all.Goals as goal

pub loop-i-preserved : goal.loop-i-preserved
loop-i-preserved g c =
    let e = map_over_more (with_data after_opening) c.args.requests.now c.loop-i.requests
    c.loop-i.i c.index-requests-i.result c.loop-i-test.true c.loop-i.invariant
    c.index-requests-i.is in
    cc
