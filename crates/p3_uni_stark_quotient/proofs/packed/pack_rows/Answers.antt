use Rattle.std.proofs.Common.{◌≡◌, ◌+◌, ◌%◌, List, [], length, ap, ◌∙◌, arith, get_or}
use Rattle.std.proofs.lemmas.List.{length_push}
use Rattle.std.specs.Borrow.{Bor}
use Rattle.p3_uni_stark_quotient.specs.Given.{rows_if_any}
use Rattle.p3_uni_stark_quotient.proofs.Selecting.{each_pushed}
use Rattle.p3_uni_stark_quotient.proofs.packed.pack_rows.Goals as goal

pub returns : goal.returns
returns g c l within =
    let row : Bor (List g.row.F.Denot) =
    record { ref_ptr = c.as_slice.result.ref_ptr; now = [] } in
    let test = c.loop-lane-test.false in
    let end = c.WIDTH-lane-end.ensures in
    c.in_ok-pack_columns.ensures l row within
    ∙ ap (λ rs. (get_or rs l row).now) c.as_slice.ensures.value
    ∙ c.loop-lane.invariant.each l row (omega (arith, within, test, end))

pub loop-lane-preserved : goal.loop-lane-preserved
loop-lane-preserved g c =
    let so_far = c.loop-lane.invariant in
    let rows = c.loop-lane.rows.items in
    let row = c.row_or_empty.result in
    record {
      len = ap length c.in_ok-push.ensures.items ∙ length_push rows row ∙ ap (λ n. n + 1) so_far.len;
      each = each_pushed (λ k r. r.now
          ≡ get_or (rows_if_any c.args.matrix) ((c.args.start + k) % c.args.period) [])
          rows c.push.new.self.items row c.loop-lane.lane c.in_ok-push.ensures.items so_far.len
          so_far.each c.row_or_empty.ensures;
    }
