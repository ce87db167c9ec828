use Rattle.std.proofs.Common.{◌≡◌, ◌≤◌, ◌+◌, ◌-◌, length, arith, ap, ◌∙◌}
use Rattle.std.specs.Int.{w64, to_le_bytes}
use Rattle.std.proofs.lemmas.Nat.{row_fits}
use Rattle.p3_mmcs.proofs.Buffers.{length_written, written_more}
use Rattle.p3_mmcs.proofs.sha256_mmcs.encoding.write_row.Goals as goal

pub loop-element-preserved : goal.loop-element-preserved
loop-element-preserved g c =
    let LEN = g.T.ElementBytes.LEN in
    let row = c.args.row.now in
    let i = c.loop-element.element-index in
    let at = c.loop-element.at in
    let out = c.loop-element.out in
    let part = c.write_bytes.new.out in
    let here = c.loop-element.invariant in
    let long : length part ≡ LEN =
    ap length c.write_bytes.ensures ∙ g.met.T.ElementBytes.bytes_length c.element-item.result in
    let room : at + LEN ≤ length out =
    omega (
      arith,
      here.place,
      here.len,
      row_fits i LEN (length row) LEN c.loop-element-test.true (omega arith),
    ) in
    record {
      place = omega (arith, c.LEN-at.ensures, here.place);
      len =
          length_written out part at (at + c.LEN.result - at) (omega (arith, room, c.LEN.ensures))
          (omega (arith, long, c.LEN.ensures)) ∙ here.len;
      written =
          written_more g.T.ElementBytes.bytes (to_le_bytes w64 (length row)) row i
          c.element-item.result out part at (at + c.LEN.result - at) (at + c.LEN-at.result)
          c.loop-element-test.true c.element-item.is (omega (arith, room)) c.write_bytes.ensures
          (omega (arith, long, c.LEN-at.ensures)) here.written;
    }
