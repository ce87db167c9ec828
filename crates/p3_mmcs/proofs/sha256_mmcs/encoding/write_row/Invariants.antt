use Rattle.std.proofs.Common.{◌≡◌, ◌+◌, ◌*◌, ◌++◌, take, length}
use Rattle.std.specs.List.{flat_map}
use Rattle.std.specs.Int.{w64, to_le_bytes}
use Rattle.p3_mmcs.proofs.sha256_mmcs.encoding.write_row.Given as goal

abbrev pub invariant-loop-element : goal.invariant-loop-element
invariant-loop-element g l = record {
  place : l.at ≡ 8 + g.T.ElementBytes.LEN * l.element-index;
  len : length l.out ≡ 8 + g.T.ElementBytes.LEN * length l.row;
  written : take l.at l.out ≡ to_le_bytes w64 (length l.row)
      ++ flat_map g.T.ElementBytes.bytes (take l.element-index l.row);
}
