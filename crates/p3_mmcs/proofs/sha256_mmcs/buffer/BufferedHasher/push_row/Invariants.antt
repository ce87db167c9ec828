use Rattle.std.proofs.Common.{ℕ, List, ◌++◌, take, length}
use Rattle.std.specs.List.{flat_map}
use Rattle.std.specs.Int.{w64, to_le_bytes}
use Rattle.p3_mmcs.specs.Buffer.{HoldsMessage}
use Rattle.p3_mmcs.proofs.sha256_mmcs.buffer.BufferedHasher.push_row.Given as goal

abbrev pub invariant-loop-element : goal.invariant-loop-element
invariant-loop-element g l =
    (message : List ℕ) → HoldsMessage l.fn.self message
    → HoldsMessage l.self ((message ++ to_le_bytes w64 (length l.row))
    ++ flat_map g.T.ElementBytes.bytes (take l.element-index l.row))
