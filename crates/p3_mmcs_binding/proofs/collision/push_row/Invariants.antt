use Rattle.std.proofs.Common.{◌≡◌, ◌++◌, take, length}
use Rattle.std.specs.List.{flat_map}
use Rattle.std.specs.Int.{w64, to_le_bytes}
use Rattle.p3_mmcs_binding.proofs.collision.push_row.Given as goal

abbrev pub invariant-loop-element : goal.invariant-loop-element
invariant-loop-element g l =
    l.message.items ≡ (l.fn.message.items ++ to_le_bytes w64 (length l.row))
    ++ flat_map g.T.ElementBytes.bytes (take l.element-index l.row)
