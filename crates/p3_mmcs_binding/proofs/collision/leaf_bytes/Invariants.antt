use Rattle.std.proofs.Common.{◌≡◌, ◌∷◌, take}
use Rattle.std.specs.List.{flat_map}
use Rattle.algebra.specs.Nested.{lists}
use Rattle.p3_mmcs.specs.Tree.{row_bytes}
use Rattle.p3_mmcs_binding.proofs.collision.leaf_bytes.Given as goal

abbrev pub invariant-loop-row : goal.invariant-loop-row
invariant-loop-row g l = l.message.items
    ≡ 0 ∷ flat_map (row_bytes g.T.ElementBytes.bytes) (lists (take l.row-index l.rows))
