use Rattle.std.proofs.Common.{◌≡◌, ◌++◌, take}
use Rattle.p3_mmcs_binding.proofs.collision.push_element.Given as goal

abbrev pub invariant-loop-index : goal.invariant-loop-index
invariant-loop-index g l =
    l.message.items ≡ l.fn.message.items ++ take l.index (g.T.ElementBytes.bytes l.element)
