use Rattle.std.proofs.Common.{ℕ, List, ◌++◌, take}
use Rattle.p3_mmcs.specs.Buffer.{HoldsMessage}
use Rattle.p3_mmcs.proofs.sha256_mmcs.buffer.BufferedHasher.push_element.Given as goal

abbrev pub invariant-loop-index : goal.invariant-loop-index
invariant-loop-index g l =
    (message : List ℕ) → HoldsMessage l.fn.self message
    → HoldsMessage l.self (message ++ take l.index (g.T.ElementBytes.bytes l.element))
