use Rattle.std.proofs.Common.{ℕ, List, ◌++◌, take}
use Rattle.p3_mmcs.specs.Buffer.{HoldsMessage}
use Rattle.p3_mmcs.proofs.sha256_mmcs.buffer.BufferedHasher.push_bytes.Given as goal

abbrev pub invariant-loop-byte : goal.invariant-loop-byte
invariant-loop-byte l = (message : List ℕ) → HoldsMessage l.fn.self message
    → HoldsMessage l.self (message ++ take l.byte-index l.bytes)
