use Rattle.std.proofs.Common.{◌≡◌, drop}
use Rattle.p3_mmcs.specs.Tree.{climb}
use Rattle.p3_mmcs.proofs.sha256_mmcs.verification.root_over.Given as goal

abbrev pub invariant-loop-sibling : goal.invariant-loop-sibling
invariant-loop-sibling l = climb l.at l.top (drop l.sibling-index l.path)
    ≡ climb l.fn.index l.fn.digest l.path
