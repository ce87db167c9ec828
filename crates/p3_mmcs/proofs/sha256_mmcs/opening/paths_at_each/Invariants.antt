use Rattle.std.proofs.Common.{◌≡◌, ◌^◌, ℕ, List, take, map}
use Rattle.algebra.specs.Nested.{lists}
use Rattle.p3_mmcs.specs.Tree.{path_of}
use Rattle.p3_mmcs.specs.Digests.{IsTree}
use Rattle.p3_mmcs.proofs.sha256_mmcs.opening.paths_at_each.Given as goal

abbrev pub invariant-loop-index : goal.invariant-loop-index
invariant-loop-index l = (leaves : ℕ → List ℕ) → IsTree leaves (2 ^ l.log_height) l.digests
    → lists l.paths.items ≡ map (path_of leaves l.log_height) (take l.index-index l.indices)
