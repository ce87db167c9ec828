use Rattle.std.proofs.Common.{◌*◌, [], slice_index_or}
use Rattle.p3_mmcs.proofs.Trees.{TreeUpTo}
use Rattle.p3_mmcs.proofs.sha256_mmcs.tree.push_parents.Given as goal

abbrev pub invariant-loop-group : goal.invariant-loop-group
invariant-loop-group l =
    TreeUpTo (λ i. slice_index_or l.fn.digests.items i []) l.height (8 * l.group) l.digests.items

abbrev pub invariant-loop-pair : goal.invariant-loop-pair
invariant-loop-pair l =
    TreeUpTo (λ i. slice_index_or l.fn.digests.items i []) l.height l.pair l.digests.items
