use Rattle.std.proofs.Common.{◌↔◌, drop}
use Rattle.p3_converse.specs.Trees.{EachHasLeaves, subtrees}
use Rattle.p3_converse.proofs.Trees.{views}
use Rattle.p3_converse.proofs.conditions.+leaves_fit.Given as goal

abbrev pub invariant-loop-subtree : goal.invariant-loop-subtree
invariant-loop-subtree g l = EachHasLeaves l.length (subtrees (views (drop l.subtree-index l.subtree-items))) ↔ EachHasLeaves l.length (subtrees (views l.subtree-items))
