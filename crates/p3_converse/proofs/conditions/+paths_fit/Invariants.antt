use Rattle.std.proofs.Common.{◌↔◌, ◌-◌, drop, length}
use Rattle.p3_converse.specs.Trees.{EachHasPaths, subtrees}
use Rattle.p3_converse.proofs.Trees.{views}
use Rattle.p3_converse.proofs.conditions.+paths_fit.Given as goal

abbrev pub invariant-loop-subtree : goal.invariant-loop-subtree
invariant-loop-subtree g l = EachHasPaths (length l.rounds - 1) (subtrees (views (drop l.subtree-index l.subtree-items))) ↔ EachHasPaths (length l.rounds - 1) (subtrees (views l.subtree-items))
