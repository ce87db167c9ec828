use Rattle.std.proofs.Common.{◌↔◌, drop, length}
use Rattle.std.specs.Prelude.{slice_range}
use Rattle.p3_converse.specs.Trees.{EachHasBetas, subtrees}
use Rattle.p3_converse.proofs.Trees.{views}
use Rattle.p3_converse.proofs.conditions.+challenges_fit.Given as goal

abbrev pub invariant-loop-subtree : goal.invariant-loop-subtree
invariant-loop-subtree g l =
    let later = slice_range l.rounds 1 (length l.rounds) in
    EachHasBetas later (subtrees (views (drop l.subtree-index l.subtree-items))) ↔ EachHasBetas later (subtrees (views l.subtree-items))

-- no deeper than there are rounds
abbrev pub decreases-challenges_fit : goal.decreases-challenges_fit
decreases-challenges_fit g l = length l.rounds.now
