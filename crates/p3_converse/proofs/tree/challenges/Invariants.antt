use Rattle.std.proofs.Common.{◌≡◌, map, take}
use Rattle.p3_converse.proofs.tree.challenges.Given as goal

abbrev pub invariant-loop-subtree : goal.invariant-loop-subtree
invariant-loop-subtree g l = l.betas.items ≡ map (λ t. t.0) (take l.subtree-index l.subtrees)
