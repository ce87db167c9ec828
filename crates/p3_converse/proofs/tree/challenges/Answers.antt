use Rattle.std.proofs.Common.{[]}
use Rattle.algebra.proofs.Growing.{mapped_next, mapped_end}
use Rattle.p3_converse.proofs.tree.challenges.Goals as goal

pub loop-subtree-preserved : goal.loop-subtree-preserved
loop-subtree-preserved g c =
    mapped_next (λ t. t.0) c.args.subtrees.now c.loop-subtree.subtree-index c.subtree-item.result []
    c.loop-subtree.betas.items c.push.new.self.items c.loop-subtree-test.true c.subtree-item.is
    c.loop-subtree.invariant c.in_ok-push.ensures.items

pub returns : goal.returns
returns g c =
    mapped_end (λ t. t.0) c.args.subtrees.now c.loop-subtree.subtree-index []
    c.loop-subtree.betas.items c.loop-subtree-test.false c.loop-subtree.invariant
