use Rattle.std.proofs.Common.{◌≡◌, refl, subst, sym, ap, ◌∙◌, arith}
use Rattle.p3_converse.specs.Trees.{node, subtrees, tree_of, HasLeaves, EachHasLeaves}
use Rattle.p3_converse.proofs.Trees.{views, tree_of-Node}
use Rattle.p3_converse.proofs.EachTree.{one_fails, one_holds, all_hold}
use Rattle.p3_converse.proofs.conditions.+leaves_fit.Goals as goal

pub returns-then-not-leaves_fit : goal.returns-then-not-leaves_fit
returns-then-not-leaves_fit g t c =
    let n = c.args.length in
    let ts = c.deref-subtree-items.result.now in
    let x = c.subtree-item.result in
    let failed = c.if-not-leaves_fit.true in
    let seen : tree_of c.args.tree.now ≡ node (subtrees (views ts)) =
    ap tree_of c.in-Node.is ∙ tree_of-Node c.in-Node.subtrees ∙ ap (λ us. node (subtrees (views us))) (sym c.deref-subtree-items.ensures.value) in
    let no : ¬ HasLeaves n (tree_of x.1) = λ p. let yes = c.leaves_fit.ensures.1 p in absurd (cc) in (
      λ never. absurd (cc),
      λ h. absurd (one_fails (HasLeaves n) (EachHasLeaves n) (λ b u us e. e) (λ b u us p e. (p, e)) ts c.loop-subtree.subtree-index x c.loop-subtree-test.true c.subtree-item.is c.loop-subtree.invariant no
          (subst (λ u. HasLeaves n u) seen h)),
    )

pub loop-subtree-preserved : goal.loop-subtree-preserved
loop-subtree-preserved g t c =
    let n = c.args.length in
    let x = c.subtree-item.result in
    let passed = c.if-not-leaves_fit.false in
    one_holds (HasLeaves n) (EachHasLeaves n) (λ b u us e. e) (λ b u us p e. (p, e)) c.deref-subtree-items.result.now c.loop-subtree.subtree-index x c.loop-subtree-test.true c.subtree-item.is c.loop-subtree.invariant
    (c.leaves_fit.ensures.0 (cc))

pub returns-after-loop-subtree : goal.returns-after-loop-subtree
returns-after-loop-subtree g t c =
    let n = c.args.length in
    let ts = c.deref-subtree-items.result.now in
    let seen : tree_of c.args.tree.now ≡ node (subtrees (views ts)) =
    ap tree_of c.in-Node.is ∙ tree_of-Node c.in-Node.subtrees ∙ ap (λ us. node (subtrees (views us))) (sym c.deref-subtree-items.ensures.value) in (
      λ _. subst (λ u. HasLeaves n u) (sym seen)
          (all_hold (HasLeaves n) (EachHasLeaves n) (λ b u us e. e) (λ b u us p e. (p, e)) ts c.loop-subtree.subtree-index (omega (arith, c.loop-subtree-test.false)) tt c.loop-subtree.invariant),
      λ _. refl,
    )
