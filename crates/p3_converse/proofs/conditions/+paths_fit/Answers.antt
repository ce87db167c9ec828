use Rattle.std.proofs.Common.{◌≡◌, ◌-◌, ◌<◌, suc, length, drop, refl, subst, sym, ap, ◌∙◌, arith, length-drop}
use Rattle.std.specs.Prelude.{slice_range}
use Rattle.std.proofs.lemmas.List.{length-take-le}
use Rattle.p3_converse.specs.Trees.{node, subtrees, tree_of, HasPaths, EachHasPaths}
use Rattle.p3_converse.proofs.Trees.{views, tree_of-Node}
use Rattle.p3_converse.proofs.EachTree.{not_empty, one_fails, one_holds, all_hold}
use Rattle.p3_converse.proofs.conditions.+paths_fit.Goals as goal

pub returns-then-not-paths_fit : goal.returns-then-not-paths_fit
returns-then-not-paths_fit g t c =
    let rounds = c.args.rounds.now in
    let n = length rounds - 1 in
    let some : 0 < length rounds = not_empty (length rounds) (sym c.is_empty-in-Node.ensures ∙ c.if-is_empty.false) in
    let more : length rounds ≡ suc n = omega (arith, some) in
    let fewer : length (slice_range rounds 1 (length rounds)) ≡ n = length-take-le n (drop 1 rounds) (omega (arith, length-drop 1 rounds)) in
    let ts = c.deref-subtree-items.result.now in
    let x = c.subtree-item.result in
    let failed = c.if-not-paths_fit.true in
    let seen : tree_of c.args.tree.now ≡ node (subtrees (views ts)) =
    ap tree_of c.in-Node.is ∙ tree_of-Node c.in-Node.subtrees ∙ ap (λ us. node (subtrees (views us))) (sym c.deref-subtree-items.ensures.value) in
    let no : ¬ HasPaths n (tree_of x.1) = λ p. let yes = c.paths_fit.ensures.1 (subst (λ m. HasPaths m (tree_of x.1)) (sym fewer) p) in absurd (cc) in (
      λ never. absurd (cc),
      λ h. absurd (one_fails (HasPaths n) (EachHasPaths n) (λ b u us e. e) (λ b u us p e. (p, e)) ts c.loop-subtree.subtree-index x c.loop-subtree-test.true c.subtree-item.is c.loop-subtree.invariant no
          (subst (λ u. HasPaths (suc n) u) seen (subst (λ m. HasPaths m (tree_of c.args.tree.now)) more h))),
    )

pub loop-subtree-preserved : goal.loop-subtree-preserved
loop-subtree-preserved g t c =
    let rounds = c.args.rounds.now in
    let n = length rounds - 1 in
    let some : 0 < length rounds = not_empty (length rounds) (sym c.is_empty-in-Node.ensures ∙ c.if-is_empty.false) in
    let more : length rounds ≡ suc n = omega (arith, some) in
    let fewer : length (slice_range rounds 1 (length rounds)) ≡ n = length-take-le n (drop 1 rounds) (omega (arith, length-drop 1 rounds)) in
    let x = c.subtree-item.result in
    let passed = c.if-not-paths_fit.false in
    one_holds (HasPaths n) (EachHasPaths n) (λ b u us e. e) (λ b u us p e. (p, e)) c.deref-subtree-items.result.now c.loop-subtree.subtree-index x c.loop-subtree-test.true c.subtree-item.is c.loop-subtree.invariant
    (subst (λ m. HasPaths m (tree_of x.1)) fewer (c.paths_fit.ensures.0 (cc)))

pub returns-after-loop-subtree : goal.returns-after-loop-subtree
returns-after-loop-subtree g t c =
    let rounds = c.args.rounds.now in
    let n = length rounds - 1 in
    let some : 0 < length rounds = not_empty (length rounds) (sym c.is_empty-in-Node.ensures ∙ c.if-is_empty.false) in
    let more : length rounds ≡ suc n = omega (arith, some) in
    let fewer : length (slice_range rounds 1 (length rounds)) ≡ n = length-take-le n (drop 1 rounds) (omega (arith, length-drop 1 rounds)) in
    let ts = c.deref-subtree-items.result.now in
    let seen : tree_of c.args.tree.now ≡ node (subtrees (views ts)) =
    ap tree_of c.in-Node.is ∙ tree_of-Node c.in-Node.subtrees ∙ ap (λ us. node (subtrees (views us))) (sym c.deref-subtree-items.ensures.value) in (
      λ _. subst (λ m. HasPaths m (tree_of c.args.tree.now)) (sym more) (subst (λ u. HasPaths (suc n) u) (sym seen)
          (all_hold (HasPaths n) (EachHasPaths n) (λ b u us e. e) (λ b u us p e. (p, e)) ts c.loop-subtree.subtree-index (omega (arith, c.loop-subtree-test.false)) tt c.loop-subtree.invariant)),
      λ _. refl,
    )
