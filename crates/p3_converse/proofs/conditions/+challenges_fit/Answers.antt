use Rattle.std.proofs.Common.{◌≡◌, ◌<◌, length, map, refl, subst, sym, ap, ◌∙◌, arith}
use Rattle.std.specs.Prelude.{slice_range}
use Rattle.algebra.specs.Interpolation.{AreDistinct}
use Rattle.p3_converse.specs.Trees.{subtrees, tree_of, HasBetas, EachHasBetas}
use Rattle.p3_converse.proofs.Trees.{views}
use Rattle.p3_converse.proofs.EachTree.{not_empty, challenges_open, challenges_close, one_fails, one_holds, all_hold}
use Rattle.p3_converse.proofs.conditions.+challenges_fit.Goals as goal

pub returns-then-not-is_challenge_count : goal.returns-then-not-is_challenge_count
returns-then-not-is_challenge_count g t c =
    let rounds = c.args.rounds.now in
    let later = slice_range rounds 1 (length rounds) in
    let some : 0 < length rounds = not_empty (length rounds) (sym c.is_empty.ensures ∙ c.if-is_empty.false) in
    let betas = c.in_ok-betas-in-Node.betas.items in
    let trees = c.in-Node.subtrees.items in
    let eb : betas ≡ map (λ u. u.0) trees = c.in_ok-betas-in-Node.ensures ∙ ap (λ us. map (λ u. u.0) us) c.deref.ensures.value in
    let failed = c.if-not-is_challenge_count.true in (
      λ never. absurd (cc),
      λ h. let held = c.is_challenge_count.ensures.1 (c.len.ensures ∙ c.in_ok-betas-in-Node.betas.ok.0 ∙ (challenges_open rounds c.args.tree.now c.in-Node.subtrees trees betas c.in-Node.is refl eb some h).0) in absurd (cc),
    )

pub returns-then-not-are_distinct : goal.returns-then-not-are_distinct
returns-then-not-are_distinct g t c =
    let rounds = c.args.rounds.now in
    let later = slice_range rounds 1 (length rounds) in
    let some : 0 < length rounds = not_empty (length rounds) (sym c.is_empty.ensures ∙ c.if-is_empty.false) in
    let betas = c.in_ok-betas-in-Node.betas.items in
    let trees = c.in-Node.subtrees.items in
    let eb : betas ≡ map (λ u. u.0) trees = c.in_ok-betas-in-Node.ensures ∙ ap (λ us. map (λ u. u.0) us) c.deref.ensures.value in
    let failed = c.if-not-are_distinct.true in (
      λ never. absurd (cc),
      λ h. let held = c.are_distinct.ensures.1 (subst AreDistinct (sym c.deref-in-Node.ensures.value) (challenges_open rounds c.args.tree.now c.in-Node.subtrees trees betas c.in-Node.is refl eb some h).1) in absurd (cc),
    )

pub returns-then-not-branch : goal.returns-then-not-branch
returns-then-not-branch g t c =
    let rounds = c.args.rounds.now in
    let later = slice_range rounds 1 (length rounds) in
    let some : 0 < length rounds = not_empty (length rounds) (sym c.is_empty.ensures ∙ c.if-is_empty.false) in
    let betas = c.in_ok-betas-in-Node.betas.items in
    let trees = c.in-Node.subtrees.items in
    let eb : betas ≡ map (λ u. u.0) trees = c.in_ok-betas-in-Node.ensures ∙ ap (λ us. map (λ u. u.0) us) c.deref.ensures.value in
    let ts = c.deref-subtree-items.result.now in
    let x = c.subtree-item.result in
    let failed = c.if-not-branch.true in
    let none : ¬ HasBetas later (tree_of x.1) = λ p. let held = c.in_ok-challenges_fit-in-Node.ensures.1 p in absurd (cc) in (
      λ never. absurd (cc),
      λ h. absurd (one_fails (HasBetas later) (EachHasBetas later) (λ b u us e. e) (λ b u us p e. (p, e)) ts c.loop-subtree.subtree-index x c.loop-subtree-test.true c.subtree-item.is c.loop-subtree.invariant none
          (subst (λ us. EachHasBetas later (subtrees (views us))) (sym c.deref-subtree-items.ensures.value) (challenges_open rounds c.args.tree.now c.in-Node.subtrees trees betas c.in-Node.is refl eb some h).2)),
    )

pub loop-subtree-preserved : goal.loop-subtree-preserved
loop-subtree-preserved g t c =
    let later = slice_range c.args.rounds.now 1 (length c.args.rounds.now) in
    let passed = c.if-not-branch.false in
    one_holds (HasBetas later) (EachHasBetas later) (λ b u us e. e) (λ b u us p e. (p, e)) c.deref-subtree-items.result.now c.loop-subtree.subtree-index c.subtree-item.result c.loop-subtree-test.true c.subtree-item.is c.loop-subtree.invariant
    (c.in_ok-challenges_fit-in-Node.ensures.0 (cc))

pub returns-after-loop-subtree : goal.returns-after-loop-subtree
returns-after-loop-subtree g t c =
    let rounds = c.args.rounds.now in
    let later = slice_range rounds 1 (length rounds) in
    let some : 0 < length rounds = not_empty (length rounds) (sym c.is_empty.ensures ∙ c.if-is_empty.false) in
    let betas = c.in_ok-betas-in-Node.betas.items in
    let trees = c.in-Node.subtrees.items in
    let eb : betas ≡ map (λ u. u.0) trees = c.in_ok-betas-in-Node.ensures ∙ ap (λ us. map (λ u. u.0) us) c.deref.ensures.value in
    let ts = c.deref-subtree-items.result.now in
    let counted = c.if-not-is_challenge_count.false in
    let apart = c.if-not-are_distinct.false in (
      λ _. challenges_close rounds c.args.tree.now c.in-Node.subtrees trees betas c.in-Node.is refl eb some
          (sym (c.len.ensures ∙ c.in_ok-betas-in-Node.betas.ok.0) ∙ c.is_challenge_count.ensures.0 (cc))
          (subst AreDistinct c.deref-in-Node.ensures.value (c.are_distinct.ensures.0 (cc)))
          (subst (λ us. EachHasBetas later (subtrees (views us))) c.deref-subtree-items.ensures.value
          (all_hold (HasBetas later) (EachHasBetas later) (λ b u us e. e) (λ b u us p e. (p, e)) ts c.loop-subtree.subtree-index (omega (arith, c.loop-subtree-test.false)) tt c.loop-subtree.invariant)),
      λ _. refl,
    )
