use Rattle.std.proofs.Common.{◌≡◌, ◌+◌, ◌-◌, ◌*◌, ◌/◌, ◌^◌, ℕ, List, arith, sym, ap, ◌∙◌, length}
use Rattle.std.proofs.Common.{◌++◌, ◌∷◌, [], slice_index_or}
use Rattle.algebra.specs.Polynomial.{tabulate}
use Rattle.algebra.proofs.Lists.{tabulate-next}
use Rattle.p3_mmcs.specs.Tree.{digest_at, sibling_of}
use Rattle.p3_mmcs.proofs.Trees.{at_below, at_next, sibling_is, sibling_le}
use Rattle.p3_mmcs.proofs.sha256_mmcs.tree.path.Goals as goal

pub bounds-digests-sibling : goal.bounds-digests-sibling
bounds-digests-sibling c =
    omega (
      arith,
      c.sibling.ensures,
      c.requires.len,
      sibling_le c.loop-level.at,
      at_below c.args.log_height c.loop-level._level c.args.index c.loop-level.at
          c.loop-level-test.true c.requires.below c.loop-level.invariant.place,
    )

-- half of the digests, rounded up, are the leaves
half_of : (len count : ℕ) → len + 1 ≡ 2 * count → len / 2 + 1 ≡ count
half_of len count e = omega (arith, e)

pub loop-level-preserved : goal.loop-level-preserved
loop-level-preserved c = record {
  place =
      ap (λ n. n + c.loop-level.at / 2 + 2 * 2 ^ (c.args.log_height - (c.loop-level._level + 1)))
      (half_of (length c.args.digests.now) (2 ^ c.args.log_height) c.requires.len)
      ∙ at_next c.args.log_height c.loop-level._level c.args.index c.loop-level.at
      c.loop-level-test.true c.requires.below c.loop-level.invariant.place;
  siblings = λ leaves tree.
      let siblings : ℕ → List ℕ =
      λ level. digest_at leaves level (sibling_of (c.args.index / 2 ^ level)) in
      c.in_ok-push.ensures.items
      ∙ ap (λ ds. ds ++ slice_index_or c.args.digests.now c.sibling.result [] ∷ [])
      (c.loop-level.invariant.siblings leaves tree)
      ∙ ap (λ d. tabulate c.loop-level._level siblings ++ d ∷ [])
      (ap (λ k. slice_index_or c.args.digests.now k []) c.sibling.ensures
      ∙ sibling_is c.args.log_height c.loop-level._level c.args.index c.loop-level.at
      c.loop-level-test.true c.requires.below c.loop-level.invariant.place leaves c.args.digests.now
      tree)
      ∙ sym (tabulate-next c.loop-level._level siblings);
}

pub returns : goal.returns
returns c leaves tree =
    let all : c.loop-level._level ≡ c.args.log_height =
    omega (arith, c.loop-level-test.false, c.loop-level.auto._level-end) in
    c.loop-level.invariant.siblings leaves tree
    ∙ ap (λ n. tabulate n (λ level. digest_at leaves level (sibling_of (c.args.index / 2 ^ level))))
    all
