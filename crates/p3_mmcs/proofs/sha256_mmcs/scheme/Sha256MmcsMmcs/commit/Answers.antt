use Rattle.std.proofs.Common.{◌≡◌, ◌-◌, ◌<◌, length, arith, sym, ap, ◌∙◌, subst, slice_index_or, []}
use Rattle.std.specs.Int.{IsPowerOfTwo}
use Rattle.p3_field_core.proofs.IndexPowers.{exponents_agree}
use Rattle.p3_mmcs.specs.Batch.{max_height, HavePowerHeights, dimensions_of}
use Rattle.p3_mmcs.specs.Digests.{IsTree}
use Rattle.p3_mmcs.specs.Tree.{leaf_at, root_of}
use Rattle.p3_mmcs.proofs.Heights.{max_height-power}
use Rattle.std.proofs.lemmas.List.{get_or_default}
use Rattle.std.proofs.lemmas.Nat.{pow_pos}
use Rattle.p3_mmcs.proofs.Trees.{last_is}
use Rattle.p3_mmcs.proofs.sha256_mmcs.scheme.Sha256MmcsMmcs.commit.Goals as goal

pub log2_strict_usize-log_height-requires : goal.log2_strict_usize-log_height-requires
log2_strict_usize-log_height-requires g c =
    let height : c.greatest_height_of-height.result
    ≡ max_height (dimensions_of c.args.matrices.items) =
    c.greatest_height_of-height.ensures ∙ ap (λ ms.
    max_height (dimensions_of ms)) c.as_slice.ensures.value in
    record {
      power_of_two = subst IsPowerOfTwo (sym height)
          (max_height-power (dimensions_of c.args.matrices.items) c.requires.heights);
    }

pub tree_digests-requires-clause-heights : goal.tree_digests-requires-clause-heights
tree_digests-requires-clause-heights g c = subst (λ ms.
    HavePowerHeights (dimensions_of ms)) (sym c.as_slice-2.ensures.value) c.requires.heights

pub invariant_of-result : goal.invariant_of-result
invariant_of-result g c =
    let power = c.log2_strict_usize-log_height.ensures.power in
    let height = c.greatest_height_of-height.ensures ∙ ap (λ ms.
    max_height (dimensions_of ms)) c.as_slice.ensures.value in
    record {
      heights = c.requires.heights;
      greatest = sym (power ∙ height);
      tree =
          subst (λ n. IsTree (leaf_at g.T.ElementBytes.bytes c.args.matrices.items) n
          c.in_ok-digests.digests.items) (sym power)
          (subst (λ ms. IsTree (leaf_at g.T.ElementBytes.bytes ms)
          c.greatest_height_of-height.result c.in_ok-digests.digests.items)
          c.as_slice-2.ensures.value c.in_ok-digests.ensures);
    }

pub returns-clause-commitment : goal.returns-clause-commitment
returns-clause-commitment g c =
    let leaves = leaf_at g.T.ElementBytes.bytes c.args.matrices.items in
    let digests = c.in_ok-digests.digests in
    let power = c.log2_strict_usize-log_height.ensures.power in
    let tree =
    subst (λ n. IsTree leaves n digests.items) (sym power)
    (subst (λ ms. IsTree (leaf_at g.T.ElementBytes.bytes ms) c.greatest_height_of-height.result
    digests.items) c.as_slice-2.ensures.value c.in_ok-digests.ensures) in
    let last : c.len.result - 1 ≡ length digests.items - 1 = ap (λ n.
    n - 1) (c.len.ensures ∙ digests.ok.0) in
    let some : length digests.items - 1 < length digests.items =
    omega (arith, tree.len, pow_pos c.log2_strict_usize-log_height.result) in
    let at_last : c.index-root.result.now
    ≡ slice_index_or digests.items (length digests.items - 1) c.index-root.result.now =
    c.index-root.ensures ∙ ap (λ i. slice_index_or digests.items i c.index-root.result.now) last in
    let root : slice_index_or digests.items (length digests.items - 1) c.index-root.result.now
    ≡ root_of leaves c.log2_strict_usize-log_height.result =
    get_or_default digests.items (length digests.items - 1) c.index-root.result.now [] some
    ∙ last_is leaves c.log2_strict_usize-log_height.result digests.items tree in
    sym (at_last ∙ root)

pub returns-clause-root : goal.returns-clause-root
returns-clause-root g c m is =
    let power = c.log2_strict_usize-log_height.ensures.power in
    let height = c.greatest_height_of-height.ensures ∙ ap (λ ms.
    max_height (dimensions_of ms)) c.as_slice.ensures.value in
    sym (returns-clause-commitment g c)
    ∙ ap (root_of (leaf_at g.T.ElementBytes.bytes c.args.matrices.items))
    (exponents_agree c.log2_strict_usize-log_height.result m (power ∙ height ∙ is))
