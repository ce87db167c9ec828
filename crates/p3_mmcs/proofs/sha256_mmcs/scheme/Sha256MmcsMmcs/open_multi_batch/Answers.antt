use Rattle.std.proofs.Common.{◌≡◌, ◌^◌, ◌<◌, sym, ap, ◌∙◌, subst, All, map}
use Rattle.p3_field_core.proofs.IndexPowers.{exponents_agree}
use Rattle.algebra.specs.Nested.{lists, nested}
use Rattle.p3_mmcs.specs.Batch.{HavePowerHeights, dimensions_of, opened_rows}
use Rattle.p3_mmcs.specs.Digests.{IsTree}
use Rattle.p3_mmcs.specs.Tree.{Opens, leaf_at, root_of, path_of}
use Rattle.p3_mmcs.proofs.OpenedTree.{opens_all}
use Rattle.p3_mmcs.proofs.sha256_mmcs.scheme.Sha256MmcsMmcs.open_multi_batch.Goals as goal

pub rows_at_each-requires-clause-heights : goal.rows_at_each-requires-clause-heights
rows_at_each-requires-clause-heights g c = subst (λ ms.
    HavePowerHeights (dimensions_of ms)) (sym c.as_slice.ensures.value)
    c.args.prover_data.now.heights

pub rows_at_each-requires-clause-below : goal.rows_at_each-requires-clause-below
rows_at_each-requires-clause-below g c = subst (λ n.
    All (λ i. i < n) c.args.indices.now) (sym c.get_max_height-height.ensures) c.requires.below

pub paths_at_each-requires-clause-below : goal.paths_at_each-requires-clause-below
paths_at_each-requires-clause-below g c = subst (λ n.
    All (λ i. i < n) c.args.indices.now) c.args.prover_data.now.greatest c.requires.below

pub returns-clause-opens : goal.returns-clause-opens
returns-clause-opens g c =
    let d = c.args.prover_data.now in
    let bytes = g.T.ElementBytes.bytes in
    let leaves = leaf_at bytes d.matrices.items in
    let sets : nested c.in_ok-rows.rows.items
    ≡ map (opened_rows d.matrices.items) c.args.indices.now =
    c.in_ok-rows.ensures ∙ ap (λ ms.
    map (opened_rows ms) c.args.indices.now) c.as_slice.ensures.value in
    let paths : lists c.in_ok-paths.paths.items
    ≡ map (path_of leaves d.log_height) c.args.indices.now =
    c.in_ok-paths.ensures leaves
    (subst (IsTree leaves (2 ^ d.log_height)) (sym c.as_slice-2.ensures.value) d.tree) in
    subst (λ ss. Opens bytes (root_of leaves d.log_height)
    (dimensions_of d.matrices.items) c.args.indices.now ss (lists c.in_ok-paths.paths.items))
    (sym sets)
    (subst (λ ps. Opens bytes (root_of leaves d.log_height)
    (dimensions_of d.matrices.items) c.args.indices.now
    (map (opened_rows d.matrices.items) c.args.indices.now) ps) (sym paths)
    (opens_all bytes d.matrices.items d.heights d.log_height d.greatest c.args.indices.now
    (subst (λ n. All (λ i. i < n) c.args.indices.now) d.greatest c.requires.below)))

pub returns-clause-paths : goal.returns-clause-paths
returns-clause-paths g c m is =
    let d = c.args.prover_data.now in
    let leaves = leaf_at g.T.ElementBytes.bytes d.matrices.items in
    let paths : lists c.in_ok-paths.paths.items
    ≡ map (path_of leaves d.log_height) c.args.indices.now =
    c.in_ok-paths.ensures leaves
    (subst (IsTree leaves (2 ^ d.log_height)) (sym c.as_slice-2.ensures.value) d.tree) in
    paths ∙ ap (λ n. map (path_of leaves n) c.args.indices.now)
    (exponents_agree d.log_height m (sym d.greatest ∙ is))
