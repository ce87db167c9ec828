use Rattle.std.proofs.Common.{[], slice_index_or, arith, ap, sym, ◌∙◌}
use Rattle.std.proofs.lemmas.List.{drop_all}
use Rattle.algebra.specs.Nested.{lists}
use Rattle.p3_mmcs.specs.Tree.{climb}
use Rattle.p3_mmcs.proofs.Eights.{climb_more}
use Rattle.p3_mmcs.proofs.sha256_mmcs.eights.roots_over_eight.Goals as goal

pub parents_of_eight-tops-requires-clause-level : goal.parents_of_eight-tops-requires-clause-level
parents_of_eight-tops-requires-clause-level c k l =
    omega (arith, c.requires.levels k l, c.loop-level-test.true)

pub loop-level-preserved : goal.loop-level-preserved
loop-level-preserved c k l =
    let path = slice_index_or (lists c.args.paths.now) k [] in
    climb_more path c.loop-level.level (slice_index_or c.loop-level.places k 0)
    (slice_index_or c.halves-places.result k 0) (slice_index_or c.loop-level.tops k [])
    (slice_index_or c.parents_of_eight-tops.result k [])
    (climb (slice_index_or c.args.indices.now k 0) (slice_index_or c.args.digests k []) path)
    (omega (arith, c.requires.levels k l, c.loop-level-test.true)) (c.loop-level.invariant k l)
    (c.halves-places.ensures k l) (c.parents_of_eight-tops.ensures k l)

pub returns : goal.returns
returns c k l =
    let path = slice_index_or (lists c.args.paths.now) k [] in
    ap (climb (slice_index_or c.loop-level.places k 0) (slice_index_or c.loop-level.tops k []))
    (sym (drop_all c.loop-level.level path
    (omega (arith, c.requires.levels k l, c.loop-level-test.false))))
    ∙ c.loop-level.invariant k l
