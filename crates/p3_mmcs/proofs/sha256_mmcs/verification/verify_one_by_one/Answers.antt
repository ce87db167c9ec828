use Rattle.std.proofs.Common.{arith, sym, ◌∙◌, subst, slice_index_or, [], below_more}
use Rattle.algebra.specs.Nested.{lists, nested}
use Rattle.p3_mmcs.specs.Tree.{OpensAt}
use Rattle.p3_mmcs.specs.Faults.{HasFault}
use Rattle.algebra.proofs.Nested.{length-lists, length-nested}
use Rattle.p3_mmcs.proofs.Queries.{each_from, some_at}
use Rattle.p3_mmcs.proofs.Slices.{lists_read, nested_read}
use Rattle.p3_mmcs.proofs.sha256_mmcs.verification.verify_one_by_one.Goals as goal

pub returns-in-Err : goal.returns-in-Err
returns-in-Err g c =
    let i = c.loop-i.i in
    let index = slice_index_or c.args.indices.now i 0 in
    let fault = HasFault g.T.ElementBytes.bytes c.args.commitment.now c.args.dimensions.now
    c.in-Err.fault in
    let set_is =
    nested_read c.args.opened_values.now i c.index-opened_values-i.result
    c.as_slice-rows.result.now (omega (arith, c.loop-i-test.true, c.requires.sets))
    c.index-opened_values-i.is c.as_slice-rows.ensures.value in
    let path_is =
    lists_read c.args.paths.now i c.index-paths-i.result c.as_slice-path.result.now
    (omega (arith, c.loop-i-test.true, c.requires.paths)) c.index-paths-i.is
    c.as_slice-path.ensures.value in
    some_at fault c.args.indices.now (nested c.args.opened_values.now) (lists c.args.paths.now)
    (length-nested c.args.opened_values.now ∙ c.requires.sets)
    (length-lists c.args.paths.now ∙ c.requires.paths) i c.loop-i-test.true
    (subst (λ s. fault index s (slice_index_or (lists c.args.paths.now) i [])) (sym set_is)
    (subst (fault index (lists c.as_slice-rows.result.now)) (sym path_is) c.in-Err.ensures))

pub loop-i-preserved : goal.loop-i-preserved
loop-i-preserved g c =
    let i = c.loop-i.i in
    let index = slice_index_or c.args.indices.now i 0 in
    let opens = OpensAt g.T.ElementBytes.bytes c.args.commitment.now c.args.dimensions.now in
    let set_is =
    nested_read c.args.opened_values.now i c.index-opened_values-i.result
    c.as_slice-rows.result.now (omega (arith, c.loop-i-test.true, c.requires.sets))
    c.index-opened_values-i.is c.as_slice-rows.ensures.value in
    let path_is =
    lists_read c.args.paths.now i c.index-paths-i.result c.as_slice-path.result.now
    (omega (arith, c.loop-i-test.true, c.requires.paths)) c.index-paths-i.is
    c.as_slice-path.ensures.value in
    below_more (λ k. opens (slice_index_or c.args.indices.now k 0)
    (slice_index_or (nested c.args.opened_values.now) k [])
    (slice_index_or (lists c.args.paths.now) k [])) i
    c.loop-i.invariant
    (subst (λ s. opens index s (slice_index_or (lists c.args.paths.now) i [])) (sym set_is)
    (subst (opens index (lists c.as_slice-rows.result.now)) (sym path_is) c.in_default.ensures))

pub returns : goal.returns
returns g c =
    each_from (OpensAt g.T.ElementBytes.bytes c.args.commitment.now c.args.dimensions.now)
    c.args.indices.now (nested c.args.opened_values.now) (lists c.args.paths.now)
    (length-nested c.args.opened_values.now ∙ c.requires.sets)
    (length-lists c.args.paths.now ∙ c.requires.paths)
    (λ k l. c.loop-i.invariant k (omega (arith, l, c.loop-i-test.false)))
