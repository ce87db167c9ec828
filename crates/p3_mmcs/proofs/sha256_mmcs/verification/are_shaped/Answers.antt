use Rattle.std.proofs.Common.{arith, sym, subst, slice_index_or, [], below_more}
use Rattle.algebra.specs.Nested.{lists, nested}
use Rattle.p3_mmcs.specs.Shape.{IsShaped}
use Rattle.p3_mmcs.proofs.Refusals.{shape_of, shape_refuted}
use Rattle.p3_mmcs.proofs.Slices.{lists_read, nested_read}
use Rattle.p3_mmcs.proofs.sha256_mmcs.verification.are_shaped.Goals as goal

pub loop-i-preserved : goal.loop-i-preserved
loop-i-preserved g c =
    let dims = c.args.dimensions.now in
    let log_height = c.args.log_height in
    let sets = c.args.opened_values.now in
    let paths = c.args.paths.now in
    let i = c.loop-i.i in
    let set_is =
    nested_read sets i c.index-opened_values-i.result c.as_slice-rows.result.now
    c.loop-i-test.true c.index-opened_values-i.is c.as_slice-rows.ensures.value in
    let path_is =
    lists_read paths i c.index-paths-i.result c.as_slice-path.result.now
    (omega (arith, c.loop-i-test.true, c.requires.paths)) c.index-paths-i.is
    c.as_slice-path.ensures.value in
    below_more (λ k. IsShaped dims log_height (slice_index_or (nested sets) k [])
    (slice_index_or (lists paths) k [])) i
    c.loop-i.invariant
    (subst (λ s. IsShaped dims log_height s (slice_index_or (lists paths) i [])) (sym set_is)
    (subst (IsShaped dims log_height (lists c.as_slice-rows.result.now)) (sym path_is)
    (shape_of g.T.ElementBytes.bytes dims log_height (lists c.as_slice-rows.result.now)
    c.as_slice-path.result.now c.check_shape.result c.check_shape.ensures
    c.if-is_err.ensures.value)))

pub returns-then-is_err : goal.returns-then-is_err
returns-then-is_err g c =
    let dims = c.args.dimensions.now in
    let log_height = c.args.log_height in
    let sets = c.args.opened_values.now in
    let paths = c.args.paths.now in
    let i = c.loop-i.i in
    let set_is =
    nested_read sets i c.index-opened_values-i.result c.as_slice-rows.result.now
    c.loop-i-test.true c.index-opened_values-i.is c.as_slice-rows.ensures.value in
    let path_is =
    lists_read paths i c.index-paths-i.result c.as_slice-path.result.now
    (omega (arith, c.loop-i-test.true, c.requires.paths)) c.index-paths-i.is
    c.as_slice-path.ensures.value in (
      λ e. cc,
      λ all. absurd (shape_refuted g.T.ElementBytes.bytes dims log_height
          (lists c.as_slice-rows.result.now) c.as_slice-path.result.now c.check_shape.result
          c.check_shape.ensures c.if-is_err.ensures.value c.requires.greatest
          (subst (λ s. IsShaped dims log_height s c.as_slice-path.result.now) set_is
          (subst (IsShaped dims log_height (slice_index_or (nested sets) i [])) path_is
          (all i c.loop-i-test.true)))),
    )
