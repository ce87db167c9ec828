use Rattle.std.proofs.Common.{◌≡◌, [], length, slice_index_or, ap, ap₂, ◌∙◌, sym, arith}
use Rattle.std.proofs.lemmas.List.{get_or_default}
use Rattle.algebra.specs.Nested.{lists}
use Rattle.p3_field_core.proofs.TermSums.{sum_none, one_more}
use Rattle.p3_uni_stark_identity.proofs.Recombination.{column_there, value_is}
use Rattle.p3_uni_stark_identity.proofs.chunks.recombine_column.Goals as goal

pub loop-i-init : goal.loop-i-init
loop-i-init g c =
    let K = g.EF.Field.ops in
    c.ZERO-sum.ensures ∙ g.met.EF.Field.zero_law
    ∙ sum_none K g.met.EF.Field.laws.ring (λ i. K.mul
    (slice_index_or (slice_index_or (lists c.args.chunks.now) i []) c.args.column K.zero)
    (slice_index_or c.args.factors.now i K.zero))

pub offset_bounds-values-column : goal.offset_bounds-values-column
offset_bounds-values-column g c =
    let h = column_there c.args.chunks.now c.loop-i.i c.index-chunks-i.result c.loop-i-test.true
    c.index-chunks-i.is c.as_slice-values.result.now c.args.column c.as_slice-values.ensures.value
    c.requires.widths in
    omega (arith, h)

pub bounds-values-column : goal.bounds-values-column
bounds-values-column g c =
    let h = column_there c.args.chunks.now c.loop-i.i c.index-chunks-i.result c.loop-i-test.true
    c.index-chunks-i.is c.as_slice-values.result.now c.args.column c.as_slice-values.ensures.value
    c.requires.widths in
    omega (arith, h)

pub loop-i-preserved : goal.loop-i-preserved
loop-i-preserved g c =
    let K = g.EF.Field.ops in
    let field = g.met.EF.Field in
    let chunks = c.args.chunks.now in
    let factors = c.args.factors.now in
    let column = c.args.column in
    let i = c.loop-i.i in
    let v = c.index-chunks-i.result in
    let values = c.as_slice-values.result.now in
    let test = c.loop-i-test.true in
    let there = column_there chunks i v test c.index-chunks-i.is values column
    c.as_slice-values.ensures.value c.requires.widths in
    field.add_law c.loop-i.sum c.mul.result c.add-sum.result c.add-sum.ensures
    ∙ one_more K field.laws.ring i (λ i. K.mul
    (slice_index_or (slice_index_or (lists chunks) i []) column K.zero)
    (slice_index_or factors i K.zero)) c.loop-i.sum c.mul.result c.loop-i.invariant
    (field.mul_law c.index-values-column.result c.index-factors-i.result c.mul.result
    c.mul.ensures
    ∙ ap₂ K.mul
    (c.index-values-column.is
    ∙ get_or_default values column c.index-values-column.result K.zero there
    ∙ value_is chunks i v test c.index-chunks-i.is values column K.zero
    c.as_slice-values.ensures.value)
    (c.index-factors-i.is ∙ get_or_default factors i c.index-factors-i.result K.zero
    (omega (arith, test, c.requires.count))))
