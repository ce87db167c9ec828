use Rattle.std.proofs.Common.{◌+◌, ◌<◌, refl, sym, subst}
use Rattle.algebra.specs.Nested.{lists}
use Rattle.p3_matrix.specs.Matrix.{matrix_width}
use Rattle.p3_fri_masks.proofs.ManyMasks.{size_by_first, made_as_drawn, past_as_drawn, some_mapped}
use Rattle.std.proofs.lemmas.Result.{IfOk-from_err}
use Rattle.p3_fri_masks.proofs.ldes.draw_masks.Goals as goal

pub returns-clause-masks : goal.returns-clause-masks
returns-clause-masks g c =
    let F = g.F.Field.ops in
    let f = g.F.SampleField.from_word in
    let s = g.R.Rng.stream c.args.rng.now in
    let chunks = c.args.chunks.now in
    let r = c.args.count in
    let made = c.in_ok-wider in
    let size = size_by_first F g.met.F.Field.laws.ring (λ d. d.shift) (λ d. d.log_size)
    g.F.TwoAdicField.TWO_ADICITY 0 chunks c.requires f r s made.wider.items made.ensures.rows
    made.ensures.widths c.index.result.now c.index-2.result.now c.height.result c.width.result
    c.in-Some.size c.index.ensures c.index-2.ensures c.height.ensures c.width.ensures.columns
    c.in-Some.ensures.1 in
    made_as_drawn F (λ d. d.shift) (λ d. d.log_size) f r chunks s chunks c.in-Some.size _
    (lists c.in_ok-masks.masks.items) refl size made.ensures.past c.in_ok-masks.ensures.masks

pub returns-clause-past : goal.returns-clause-past
returns-clause-past g c =
    let F = g.F.Field.ops in
    let f = g.F.SampleField.from_word in
    let s = g.R.Rng.stream c.args.rng.now in
    let chunks = c.args.chunks.now in
    let r = c.args.count in
    let made = c.in_ok-wider in
    let size = size_by_first F g.met.F.Field.laws.ring (λ d. d.shift) (λ d. d.log_size)
    g.F.TwoAdicField.TWO_ADICITY 0 chunks c.requires f r s made.wider.items made.ensures.rows
    made.ensures.widths c.index.result.now c.index-2.result.now c.height.result c.width.result
    c.in-Some.size c.index.ensures c.index-2.ensures c.height.ensures c.width.ensures.columns
    c.in-Some.ensures.1 in
    past_as_drawn F (λ d. d.shift) (λ d. d.log_size) f r chunks s chunks c.in-Some.size _ _ refl
    size made.ensures.past c.in_ok-masks.ensures.past

-- where nothing is answered nothing is said of the answer
pub returns-in_err-masks-clause-masks : goal.returns-in_err-masks-clause-masks
returns-in_err-masks-clause-masks g c =
    IfOk-from_err c.from_residual-in_err-masks.result _ c.from_residual-in_err-masks.ensures.0

pub returns-in_err-masks-clause-past : goal.returns-in_err-masks-clause-past
returns-in_err-masks-clause-past g c =
    IfOk-from_err c.from_residual-in_err-masks.result _ c.from_residual-in_err-masks.ensures.0

pub returns-in_err-masks-clause-rows : goal.returns-in_err-masks-clause-rows
returns-in_err-masks-clause-rows g c =
    IfOk-from_err c.from_residual-in_err-masks.result _ c.from_residual-in_err-masks.ensures.0

pub returns-in_err-masks-clause-widths : goal.returns-in_err-masks-clause-widths
returns-in_err-masks-clause-widths g c =
    IfOk-from_err c.from_residual-in_err-masks.result _ c.from_residual-in_err-masks.ensures.0

pub index-requires-2 : goal.index-requires-2
index-requires-2 g c =
    let wider = c.in_ok-wider.wider in
    subst (λ n. 0 < n) (sym wider.ok.0)
    (some_mapped matrix_width (λ e. matrix_width e.1 + c.args.count) wider.items c.args.chunks.now
    c.in_ok-wider.ensures.widths c.requires.some)

pub quotient_masks-requires-clause-disjoint : goal.quotient_masks-requires-clause-disjoint
quotient_masks-requires-clause-disjoint g c = c.requires.disjoint
