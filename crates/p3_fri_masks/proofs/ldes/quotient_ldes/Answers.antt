use Rattle.std.proofs.Common.{◌+◌, map, get_or, sym, ap, ◌∙◌, subst}
use Rattle.std.proofs.lemmas.Result.{IfOk-weaker}
use Rattle.algebra.specs.Nested.{lists}
use Rattle.p3_matrix.specs.Matrix.{rows, matrix_width}
use Rattle.p3_fri_masks.specs.QuotientDraws.{chunks_with_random_columns}
use Rattle.p3_fri_masks.specs.MaskedChunks.{FitMasks, HoldMaskedChunks}
use Rattle.p3_fri_masks.specs.QuotientLdes.{AreMaskedChunks, masks_drawn, past_masks}
use Rattle.p3_fri_masks.proofs.ManyMasks.{can_for_fewer, fit_masks, held_as_drawn, if_ok}
use Rattle.p3_fri_masks.proofs.ldes.quotient_ldes.Goals as goal

pub draw_masks-requires : goal.draw_masks-requires
draw_masks-requires g c =
    can_for_fewer g.F.Field.ops (λ d. d.shift) (λ d. d.log_size) g.F.TwoAdicField.TWO_ADICITY
    c.args.log_blowup c.args.chunks.items c.deref.result.now c.deref.ensures.value c.requires

pub masked_extensions-requires : goal.masked_extensions-requires
masked_extensions-requires g c =
    let F = g.F.Field.ops in
    let top = g.F.TwoAdicField.TWO_ADICITY in
    let f = g.F.SampleField.from_word in
    let b = c.args.log_blowup in
    let r = c.args.num_random_codewords in
    let s = g.R.Rng.stream c.args.rng.now in
    let chunks = c.args.chunks.items in
    let drawn = c.in_ok-wider in
    let wider = drawn.wider.items in
    let masks = lists c.deref-3.result.now in
    subst (λ es. FitMasks top b (get_or (map (λ e. e.0.log_size) es) 0 0)
    (get_or (map matrix_width wider) 0 0) (map (λ e. e.0.log_size) es) wider masks)
    (sym c.deref-2.ensures.value)
    (fit_masks F g.met.F.Field.laws.ring (λ d. d.shift) (λ d. d.log_size) top b chunks c.requires f
    r s wider
    (drawn.ensures.rows
    ∙ ap (λ es. chunks_with_random_columns f r (map (λ e. rows e.1) es) s) c.deref.ensures.value)
    (drawn.ensures.widths ∙ ap (λ es. map (λ e. matrix_width e.1 + r) es) c.deref.ensures.value)
    masks
    (ap lists c.deref-3.ensures.value ∙ drawn.ensures.masks
    ∙ ap (λ es. masks_drawn F (λ d. d.shift) (λ d. d.log_size) f r es s) c.deref.ensures.value))

pub returns-clause-ldes : goal.returns-clause-ldes
returns-clause-ldes g c =
    let F = g.F.Field.ops in
    let root = g.F.TwoAdicField.root in
    let generator = g.F.Field.GENERATOR in
    let f = g.F.SampleField.from_word in
    let b = c.args.log_blowup in
    let r = c.args.num_random_codewords in
    let s = g.R.Rng.stream c.args.rng.now in
    let chunks = c.args.chunks.items in
    let given = c.deref-2.result.now in
    let drawn = c.in_ok-wider in
    let wider = drawn.wider.items in
    let masks = lists c.deref-3.result.now in
    IfOk-weaker c.masked_extensions.result
    (λ ldes. HoldMaskedChunks F root (get_or (map (λ e. e.0.log_size) given) 0 0) generator b
    (map (λ e. e.0.shift) given) (get_or (map matrix_width wider) 0 0) (map rows wider) masks
    ldes.items)
    (λ ldes. AreMaskedChunks F (λ d. d.shift) (λ d. d.log_size) f r chunks s root generator b
    ldes.items)
    (λ ldes h. held_as_drawn F g.met.F.Field.laws.ring (λ d. d.shift) (λ d. d.log_size)
    g.F.TwoAdicField.TWO_ADICITY b chunks c.requires f r s wider
    (drawn.ensures.rows
    ∙ ap (λ es. chunks_with_random_columns f r (map (λ e. rows e.1) es) s) c.deref.ensures.value)
    (drawn.ensures.widths ∙ ap (λ es. map (λ e. matrix_width e.1 + r) es) c.deref.ensures.value)
    root generator given masks ldes.items c.deref-2.ensures.value
    (ap lists c.deref-3.ensures.value ∙ drawn.ensures.masks
    ∙ ap (λ es. masks_drawn F (λ d. d.shift) (λ d. d.log_size) f r es s) c.deref.ensures.value)
    h)
    c.masked_extensions.ensures

pub returns-clause-past : goal.returns-clause-past
returns-clause-past g c =
    if_ok c.masked_extensions.result _
    (λ _. c.in_ok-wider.ensures.past
    ∙ ap (λ es. past_masks (λ d. d.log_size) c.args.num_random_codewords es
    (g.R.Rng.stream c.args.rng.now)) c.deref.ensures.value)
