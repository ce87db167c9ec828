use Rattle.std.proofs.Common.{◌≡◌, ◌<◌, [], length, map, get_or, sym, ap, subst, ◌∙◌, arith, rules}
use Rattle.std.proofs.lemmas.List.{get_or-map, length-map}
use Rattle.algebra.specs.Nested.{lists}
use Rattle.algebra.proofs.Nested.{length-lists, lists_at}
use Rattle.p3_matrix.specs.Matrix.{rows, matrix_width}
use Rattle.p3_fri_masks.specs.MaskedChunks.{HoldMaskedChunks}
use Rattle.p3_fri_masks.proofs.Batches.{one_fewer, none_left}
use Rattle.p3_fri_masks.proofs.ChunkWords.{FitsAt, fits_next, some_left, one_more_held}
use Rattle.p3_fri_masks.proofs.ldes.masked_extensions.Given.{Over}
use Rattle.p3_fri_masks.proofs.ldes.masked_extensions.Goals.{After-len-index, After-deref}
use Rattle.std.proofs.lemmas.Result.{IfOk-from_err}
use Rattle.p3_fri_masks.proofs.ldes.masked_extensions.Goals as goal

-- the index is that of the matrix at which the loop is, which has its domain and its mask
at : (g : Over) (c : After-len-index g) → c.len-index.result ≡ length c.loop-chunk.yielded
at g c =
    c.len-index.ensures ∙ c.loop-chunk.ldes.ok.0 ∙ c.loop-chunk.invariant.held.count
    ∙ length-map c.loop-chunk.yielded rows

here : (g : Over) (c : After-len-index g) → c.len-index.result < length c.args.wider.items
here g c = omega (
  arith,
  at g c,
  some_left c.loop-chunk.yielded _ _ c.args.wider.items c.in-Some.chunk _ c.loop-chunk.invariant.left
      (c.in-Some.ensures.steps.0),
)

chunk_here : (g : Over) (c : After-len-index g) → c.len-index.result < length c.args.chunks.now
chunk_here g c =
    omega (arith, here g c, c.requires.count, length-map c.args.chunks.now (λ e. e.0.log_size))

mask_here : (g : Over) (c : After-len-index g) → c.len-index.result < length c.args.masks.now
mask_here g c =
    omega (arith, here g c, c.requires.count, c.requires.count_masks, length-lists c.args.masks.now)

pub bounds-chunks-index : goal.bounds-chunks-index
bounds-chunks-index g c = chunk_here g c

pub offset_bounds-chunks-index : goal.offset_bounds-chunks-index
offset_bounds-chunks-index g c =
    let below = chunk_here g (goal.at.offset_bounds-chunks-index g c).After-len-index in omega arith

pub bounds-masks-index : goal.bounds-masks-index
bounds-masks-index g c = mask_here g (goal.at.bounds-masks-index g c).After-len-index

pub offset_bounds-masks-index : goal.offset_bounds-masks-index
offset_bounds-masks-index g c =
    let below : c.len-index.result < length c.args.masks.now =
    mask_here g (goal.at.offset_bounds-masks-index g c).After-len-index in
    search rules

-- the turn's matrix has its domain and its mask
its : (g : Over) (c : After-deref g) → c.len-index.result ≡ length c.loop-chunk.yielded
    → c.len-index.result < length c.args.chunks.now → c.len-index.result < length c.args.masks.now
    → FitsAt g.F.TwoAdicField.TWO_ADICITY c.args.log_blowup
    (get_or (map (λ e. e.0.log_size) c.args.chunks.now) 0 0)
    (get_or (map matrix_width c.args.wider.items) 0 0)
    (get_or c.args.chunks.now c.len-index.result c.index-chunks-index.result).0.log_size
    c.in-Some.chunk c.deref.result.now
its g c at_end chunk_there mask_there =
    let chunks = c.args.chunks.now in
    let wider = c.args.wider.items in
    let masks = c.args.masks.now in
    let yielded = c.loop-chunk.yielded in
    let i = c.len-index.result in
    let step = c.in-Some.ensures.steps.0 in
    fits_next g.F.TwoAdicField.TWO_ADICITY c.args.log_blowup _ _
    (map (λ e. e.0.log_size) chunks) wider (lists masks) c.requires yielded _ _ c.in-Some.chunk _
    c.loop-chunk.invariant.left step i
    (get_or chunks i c.index-chunks-index.result).0.log_size c.deref.result.now at_end
    (sym (get_or-map (λ e. e.0.log_size) chunks i c.index-chunks-index.result 0 chunk_there))
    (c.deref.ensures.value ∙ ap (λ m. m.items) c.index-masks-index.is
    ∙ sym (lists_at masks i c.index-masks-index.result mask_there))

pub masked_extension-requires-clause-height : goal.masked_extension-requires-clause-height
masked_extension-requires-clause-height g c =
    let a = goal.at.masked_extension-requires-clause-height g c in
    let known = a.After-len-index in
    (its g a.After-deref (at g known) (chunk_here g known) (mask_here g known)).height

pub masked_extension-requires-clause-mask : goal.masked_extension-requires-clause-mask
masked_extension-requires-clause-mask g c =
    let a = goal.at.masked_extension-requires-clause-mask g c in
    let known = a.After-len-index in
    (its g a.After-deref (at g known) (chunk_here g known) (mask_here g known)).size

pub masked_extension-requires-clause-within : goal.masked_extension-requires-clause-within
masked_extension-requires-clause-within g c =
    let a = goal.at.masked_extension-requires-clause-within g c in
    let known = a.After-len-index in
    (its g a.After-deref (at g known) (chunk_here g known) (mask_here g known)).within

pub loop-chunk-preserved : goal.loop-chunk-preserved
loop-chunk-preserved g c =
    let F = g.F.Field.ops in
    let chunks = c.args.chunks.now in
    let wider = c.args.wider.items in
    let masks = c.args.masks.now in
    let yielded = c.loop-chunk.yielded in
    let i = c.len-index.result in
    let step = c.in-Some.ensures.steps.0 in
    let shorter = ap length step in
    let fewer = c.in-Some.ensures.steps.1 in
    let before = c.loop-chunk.invariant.left.count in
    let counted : c.next.new.self.rest.len ≡ length c.next.new.self.rest.items = omega arith in
    let known = (goal.at.loop-chunk-preserved g c).After-len-index in
    let item = get_or chunks i c.index-chunks-index.result in
    let mask_is = c.deref.ensures.value ∙ ap (λ m. m.items) c.index-masks-index.is
    ∙ sym (lists_at masks i c.index-masks-index.result (mask_here g known)) in
    let fits = fits_next g.F.TwoAdicField.TWO_ADICITY c.args.log_blowup _ _
    (map (λ e. e.0.log_size) chunks) wider (lists masks) c.requires yielded _ _ c.in-Some.chunk _
    c.loop-chunk.invariant.left step i item.0.log_size c.deref.result.now (at g known)
    (sym (get_or-map (λ e. e.0.log_size) chunks i c.index-chunks-index.result 0 (chunk_here g known)))
    mask_is in
    record {
      held = one_more_held F g.F.TwoAdicField.root (get_or (map (λ e. e.0.log_size) chunks) 0 0)
          g.F.Field.GENERATOR c.args.log_blowup (map (λ e. e.0.shift) chunks)
          (get_or (map matrix_width wider) 0 0) (lists masks) yielded c.in-Some.chunk
          c.loop-chunk.ldes.items _ c.in_ok-words.words item.0.log_size (matrix_width c.in-Some.chunk)
          item.0.shift c.deref.result.now c.loop-chunk.invariant.held fits.log_size fits.columns
          (sym (get_or-map (λ e. e.0.shift) chunks i c.index-chunks-index.result F.zero (chunk_here g known))
          ∙ ap (λ j. get_or (map (λ e. e.0.shift) chunks) j F.zero) (at g known))
          (mask_is ∙ ap (λ j. get_or (lists masks) j []) (at g known))
          c.in_ok-words.ensures c.in_ok-push.ensures.items;
      left = one_fewer yielded c.loop-chunk.chunk-iterator.rest.items c.next.new.self.rest.items wider
          c.in-Some.chunk _ _ c.loop-chunk.invariant.left step counted;
    }

-- where nothing is answered nothing is said of the answer
pub returns-in_err-push : goal.returns-in_err-push
returns-in_err-push g c =
    IfOk-from_err c.from_residual-in_err-push.result _ c.from_residual-in_err-push.ensures.0

pub returns-in_err-words : goal.returns-in_err-words
returns-in_err-words g c =
    IfOk-from_err c.from_residual-in_err-words.result _ c.from_residual-in_err-words.ensures.0

pub bounds-chunks-index-in-Some : goal.bounds-chunks-index-in-Some
bounds-chunks-index-in-Some g c = chunk_here g c

pub returns : goal.returns
returns g c =
    let F = g.F.Field.ops in
    let chunks = c.args.chunks.now in
    let wider = c.args.wider.items in
    let rest = c.loop-chunk.chunk-iterator.rest in
    subst (λ ms. HoldMaskedChunks F g.F.TwoAdicField.root
    (get_or (map (λ e. e.0.log_size) chunks) 0 0) g.F.Field.GENERATOR c.args.log_blowup
    (map (λ e. e.0.shift) chunks) (get_or (map matrix_width wider) 0 0) (map rows ms)
    (lists c.args.masks.now) c.loop-chunk.ldes.items)
    (none_left c.loop-chunk.yielded rest.items wider rest.len c.loop-chunk.invariant.left
    c.in-None.ensures.steps.0)
    c.loop-chunk.invariant.held
