use Rattle.std.proofs.Common.{◌≡◌, ◌-◌, ◌<◌, ◌∷◌, ◌++◌, [], length, get_or, sym, ap, ◌∙◌, arith}
use Rattle.std.proofs.lemmas.List.{map-append}
use Rattle.algebra.specs.Nested.{lists}
use Rattle.algebra.proofs.Nested.{length-lists, lists_at}
use Rattle.p3_fri_masks.specs.Draws.{random_rows}
use Rattle.p3_fri_masks.proofs.RandomRows.{length-random_rows, length-random_row}
use Rattle.p3_fri_masks.proofs.Sums.{masks_are}
use Rattle.p3_fri_masks.proofs.Weights.{length-mask_factors}
use Rattle.std.proofs.lemmas.Result.{IfOk-from_err}
use Rattle.p3_fri_masks.proofs.masks.quotient_masks.Goals as goal

pub balancing_mask-requires-clause-count : goal.balancing_mask-requires-clause-count
balancing_mask-requires-clause-count g c =
    let n = length c.args.chunks.now - 1 in
    let factors = ap length (c.deref.ensures.value ∙ c.in_ok-factors.ensures) ∙ length-mask_factors g.F.Field.ops n _ _ in
    let masks = ap length c.in_ok-masks.ensures.rows
    ∙ length-random_rows g.F.SampleField.from_word n c.args.size (g.R.Rng.stream c.args.rng.now) in
    factors ∙ sym (ap length c.deref-2.ensures.value
    ∙ sym (length-lists c.in_ok-masks.masks.items) ∙ masks)

pub balancing_mask-requires-clause-sizes : goal.balancing_mask-requires-clause-sizes
balancing_mask-requires-clause-sizes g c k d l =
    let f = g.F.SampleField.from_word in
    let n = length c.args.chunks.now - 1 in
    let s = g.R.Rng.stream c.args.rng.now in
    let items = c.in_ok-masks.masks.items in
    let below : k < length items = omega (arith, l, ap length c.deref-2.ensures.value) in
    let count : length items ≡ n = sym (length-lists items) ∙ ap length c.in_ok-masks.ensures.rows
    ∙ length-random_rows f n c.args.size s in
    ap (λ ms. length (get_or ms k d).items) c.deref-2.ensures.value
    ∙ ap length (sym (lists_at items k d below))
    ∙ ap (λ ms. length (get_or ms k [])) c.in_ok-masks.ensures.rows
    ∙ length-random_row f n c.args.size s k (omega (arith, below, count))

pub returns-clause-masks : goal.returns-clause-masks
returns-clause-masks g c =
    let F = g.F.Field.ops in
    let n = length c.args.chunks.now - 1 in
    let masks = c.in_ok-masks.masks.items in
    masks_are F g.met.F.Field.laws.ring n c.args.size c.deref.result.now _ (lists c.deref-2.result.now)
    (random_rows g.F.SampleField.from_word n c.args.size (g.R.Rng.stream c.args.rng.now)) _
    c.in_ok-last.last.items (c.deref.ensures.value ∙ c.in_ok-factors.ensures)
    (length-mask_factors F n _ _)
    (ap lists c.deref-2.ensures.value ∙ c.in_ok-masks.ensures.rows) c.in_ok-last.ensures
    (ap lists c.in_ok-push.ensures.items
    ∙ map-append (λ vector. vector.items) masks (c.in_ok-last.last ∷ [])
    ∙ ap (λ ms. ms ++ c.in_ok-last.last.items ∷ []) (ap lists (sym c.deref-2.ensures.value)))

-- where nothing is answered nothing is said of the answer
pub returns-in_err-factors-clause-masks : goal.returns-in_err-factors-clause-masks
returns-in_err-factors-clause-masks g c =
    IfOk-from_err c.from_residual-in_err-factors.result _ c.from_residual-in_err-factors.ensures.0

pub returns-in_err-factors-clause-past : goal.returns-in_err-factors-clause-past
returns-in_err-factors-clause-past g c =
    IfOk-from_err c.from_residual-in_err-factors.result _ c.from_residual-in_err-factors.ensures.0

pub returns-in_err-last-clause-masks : goal.returns-in_err-last-clause-masks
returns-in_err-last-clause-masks g c =
    IfOk-from_err c.from_residual-in_err-last.result _ c.from_residual-in_err-last.ensures.0

pub returns-in_err-last-clause-past : goal.returns-in_err-last-clause-past
returns-in_err-last-clause-past g c =
    IfOk-from_err c.from_residual-in_err-last.result _ c.from_residual-in_err-last.ensures.0

pub returns-in_err-push-clause-masks : goal.returns-in_err-push-clause-masks
returns-in_err-push-clause-masks g c =
    IfOk-from_err c.from_residual-in_err-push.result _ c.from_residual-in_err-push.ensures.0

pub returns-in_err-push-clause-past : goal.returns-in_err-push-clause-past
returns-in_err-push-clause-past g c =
    IfOk-from_err c.from_residual-in_err-push.result _ c.from_residual-in_err-push.ensures.0
