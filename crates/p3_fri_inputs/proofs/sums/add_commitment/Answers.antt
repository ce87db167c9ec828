use Rattle.std.proofs.Common.{◌≡◌, ℕ, drop, ◌++◌, ◌+◌, ◌-◌, ◌<◌, [], length, get_or, subst, sym, ap}
use Rattle.std.proofs.Common.{◌∙◌, arith}
use Rattle.std.proofs.lemmas.List.{length-map, get_or_default}
use Rattle.algebra.specs.Polynomial.{val}
use Rattle.algebra.specs.Nested.{lists}
use Rattle.algebra.proofs.Nested.{length-lists, lists_at}
use Rattle.algebra.proofs.Lists.{entry_of_map}
use Rattle.p3_pcs.specs.Claims.{point_claim}
use Rattle.p3_fri_relation.specs.Views.{matrix_claim}
use Rattle.p3_fri_inputs.specs.Claims.{claim_of}
use Rattle.p3_fri_inputs.proofs.Commitments.{AreSummedFrom, IsAmong, terms_of, among, summed_next, none_summed}
use Rattle.p3_fri_inputs.proofs.Commitments.{ends_before}
use Rattle.p3_fri_inputs.proofs.sums.add_commitment.Given.{Over}
use Rattle.p3_fri_inputs.proofs.sums.add_commitment.Goals.{After-index, After-as_slice}
use Rattle.p3_fri_inputs.proofs.sums.add_commitment.Goals as goal

-- what is known of the turn's matrix
its : (g : Over) (c : After-index g) → IsAmong g.EF.Field.ops g.EF.ExtensionField.lift
    c.args.log_blowup (length c.args.sums.now) c.args.ladder.now.powers.len c.args.ladder.now.alpha
    (claim_of (λ domain. domain.log_size) c.args.claim.now).matrices (lists c.args.rows.now)
    (c.loop-k.k - 1) (matrix_claim (λ domain. domain.log_size) c.index.result.now)
its g c =
    let items = c.args.claim.now.matrices.items in
    let i = c.loop-k.k - 1 in
    let inside : i < length items = omega (arith, c.args.claim.now.matrices.ok.0) in
    among g.EF.Field.ops g.EF.ExtensionField.lift c.args.log_blowup (length c.args.sums.now)
    c.args.ladder.now.powers.len c.args.ladder.now.alpha
    (claim_of (λ domain. domain.log_size) c.args.claim.now).matrices (lists c.args.rows.now)
    c.requires.readable c.requires.rows i
    (matrix_claim (λ domain. domain.log_size) c.index.result.now)
    (omega (arith, inside, length-map items (matrix_claim (λ domain. domain.log_size))))
    (entry_of_map (matrix_claim (λ domain. domain.log_size)) items i c.index.result.now inside
    c.index.ensures)

row_is : (g : Over) (c : After-as_slice g) → c.loop-k.k - 1 < length c.args.rows.now
    → c.as_slice.result.now ≡ get_or (lists c.args.rows.now) (c.loop-k.k - 1) []
row_is g c there =
    c.as_slice.ensures.value ∙ ap (λ v. v.items) c.index-rows-k.is
    ∙ sym (lists_at c.args.rows.now (c.loop-k.k - 1) c.index-rows-k.result there)

pub offset_bounds-rows-k : goal.offset_bounds-rows-k
offset_bounds-rows-k g c =
    let known = its g (goal.at.offset_bounds-rows-k g c).After-index in
    omega (arith, known.row_there, length-lists c.args.rows.now)

pub bounds-rows-k : goal.bounds-rows-k
bounds-rows-k g c =
    let known = its g (goal.at.bounds-rows-k g c).After-index in
    omega (arith, known.row_there, length-lists c.args.rows.now)

pub add_block-end-requires-clause-height : goal.add_block-end-requires-clause-height
add_block-end-requires-clause-height g c =
    let known = its g (goal.at.add_block-end-requires-clause-height g c).After-index in
    omega (arith, known.height, c.loop-k.invariant.count)

pub add_block-end-requires-clause-width : goal.add_block-end-requires-clause-width
add_block-end-requires-clause-width g c =
    let at = goal.at.add_block-end-requires-clause-width g c in
    let known = its g at.After-index in
    let row = row_is g at.After-as_slice
    (omega (arith, known.row_there, length-lists c.args.rows.now)) in
    omega (arith, ap length row, known.row_width, known.within)

pub add_block-end-requires-clause-points : goal.add_block-end-requires-clause-points
add_block-end-requires-clause-points g c =
    let known = its g (goal.at.add_block-end-requires-clause-points g c).After-index in
    let next : c.loop-k.k ≡ c.loop-k.k - 1 + 1 = omega arith in
    let points = c.index.result.now.points in
    omega (
      arith,
      ends_before g.EF.Field.ops g.EF.ExtensionField.lift c.args.log_blowup c.loop-k.invariant known next,
      length-map points.items point_claim,
      points.ok.0,
    )

pub add_block-end-requires-clause-end : goal.add_block-end-requires-clause-end
add_block-end-requires-clause-end g c =
    let known = its g (goal.at.add_block-end-requires-clause-end g c).After-index in
    let next : c.loop-k.k ≡ c.loop-k.k - 1 + 1 = omega arith in
    omega (
      arith,
      ends_before g.EF.Field.ops g.EF.ExtensionField.lift c.args.log_blowup c.loop-k.invariant known next,
      known.inside,
      ap length c.requires.claimed,
    )

pub loop-k-preserved : goal.loop-k-preserved
loop-k-preserved g c =
    let K = g.EF.Field.ops in
    let lift = g.EF.ExtensionField.lift in
    let at = goal.at.loop-k-preserved g c in
    let known = its g at.After-index in
    let matrix = c.index.result.now in
    let h = matrix.domain.log_size + c.args.log_blowup in
    let made = c.add_block-end.ensures.sum in
    subst (λ sums. AreSummedFrom K lift c.args.log_blowup c.args.ladder.now.alpha
    (claim_of (λ domain. domain.log_size) c.args.claim.now).matrices (lists c.args.rows.now)
    c.args.points.now.inverses.now c.args.sums.now (c.loop-k.k - 1) c.add_block-end.result sums)
    (sym made.1)
    (summed_next K lift c.args.log_blowup made.0 c.requires.claimed c.loop-k.invariant known
    (omega arith)
    (row_is g at.After-as_slice (omega (arith, known.row_there, length-lists c.args.rows.now)))
    (omega (
      arith,
      c.add_block-end.ensures.start,
      length-map matrix.points.items point_claim,
      matrix.points.ok.0,
    ))
    (get_or_default c.loop-k.sums h made.0 (get_or c.loop-k.sums h made.0)
    (omega (arith, known.height, c.loop-k.invariant.count)))
    made.2)

pub returns : goal.returns
returns g c read later inverses before h d l =
    let ms = (claim_of (λ domain. domain.log_size) c.args.claim.now).matrices in
    let last : c.loop-k.k ≡ 0 = omega arith in
    c.loop-k.invariant.summed read later inverses before h d l
    ∙ ap (λ (n : ℕ). val g.EF.Field.ops
    (terms_of g.EF.Field.ops g.EF.ExtensionField.lift c.args.log_blowup h (read h) (drop n ms)
    (drop n (lists c.args.rows.now)) ++ later h) c.args.ladder.now.alpha) last

pub loop-k-init : goal.loop-k-init
loop-k-init g c =
    let ms = (claim_of (λ domain. domain.log_size) c.args.claim.now).matrices in
    let items = c.args.claim.now.matrices in
    none_summed g.EF.Field.ops g.EF.ExtensionField.lift c.args.log_blowup c.args.ladder.now.alpha ms
    (lists c.args.rows.now) c.args.points.now.inverses.now c.args.sums.now c.len-k.result
    (length c.args.points.now.claimed.now)
    (omega (
      arith,
      c.len-k.ensures,
      items.ok.0,
      length-map items.items (matrix_claim (λ domain. domain.log_size)),
    ))
    (ap length c.requires.claimed)
