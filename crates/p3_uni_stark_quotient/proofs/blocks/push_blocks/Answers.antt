use Rattle.std.proofs.Common.{◌≡◌, ℕ, suc, ◌+◌, ◌*◌, ◌<◌, ◌≤◌, ◌++◌, length, sym, ap, ap₂, subst, ◌∙◌, arith}
use Rattle.std.proofs.Math.Nat.{mul-le-mul_right, le_antisymm}
use Rattle.algebra.specs.Polynomial.{tabulate}
use Rattle.algebra.proofs.Lists.{tabulate-equal}
use Rattle.p3_air.specs.Shapes.{entries_of}
use Rattle.p3_uni_stark_identity.specs.Selectors.{AreSelectorsAt}
use Rattle.p3_uni_stark_quotient.specs.Lanes.{lane_entries, selectors_in_lane}
use Rattle.p3_uni_stark_quotient.specs.Prepared.{quotient_at}
use Rattle.p3_uni_stark_quotient.specs.Quotient.{quotient_on_row}
use Rattle.p3_uni_stark_quotient.proofs.ByLanes.{tabulate-append, block_within}
use Rattle.p3_uni_stark_quotient.proofs.blocks.push_blocks.Goals as goal

pub loop-block-preserved : goal.loop-block-preserved
loop-block-preserved g c h n alpha x hyp =
    let F = g.F.Field.ops in
    let K = g.EF.Field.ops in
    let lift = g.EF.ExtensionField.lift in
    let lane : g.row.P.Denot → ℕ → g.row.F.Denot = g.P.PackedField.lane in
    let width = g.P.PackedField.WIDTH in
    let prepared = c.args.prepared.now in
    let air = prepared.air.now in
    let block = c.loop-block.block in
    let first = block * c.WIDTH.result in
    let value : ℕ → g.row.EF.Denot = quotient_at F K prepared h n alpha x lift in
    let packed = c.pack_selectors-selectors.result in
    let seen = entries_of c.window-window.result in
    let same : first ≡ block * width = ap (λ w. block * w) c.WIDTH.ensures in
    let more : suc block * width ≤ c.args.blocks * width =
    mul-le-mul_right width c.loop-block-test.true in
    let inside : (l : ℕ) → l < width → first + l < length prepared.selectors.now =
    λ l within. omega (arith, more, same, within, c.requires.blocks) in
    c.in_ok-push_by_lanes.ensures h n alpha (λ l. x (first + l)) hyp.powers
    (λ l within. let s = selectors_in_lane lane l packed in
    subst (λ t. AreSelectorsAt F h n (x (first + l)) t)
    (sym (c.pack_selectors-selectors.ensures l s within))
    (hyp.selectors (first + l) s (inside l within)))
    (λ l within. hyp.off (first + l) (inside l within)) hyp.generator hyp.first hyp.last
    ∙ ap₂ (λ xs ys. xs ++ ys) (c.loop-block.invariant h n alpha x hyp)
    (tabulate-equal width
    (λ l. quotient_on_row F K lift air h n alpha (lane_entries lane l seen) (x (first + l)))
    (λ l. value (block * width + l))
    (λ l within. ap (λ e. quotient_on_row F K lift air h n alpha e (x (first + l)))
    (ap (lane_entries lane l) c.window-window.ensures ∙ c.in_ok-fill.ensures.entries l within)
    ∙ ap (λ m. value (m + l)) same))
    ∙ sym (tabulate-append (block * width) width value)
    ∙ ap (λ m. tabulate m value)
    (let e : block * width + width ≡ (block + 1) * width = omega arith in e)

pub fill-requires-clause-rows : goal.fill-requires-clause-rows
fill-requires-clause-rows g c =
    let width = g.P.PackedField.WIDTH in
    let block = c.loop-block.block in
    let size = length c.args.prepared.now.selectors.now in
    subst (λ n. block * c.WIDTH.result + width ≤ n) (sym c.requires.ready.columns.height)
    (subst (λ w. block * w + width ≤ size) (sym c.WIDTH.ensures)
    (block_within block c.args.blocks width size c.loop-block-test.true c.requires.blocks))

pub returns : goal.returns
returns g c h n alpha x hyp =
    c.loop-block.invariant h n alpha x hyp
    ∙ ap (λ b. tabulate (b * g.P.PackedField.WIDTH) (quotient_at g.F.Field.ops g.EF.Field.ops
    c.args.prepared.now h n alpha x g.EF.ExtensionField.lift))
    (le_antisymm c.loop-block.auto.block-end c.loop-block-test.false)
