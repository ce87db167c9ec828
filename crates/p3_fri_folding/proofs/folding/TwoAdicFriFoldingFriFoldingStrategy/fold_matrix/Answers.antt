use Rattle.std.proofs.Common.{◌≡◌, ℕ, ◌+◌, ◌-◌, ◌^◌, ◌≤◌, [], ◌∷◌, ◌++◌, length, vec_len}
use Rattle.std.proofs.Common.{slice_index_or, sym, ap, ap₂, ◌∙◌, arith}
use Rattle.algebra.specs.Polynomial.{tabulate}
use Rattle.algebra.proofs.Lists.{tabulate-next}
use Rattle.p3_field_core.proofs.IndexPowers.{exponents_agree}
use Rattle.p3_matrix.specs.Matrix.{rows}
use Rattle.p3_matrix.proofs.Widths.{row_width}
use Rattle.algebra.specs.Folds.{fold_value}
use Rattle.p3_fri_folding.proofs.folding.TwoAdicFriFoldingFriFoldingStrategy.fold_matrix.Goals as goal

pub fold_row-requires-clause-width : goal.fold_row-requires-clause-width
fold_row-requires-clause-width g c =
    ap length c.row.ensures.row
    ∙ row_width c.args.matrix.now c.loop-i.i (omega (arith, c.loop-i-test.true, c.height-i-end.ensures))
    ∙ c.requires.width ∙ ap (λ n. 2 ^ n) (sym c.in_ok-table.ensures.log_arity)

pub fold_row-requires-clause-within_word : goal.fold_row-requires-clause-within_word
fold_row-requires-clause-within_word g c =
    let size = ap (λ n. 2 ^ n) c.in_ok-table.ensures.log_height ∙ c.log2_strict_usize-log_height.ensures.power ∙ c.height.ensures in
    omega (arith, size, c.loop-i-test.true, c.height-i-end.ensures)

pub loop-i-preserved : goal.loop-i-preserved
loop-i-preserved g c h e =
    let table = c.in_ok-table.table in
    let i = c.loop-i.i in
    let fold : ℕ → ℕ → g.row.EF.Denot → ℕ → g.row.EF.Denot = λ n a x j. fold_value g.EF.Field.ops (λ k. g.EF.ExtensionField.lift (g.F.TwoAdicField.root k)) j n a x (slice_index_or (rows c.args.matrix.now) j []) in
    let heights : table.log_height ≡ h = c.in_ok-table.ensures.log_height ∙ exponents_agree c.log2_strict_usize-log_height.result h (c.log2_strict_usize-log_height.ensures.power ∙ c.height.ensures ∙ e) in
    c.in_ok-push.ensures.items
    ∙ ap₂ (λ xs y. xs ++ y ∷ []) (c.loop-i.invariant h e)
    (c.fold_row.ensures
    ∙ ap (λ row. fold_value g.EF.Field.ops (λ k. g.EF.ExtensionField.lift (g.F.TwoAdicField.root k)) i table.log_height table.log_arity table.challenges.beta row) c.row.ensures.row
    ∙ ap (λ n. fold n table.log_arity table.challenges.beta i) heights
    ∙ ap₂ (λ a x. fold h a x i) c.in_ok-table.ensures.log_arity c.in_ok-table.ensures.beta)
    ∙ sym (tabulate-next i (fold h c.args.log_arity c.args.beta))

pub returns : goal.returns
returns g c h e =
    let size = ap (λ n. 2 ^ n) c.in_ok-table.ensures.log_height ∙ c.log2_strict_usize-log_height.ensures.power ∙ c.height.ensures in
    let whole : c.loop-i.i ≡ 2 ^ h = omega (arith, e, c.height-i-end.ensures, c.loop-i-test.false, c.loop-i.auto.i-end) in
    c.loop-i.invariant h e
    ∙ ap (λ n. tabulate n (λ i. fold_value g.EF.Field.ops (λ k. g.EF.ExtensionField.lift (g.F.TwoAdicField.root k)) i h c.args.log_arity c.args.beta (slice_index_or (rows c.args.matrix.now) i []))) whole
