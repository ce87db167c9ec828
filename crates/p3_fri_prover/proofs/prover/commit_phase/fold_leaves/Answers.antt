use Rattle.std.proofs.Common.{◌≡◌, ◌^◌, sym, ap, ◌∙◌, length}
use Rattle.algebra.specs.Nested.{lists}
use Rattle.p3_matrix.specs.Matrix.{rows}
use Rattle.p3_fri_prover.proofs.Folding.{height_of_rows, word_after, written}
use Rattle.p3_fri_prover.proofs.prover.commit_phase.fold_leaves.Goals as goal

pub returns : goal.returns
returns g c = λ h word whole leaves.
    let F = g.EF.Field.ops in
    let a = c.args.log_arity in
    let fold = g.S.FriFoldingStrategy.row_fold c.args.folding.now in
    let height : length (rows c.args.leaves.now) ≡ 2 ^ h =
    ap length leaves ∙ height_of_rows a h word whole in
    let folded = c.in_ok-word.word in
    let now = c.roll_in.new.word in
    written folded.len now folded.items
    (folded.ok.0 ∙ ap length (sym c.deref_mut.ensures.value) ∙ sym c.roll_in.auto.word)
    ∙ word_after F fold (lists c.args.inputs.now) h a c.args.beta word whole (rows c.args.leaves.now)
    folded.items now leaves (c.in_ok-word.ensures h height)
    (rw c.deref_mut.ensures.value at c.roll_in.ensures)
