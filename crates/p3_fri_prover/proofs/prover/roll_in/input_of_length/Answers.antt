use Rattle.std.proofs.Common.{arith, sym, ap, ◌∙◌, Some}
use Rattle.p3_fri_prover.proofs.Lists.{found_here, not_here}
use Rattle.p3_fri_prover.proofs.prover.roll_in.input_of_length.Goals as goal

pub returns-then-len-clause-found : goal.returns-then-len-clause-found
returns-then-len-clause-found g c =
    sym c.loop-input.invariant
    ∙ found_here c.args.inputs.now c.loop-input.input-index c.input-item.result (omega arith)
    c.input-item.is c.args.len (sym c.if-len.true ∙ c.len.ensures)
    ∙ ap Some (sym c.as_slice.ensures.value)

pub loop-input-preserved : goal.loop-input-preserved
loop-input-preserved g c =
    not_here c.args.inputs.now c.loop-input.input-index c.input-item.result (omega arith)
    c.input-item.is c.args.len (λ e. c.if-len.false (c.len.ensures ∙ e))
    ∙ c.loop-input.invariant
