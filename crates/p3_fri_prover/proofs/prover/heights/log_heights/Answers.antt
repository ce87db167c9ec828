use Rattle.std.proofs.Common.{arith, ◌∙◌}
use Rattle.p3_fri_prover.proofs.Lists.{power_of_item, heights_more}
use Rattle.p3_fri_prover.proofs.prover.heights.log_heights.Goals as goal

pub log2_strict_usize-requires : goal.log2_strict_usize-requires
log2_strict_usize-requires g c = record {
  power_of_two = power_of_item c.args.inputs.now c.loop-input.input-index c.input-item.result
      (omega arith) c.input-item.is c.len.result c.len.ensures c.requires.lengths;
}

pub loop-input-preserved : goal.loop-input-preserved
loop-input-preserved g c =
    rw c.in_ok-push.ensures.items
    (heights_more c.args.inputs.now c.loop-input.input-index c.input-item.result (omega arith)
    c.input-item.is c.loop-input.heights.items c.log2_strict_usize.result c.loop-input.invariant
    (c.log2_strict_usize.ensures.power ∙ c.len.ensures))
