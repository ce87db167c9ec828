use Rattle.std.proofs.Common.{◌≡◌, length, ap, ◌∙◌}
use Rattle.p3_air.specs.Nodes.{degrees_in}
use Rattle.p3_air.proofs.Meanings.{length_meanings}
use Rattle.p3_uni_stark_verifier.proofs.inputs.needed_chunks.Goals as goal

pub log_num_chunks-requires-clause-nodes : goal.log_num_chunks-requires-clause-nodes
log_num_chunks-requires-clause-nodes g c =
    let nodes = c.args.air.now.nodes.items in
    let many : length c.as_slice-3.result.now ≡ length nodes =
    ap length (c.as_slice-3.ensures.value ∙ c.in-Ok.ensures) ∙ length_meanings degrees_in nodes in
    rw (c.as_slice-2.ensures.value, many) c.requires.well_formed.constraints
