use Rattle.std.proofs.Common.{◌∙◌, ◌/◌, ◌^◌, map, ap, arith}
use Rattle.std.proofs.lemmas.List.{take_all}
use Rattle.p3_fri_prover.proofs.prover.openings.shifted.Goals as goal

pub returns : goal.returns
returns c =
    let indices = c.args.indices.now in
    c.loop-index.invariant
    ∙ ap (map (λ i. i / 2 ^ c.args.bits)) (take_all c.loop-index.index-index indices (omega arith))
