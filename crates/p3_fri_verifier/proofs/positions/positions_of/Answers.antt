use Rattle.std.proofs.Common.{◌/◌, ◌^◌, arith}
use Rattle.p3_fri_verifier.proofs.Mapped.{replace_next}
use Rattle.p3_fri_verifier.proofs.positions.positions_of.Goals as goal

pub loop-k-preserved : goal.loop-k-preserved
loop-k-preserved c = replace_next (λ index. index / 2 ^ c.args.extra_bits) c.args.indices.items c.loop-k.positions.items c.loop-k.k
    c.index_mut.result.now c.loop-k.invariant
    (omega (arith, c.loop-k-test.true, c.len-k-end.ensures, c.args.indices.ok.0)) c.index_mut.ensures.value
