use Rattle.std.proofs.Common.{◌≤◌, ◌+◌, ap, sym, subst, ◌∙◌}
use Rattle.p3_uni_stark_verifier.specs.Chunks.{hiding_bits}
use Rattle.p3_uni_stark_prover_tests.proofs.Columns.{small_hiding, small_word}
use Rattle.p3_uni_stark_prover_tests.proofs.commits.outcome_of_commitment.Goals as goal

-- by the numbers there is room for the trace
pub commit-requires : goal.commit-requires
commit-requires g c =
    let zk = g.P.UnivariateStarkPcs.ZK in
    let room = g.met.P.TwoAdicStarkPcs.room_law c.made-scheme.result 5 0 (small_hiding zk)
    (subst (λ b. 5 + hiding_bits zk + b ≤ 27) (sym c.made-scheme.ensures.log_blowup)
    (small_word zk)) in record {
      room = subst (g.P.Pcs.rules c.made-scheme.result).CanCommit (sym c.one-evaluations.ensures)
          (room.trace c.trace_domain.result c.trace-matrix.result
          (c.trace_domain.ensures.size ∙ ap (λ z. 5 + hiding_bits z) c.ZK.ensures)
          c.trace-matrix.ensures.height);
    }
