use Rattle.std.proofs.Common.{ℕ, ◌<◌, length, subst}
use Rattle.std.specs.Prelude.{slice_index}
use Rattle.std.proofs.lemmas.Result.{err_from_is_err_and, IfErr-weaker}
use Rattle.p3_fri_relation.specs.Faults.{At, CountFault}
use Rattle.p3_fri_relation.specs.Views.{parameters_of, proof_of, rounds_opened}
use Rattle.p3_fri_verifier.specs.Counts.{SiblingFault}
use Rattle.p3_fri_verifier.proofs.RoundOpenings.{lengths_from_counts, count_fault}
use Rattle.p3_fri_verifier.proofs.counts.check_counts.Goals as goal

pub returns-in_err-check_lengths-clause-exact : goal.returns-in_err-check_lengths-clause-exact
returns-in_err-check_lengths-clause-exact g c =
    let p = err_from_is_err_and c.from_residual.result c.from_residual.ensures.1 in
    rw p.1 (
      (λ e. cc),
      (λ h.
          let wrong = c.in_err-check_lengths.ensures.exact.1
          (lengths_from_counts (parameters_of c.args.params.now) c.args.log_arities.now (proof_of c.args.proof.now) _ h) in cc),
    )

pub returns-clause-refusal : goal.returns-clause-refusal
returns-clause-refusal g c =
    let a = c.args.log_arities.now in
    let n = c.args.params.now.num_queries in
    IfErr-weaker c.check_siblings.result
    (λ e. (round : ℕ) × (round < length a) × At round (λ r. SiblingFault n (slice_index a round) round r e) (rounds_opened c.as_slice.result.now))
    (CountFault (parameters_of c.args.params.now) a (proof_of c.args.proof.now))
    (λ e w. count_fault (parameters_of c.args.params.now) a (proof_of c.args.proof.now) w.0 w.1 e
    (subst (λ openings. At w.0 (λ r. SiblingFault n (slice_index a w.0) w.0 r e) (rounds_opened openings)) c.as_slice.ensures.value w.2))
    c.check_siblings.ensures.refusal
