use Rattle.std.proofs.Common.{◌≢◌, ◌∙◌}
use Rattle.algebra.specs.Field.{sub}
use Rattle.p3_uni_stark_quotient.proofs.Selecting.{all_mapped}
use Rattle.p3_uni_stark_quotient.proofs.selectors.inverted_differences.Goals as goal

pub batch_multiplicative_inverse-requires : goal.batch_multiplicative_inverse-requires
batch_multiplicative_inverse-requires g c =
    let F = g.F.Field.ops in
    record {
      nonzero = all_mapped (λ x. x ≢ F.zero) (λ x. sub F x c.args.subtrahend) c.args.values.now
          c.as_slice-entries.result.now (c.as_slice-entries.ensures.value ∙ c.in_ok-found.ensures)
          c.requires.others;
    }
