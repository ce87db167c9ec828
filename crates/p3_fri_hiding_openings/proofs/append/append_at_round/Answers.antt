use Rattle.std.proofs.Common.{◌≡◌, map, subst}
use Rattle.std.specs.Prelude.{IfErr}
use Rattle.std.specs.List.{zip}
use Rattle.algebra.specs.Nested.{nested}
use Rattle.p3_fri_relation.specs.Faults.{At}
use Rattle.p3_fri_relation.specs.Views.{matrix_claim}
use Rattle.p3_fri_hiding_openings.specs.RandomFaults.{MatrixFaults}
use Rattle.p3_fri_hiding_openings.proofs.append.append_at_round.Goals as goal

pub returns-clause-stands : goal.returns-clause-stands
returns-clause-stands g c =
    subst (λ matrices. IfErr c.append_at_matrices.result
    (MatrixFaults c.args.num_queries g.EF.ExtensionField.DIMENSION
    (λ r m Holds. (r ≡ c.args.round) × At m (λ (claim, points). Holds c.args.expected claim points)
    (zip (map (matrix_claim (λ d. d.log_size)) matrices) (nested c.args.random.now)))))
    c.as_mut_slice.ensures.value c.append_at_matrices.ensures.stands
