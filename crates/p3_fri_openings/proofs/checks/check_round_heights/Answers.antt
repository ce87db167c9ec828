use Rattle.p3_fri_openings.proofs.First.{first_at, one_more, to_the_end}
use Rattle.std.proofs.Common.{subst, refl, ◌∙◌}
use Rattle.p3_fri_relation.specs.Views.{parameters_of}
use Rattle.p3_fri_openings.specs.Rounds.{log_height}
use Rattle.p3_fri_relation.specs.TallEnough.{IsTallEnough, HeightRefusal}
use Rattle.p3_fri_openings.proofs.Log2.{log2_is}
use Rattle.p3_fri_openings.proofs.checks.check_round_heights.Goals as goal

pub returns-in-Err : goal.returns-in-Err
returns-in-Err g c =
    let is = log2_is _ _ (c.log2_strict_usize.ensures.power ∙ c.height.ensures) in
    record {
      matrix = c.loop-matrix.matrix-index;
      first = first_at (λ m. IsTallEnough (parameters_of c.args.params.now) (log_height m))
          (λ m. HeightRefusal (parameters_of c.args.params.now) (log_height m) c.in-Err.refusal)
          c.args.matrices.now _ c.matrix-item.result c.loop-matrix-test.true c.matrix-item.is
          c.loop-matrix.invariant
          (subst (λ h. HeightRefusal (parameters_of c.args.params.now) h c.in-Err.refusal) is
          c.in-Err.ensures.refused);
    }

pub loop-matrix-preserved : goal.loop-matrix-preserved
loop-matrix-preserved g c =
    let is = log2_is _ _ (c.log2_strict_usize.ensures.power ∙ c.height.ensures) in
    one_more (λ m. IsTallEnough (parameters_of c.args.params.now) (log_height m)) _ _
    c.matrix-item.result c.loop-matrix-test.true c.matrix-item.is c.loop-matrix.invariant
    (subst (λ h. IsTallEnough (parameters_of c.args.params.now) h) is
    (c.in_default.ensures.tall_enough.0 refl))

pub returns : goal.returns
returns g c =
    to_the_end (λ m. IsTallEnough (parameters_of c.args.params.now) (log_height m))
    c.args.matrices.now _ c.loop-matrix-test.false c.loop-matrix.invariant
