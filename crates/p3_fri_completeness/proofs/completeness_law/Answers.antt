use Rattle.p3_fri_relation.specs.Acceptance.{batch_replayed}
use Rattle.p3_fri_completeness.specs.Laws.{setting}
use Rattle.p3_fri_completeness.proofs.Accepted.{honest_opening_accepted, honest_state}
use Rattle.p3_fri_completeness.proofs.completeness_law.Goals as goal

pub returns : goal.returns
returns g c f fold extra_bits moves input_test round_test p claims rounds start proof last laws fit
    passes o =
    let s = setting _ _ _ _ _ _ _ f fold extra_bits moves input_test round_test in
    let before = batch_replayed s p claims proof start in (
      honest_opening_accepted s p claims rounds start proof last laws fit passes o,
      honest_state s p claims rounds before.alpha before.state proof last laws fit o,
    )
