use Rattle.p3_fri_relation.specs.Acceptance.{batch_replayed}
use Rattle.p3_fri_soundness.specs.Trees.{opened_by}
use Rattle.p3_fri_soundness.specs.Laws.{setting, passed_by}
use Rattle.p3_fri_soundness.proofs.Settings.{polynomial_setting}
use Rattle.p3_fri_soundness.proofs.Sound.{is_sound, opened_from_bound, opened_from_trees}
use Rattle.p3_fri_soundness.proofs.Drawn.{drawn_inside}
use Rattle.p3_fri_soundness.proofs.soundness_law.Goals as goal

pub returns-clause-sound : goal.returns-clause-sound
returns-clause-sound g start f extra_bits moves input_test round_test p claims c proof words tables
    laws fit accepts from =
    let s = setting _ _ _ _ _ _ _ f extra_bits moves (passed_by input_test) (passed_by round_test) in
    let before = batch_replayed s p claims proof c in
    is_sound s
    (polynomial_setting f extra_bits moves (passed_by input_test) (passed_by round_test) laws)
    p claims proof words tables before.state before.alpha accepts.accepts from
    (drawn_inside s p claims proof before.state fit)

pub returns-clause-opened : goal.returns-clause-opened
returns-clause-opened g start f extra_bits moves input_test round_test p claims c proof words tables
    accepts bound =
    let s = setting _ _ _ _ _ _ _ f extra_bits moves (passed_by input_test) (passed_by round_test) in
    let before = batch_replayed s p claims proof c in
    opened_from_bound s p claims proof words tables before.state before.alpha accepts.accepts bound

pub returns-clause-trees : goal.returns-clause-trees
returns-clause-trees g start f extra_bits moves input_tree round_tree input_len round_len p claims c
    proof words tables input_paths round_paths laws fit input_encoded round_encoded accepts are
    tables_fit rounds inputs =
    let s = setting _ _ _ _ _ _ _ f extra_bits moves (opened_by input_tree) (opened_by round_tree) in
    let before = batch_replayed s p claims proof c in
    let from = opened_from_trees f extra_bits moves input_tree round_tree input_len round_len
    input_encoded round_encoded p claims proof words tables before.state before.alpha input_paths
    round_paths accepts.accepts are tables_fit rounds inputs in (
      from,
      is_sound s
          (polynomial_setting f extra_bits moves (opened_by input_tree) (opened_by round_tree) laws)
          p claims proof words tables before.state before.alpha accepts.accepts from
          (drawn_inside s p claims proof before.state fit),
    )
