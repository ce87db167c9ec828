use Rattle.std.proofs.Common.{◌+◌, ◌*◌}
use Rattle.std.specs.List.{slice_range}
use Rattle.p3_field.specs.BabyBear.{baby_bear, root}
use Rattle.p3_fri_core.specs.Folds.{fold_value}
use Rattle.fri_commands.proofs.Words.{IsDoneBelow}
use Rattle.fri_commands.proofs.fold.fold_once.Given as goal

abbrev pub invariant-loop-i : goal.invariant-loop-i
invariant-loop-i l = IsDoneBelow (λ k. fold_value baby_bear root k l.log_height 1 l.beta (slice_range l.fn.word.items (k * 2) (k * 2 + 2))) l.fn.word.items l.word.items l.i
