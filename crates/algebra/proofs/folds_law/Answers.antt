use Rattle.algebra.proofs.FoldedWords.{fold_value_lowers_degrees}
use Rattle.algebra.proofs.BinaryFolds.{fold_in_steps, fold_of_binary_folds}
use Rattle.algebra.proofs.folds_law.Goals as goal

pub returns : goal.returns
returns g c F L top w W = record {
  in_steps = fold_in_steps F L top w W;
  binary = fold_of_binary_folds F L top w W;
  degrees = fold_value_lowers_degrees F L top w W;
}
