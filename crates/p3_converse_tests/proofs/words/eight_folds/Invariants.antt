use Rattle.std.proofs.Common.{◌≡◌, vec_len}
use Rattle.p3_converse_tests.proofs.words.eight_folds.Given as goal

abbrev pub invariant-loop-i : goal.invariant-loop-i
invariant-loop-i g l = vec_len l.folds ≡ l.i
