use Rattle.std.proofs.Common.{◌≡◌, ◌+◌, ◌-◌, ◌^◌, drop, length, vec_len}
use Rattle.std.specs.Prelude.{replicate}
use Rattle.p3_field.specs.BabyBear.{baby_bear, root}
use Rattle.p3_fri_core.specs.Folds.{folded_rounds}
use Rattle.fri_commands.proofs.fold.fold_rounds.Given as goal

abbrev pub invariant-loop-beta : goal.invariant-loop-beta
invariant-loop-beta l = record {
  height : l.log_height + l.beta-index ≡ l.fn.log_height;
  size : vec_len l.word ≡ 2 ^ l.log_height;
  rest : folded_rounds baby_bear root l.log_height (replicate (length l.betas - l.beta-index) 1) (drop l.beta-index l.betas) l.word.items
      ≡ folded_rounds baby_bear root l.fn.log_height (replicate (length l.betas) 1) l.betas l.fn.word.items;
}
