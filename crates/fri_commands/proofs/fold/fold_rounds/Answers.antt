use Rattle.std.proofs.Common.{arith, ◌∙◌, ◌-◌, ap, length}
use Rattle.p3_field.specs.BabyBear.{baby_bear, root}
use Rattle.fri_commands.proofs.Words.{rounds-more, length-folded_word}
use Rattle.fri_commands.proofs.fold.fold_rounds.Goals as goal

pub loop-beta-preserved : goal.loop-beta-preserved
loop-beta-preserved c = record {
  height = omega arith;
  size = omega (arith, ap length c.fold_once.ensures, length-folded_word baby_bear root (c.loop-beta.log_height - 1) 1 c.beta-item.result c.loop-beta.word.items);
  rest = rounds-more baby_bear root c.args.betas.now c.loop-beta.beta-index c.beta-item.result c.loop-beta.log_height _ _ c.loop-beta-test.true c.beta-item.is c.fold_once.ensures ∙ c.loop-beta.invariant.rest;
}
