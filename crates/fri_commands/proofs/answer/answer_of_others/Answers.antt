use Rattle.std.proofs.Common.{arith}
use Rattle.std.proofs.lemmas.Bool.{ltb-true, ltb-false}
use Rattle.std.specs.Prelude.{string_bytes}
use Rattle.fri_commands.proofs.CommandLemmas.{answer-others}
use Rattle.fri_commands.proofs.answer.answer_of_others.Goals as goal
use Rattle.fri_commands.proofs.answer.answer_of_others.Goals.{in_default-via-then-args-lt5, in_default-via-else-args-lt5+else-args-lt6}

pub returns-in_default : goal.returns-in_default
returns-in_default c = answer-others string_bytes c.args.args.now c.requires.others (λ e. elim c.in_default.branch [
  | in_default-via-then-args-lt5 w ↦ let below = ltb-true _ _ w.if-args-lt5-1.true in omega arith
  | in_default-via-else-args-lt5+else-args-lt6 w ↦ let above = ltb-false _ _ w.if-args-lt6-1.false in omega arith
])
