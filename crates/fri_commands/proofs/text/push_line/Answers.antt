use Rattle.std.proofs.Common.{arith, take, get_or}
use Rattle.std.proofs.lemmas.Grind.{common_steps}
use Rattle.std.proofs.lemmas.List.{take_more, length-take}
use Rattle.fri_commands.proofs.Lists.{spaced-first, spaced-more}
use Rattle.fri_commands.proofs.text.push_line.Goals as goal
use Rattle.fri_commands.proofs.text.push_line.Goals.{then-i-gt0+in_ok-push_str, else-i-gt0}

pub loop-i-preserved : goal.loop-i-preserved
loop-i-preserved c =
    let e = take_more c.args.numbers.now c.loop-i.i 0 c.loop-i-test.true in
    elim c.if-i-gt0.branch [
      | then-i-gt0+in_ok-push_str w ↦ let m = spaced-more (take c.loop-i.i c.args.numbers.now) (get_or c.args.numbers.now c.loop-i.i 0) (simp length-take (omega arith)) in rw (e, m) (grind (arith, common_steps))
      | else-i-gt0 w ↦ let m = spaced-first (get_or c.args.numbers.now c.loop-i.i 0) in grind (arith, common_steps)
    ]
