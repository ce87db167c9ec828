use Rattle.std.proofs.Common.{◌≡◌, drop, map}
use Rattle.fri_commands.specs.Texts.{parsed_each}
use Rattle.fri_commands.proofs.Lists.{with_rest}
use Rattle.fri_commands.proofs.text.each_number.Given as goal

abbrev pub invariant-loop-text : goal.invariant-loop-text
invariant-loop-text l = with_rest l.values.items (parsed_each l.most (drop l.text-index (map (λ x. x.now) l.texts))) ≡ parsed_each l.most (map (λ x. x.now) l.texts)
