use Rattle.std.proofs.Common.{◌≡◌, ap, ◌∙◌, sym, arith}
use Rattle.fri_commands.specs.Texts.{parsed_number}
use Rattle.fri_commands.proofs.Numbers.{parsed_number-decimal, parsed_number-none}
use Rattle.fri_commands.proofs.text.number.Goals as goal

pub returns-in-Some : goal.returns-in-Some
returns-in-Some c =
    sym (ap (parsed_number c.args.most) c.in-Some.ensures.text ∙ parsed_number-decimal c.args.most c.in-Some.value c.if-value-most.true (omega arith))

pub returns-in_default : goal.returns-in_default
returns-in_default c =
    sym (parsed_number-none c.args.most c.args.text.now (λ n below e. let same : c.in-Some.value ≡ n = cc (c.in-Some.ensures.all n (omega arith) e) in omega arith))

pub returns-in_default-2 : goal.returns-in_default-2
returns-in_default-2 c =
    sym (parsed_number-none c.args.most c.args.text.now (λ n below e. cc (c.in_default.ensures.all n (omega arith) e)))
