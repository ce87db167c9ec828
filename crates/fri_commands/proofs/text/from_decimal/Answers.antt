use Rattle.std.proofs.Common.{◌≡◌, ◌∙◌, true}
use Rattle.fri_commands.proofs.Numbers.{IsPlain, decimal-plain, parsed-text, parsed-decimal}
use Rattle.fri_commands.proofs.text.from_decimal.Goals as goal

pub returns-then-is_plain-clause-text : goal.returns-then-is_plain-clause-text
returns-then-is_plain-clause-text c =
    let plain : IsPlain c.args.text.now = rw (← c.as_bytes.ensures.value) (c.is_plain.ensures.0 c.if-is_plain.true) in
    rw c.ok.ensures.value (parsed-text c.args.text.now c.parse.result plain c.parse.ensures.value.0)

pub returns-then-is_plain-clause-all : goal.returns-then-is_plain-clause-all
returns-then-is_plain-clause-all c = λ n small e. c.ok.ensures.value ∙ parsed-decimal c.args.text.now c.parse.result n c.parse.ensures.value.0 small e

pub returns-else-is_plain-clause-all : goal.returns-else-is_plain-clause-all
returns-else-is_plain-clause-all c = λ n small e.
    let plain : IsPlain c.as_bytes.result.now = rw (c.as_bytes.ensures.value ∙ e) (decimal-plain n small) in
    let is : c.is_plain.result ≡ true = c.is_plain.ensures.1 plain in
    cc
