use Rattle.std.proofs.Common.{arith, ◌≡◌, ◌∙◌, sym, ap, length, Some, Ok, [], ◌∷◌}
use Rattle.std.specs.Prelude.{string_bytes}
use Rattle.p3_fri_core.specs.Schedule.{schedule}
use Rattle.fri_commands.specs.Texts.{parsed_number, parsed_list, line}
use Rattle.fri_commands.specs.Commands.{greatest_height}
use Rattle.fri_commands.specs.Steps.{greatest_element, greatest_log_height, exact_log2}
use Rattle.fri_commands.proofs.Words.{length-schedule_ones}
use Rattle.fri_commands.proofs.CommandLemmas.{exact_log2-some, fold_answer-ok}
use Rattle.fri_commands.proofs.answer.fold_lines.Goals as goal

pub folded_numbers-requires-clause-height : goal.folded_numbers-requires-clause-height
folded_numbers-requires-clause-height c = omega (arith, exact_log2-some greatest_log_height c.len.result c.in-Some-exact_log2.log_height (sym c.in-Some-exact_log2.ensures))

pub folded_numbers-requires-clause-size : goal.folded_numbers-requires-clause-size
folded_numbers-requires-clause-size c = omega (arith, c.deref-2.ensures.len, exact_log2-some greatest_log_height c.len.result c.in-Some-exact_log2.log_height (sym c.in-Some-exact_log2.ensures))

pub folded_numbers-requires-clause-rounds : goal.folded_numbers-requires-clause-rounds
folded_numbers-requires-clause-rounds c =
    let rounds = length-schedule_ones c.in-Some-exact_log2.log_height c.in-Some.final_height in
    omega (arith, c.deref.ensures.len, ap length c.in_ok-schedule.ensures.value, rounds)

pub returns : goal.returns
returns c =
    let final : parsed_number greatest_height c.args.final_height.now ≡ Some c.in-Some.final_height = sym c.in-Some.ensures in
    let betas : parsed_list greatest_element c.args.betas.now ≡ Some c.in-Some-2.betas.items = sym (rw c.in-Some-2.is at c.in_ok-betas.ensures) in
    let word : parsed_list greatest_element c.args.word.now ≡ Some c.in-Some-3.word.items = sym (rw c.in-Some-3.is at c.in_ok-word.ensures) in
    let height : exact_log2 greatest_log_height (length c.in-Some-3.word.items) ≡ Some c.in-Some-exact_log2.log_height = ap (exact_log2 greatest_log_height) (omega (arith, c.len.ensures)) ∙ sym c.in-Some-exact_log2.ensures in
    let one_each : length c.in-Some-2.betas.items ≡ length (schedule (c.in-Some-exact_log2.log_height ∷ []) c.in-Some.final_height 1) = omega (arith, c.if-len.false, ap length c.in_ok-schedule.ensures.value) in
    let schedule_line : string_bytes c.push_line.new.text ≡ line (schedule (c.in-Some-exact_log2.log_height ∷ []) c.in-Some.final_height 1) = c.in_ok-push_line.ensures ∙ rw (c.new-lines.ensures.bytes, c.deref-3.ensures.value, c.in_ok-schedule.ensures.value) in
    fold_answer-ok _ _ _ _ _ _ _ final betas word height one_each
    ∙ ap Ok (sym (c.in_ok-push_line-2.ensures ∙ rw (schedule_line, c.deref-4.ensures.value, c.in_ok-folded.ensures, c.deref.ensures.value, c.deref-2.ensures.value)))
