use Rattle.std.proofs.Common.{ℕ, List, ◌++◌, All, ◌≤◌, refl, sym, ap, ◌∙◌, subst, arith}
use Rattle.std.proofs.lemmas.Grind.{common_steps}
use Rattle.std.proofs.lemmas.List.{append-nil, nil_from_length, take_rest}
use Rattle.p3_fri_folding.specs.Schedule.{IsStrictlyFalling, LeadsDown, AreFewest}
use Rattle.p3_fri_folding.proofs.Rounds.{falls_from, schedule-nil, schedule-low, schedule-between}
use Rattle.p3_fri_folding.proofs.Rounds.{schedule-there}
use Rattle.p3_fri_folding.proofs.Fewest.{schedule-in_range, schedule-leads_down, schedule-fewest}
use Rattle.p3_fri_folding.proofs.config.fold_schedule.Goals as goal

pub returns-in_default-clause-value : goal.returns-in_default-clause-value
returns-in_default-clause-value c =
    let none = nil_from_length c.args.heights.now c.in_default.ensures.cases in
    rw (c.new-schedule.ensures.items, none, schedule-nil c.args.log_final_height c.args.max_log_arity) refl

pub loop-log_height-init : goal.loop-log_height-init
loop-log_height-init c =
    let parts = c.in-Some.ensures.cases.0 in
    record {
      falls = falls_from c.in-Some.tallest.now c.in-Some.further.now (subst IsStrictlyFalling parts c.requires.falling);
      so_far = rw (c.new-schedule.ensures.items, parts) refl;
    }

pub loop-log_height-preserved : goal.loop-log_height-preserved
loop-log_height-preserved c =
    let at = c.loop-log_height in
    let round = c.compute_log_arity_for_round-log_arity in
    let step = schedule-between at.log_height at.further.now c.copied-next.result c.args.log_final_height c.args.max_log_arity round.result
    c.requires.positive_cap c.loop-log_height-test.true at.invariant.falls (grind (arith, common_steps)) round.ensures.without_next round.ensures.with_next (grind (arith, common_steps)) in
    record { falls = step.falls; so_far = grind (arith, common_steps, step.rounds) }

pub loop-log_height-preserved-then-eq : goal.loop-log_height-preserved-then-eq
loop-log_height-preserved-then-eq c =
    let at = c.loop-log_height in
    let round = c.compute_log_arity_for_round-log_arity in
    let step = schedule-there at.log_height at.further.now c.copied-next.result c.args.log_final_height c.args.max_log_arity round.result
    c.requires.positive_cap c.loop-log_height-test.true at.invariant.falls (grind (arith, common_steps)) round.ensures.without_next round.ensures.with_next (grind (arith, common_steps)) in
    rw (take_rest at.further.now 1) (record { falls = step.falls; so_far = grind (arith, common_steps, step.rounds) })

pub returns-clause-value : goal.returns-clause-value
returns-clause-value c =
    let at = c.loop-log_height in
    sym (append-nil at.schedule.items)
    ∙ ap (λ rest. at.schedule.items ++ rest) (sym (schedule-low at.log_height at.further.now c.args.log_final_height c.args.max_log_arity c.loop-log_height-test.false))
    ∙ at.invariant.so_far

pub returns-clause-in_range : goal.returns-clause-in_range
returns-clause-in_range c =
    let P : List ℕ → Type 0 = λ rounds. All (λ a. (1 ≤ a) × (a ≤ c.args.max_log_arity)) rounds in
    subst P (sym (returns-clause-value c)) (schedule-in_range c.args.heights.now c.args.log_final_height c.args.max_log_arity c.requires.positive_cap)

pub returns-clause-leads_down : goal.returns-clause-leads_down
returns-clause-leads_down c above =
    let P : List ℕ → Type 0 = λ rounds. LeadsDown c.args.heights.now c.args.log_final_height rounds in
    subst P (sym (returns-clause-value c)) (schedule-leads_down c.args.heights.now c.args.log_final_height c.args.max_log_arity c.requires.falling above)

pub returns-clause-fewest : goal.returns-clause-fewest
returns-clause-fewest c =
    let P : List ℕ → Type 0 = λ rounds. AreFewest c.args.heights.now c.args.log_final_height c.args.max_log_arity rounds in
    subst P (sym (returns-clause-value c)) (schedule-fewest c.args.heights.now c.args.log_final_height c.args.max_log_arity c.requires.falling c.requires.positive_cap)
