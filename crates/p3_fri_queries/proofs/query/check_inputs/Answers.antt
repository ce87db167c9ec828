use Rattle.std.proofs.Common.{◌≡◌, ℕ, ◌-◌, ◌<◌, ◌↔◌, List, [], ◌∷◌, length, map, drop, get_or, arith, sym, ◌∙◌, length-drop}
use Rattle.std.proofs.lemmas.List.{take_all}
use Rattle.std.proofs.lemmas.Bool.{false≢true}
use Rattle.std.proofs.lemmas.Bool.Decides.{nat_tests}
use Rattle.p3_fri_relation.specs.FoldedQuery.{QueryInput, AreInputsMet, AreMet, reaches, folded}
use Rattle.p3_fri_relation.specs.Faults.{IsUnmet, IsUnconsumed}
use Rattle.p3_fri_queries.proofs.query.check_inputs.Goals as goal

-- the first input is met, and it is left to those after it
met_after : {E : Type 0} (q : QueryInput E) (log_arities : List ℕ) (inputs rest : List (ℕ × E)) (h : ℕ) (input : ℕ × E)
    → folded q ≡ log_arities → q.log_height ≡ h → (get_or inputs 0 input).0 ≡ h → 0 < length inputs
    → rest ≡ drop 1 inputs
    → AreMet (reaches log_arities h) h (map (λ input. input.0) rest) ↔ AreInputsMet q (map (λ input. input.0) inputs)
met_after q log_arities [] rest h input e f first l is = absurd (omega arith)
met_after q log_arities (u ∷ inputs) rest h input e f first l is =
    let same : rest ≡ inputs = is in (
      λ met. let left = rw same at met in (first ∙ sym f, rw (e, f, first) left),
      λ met. let left = met.1 in rw same (rw (e, f, first) at left),
    )

unmet_after : {E : Type 0} (q : QueryInput E) (log_arities : List ℕ) (inputs rest : List (ℕ × E)) (h : ℕ) (input : ℕ × E)
    (next remaining : ℕ)
    → folded q ≡ log_arities → q.log_height ≡ h → (get_or inputs 0 input).0 ≡ h → 0 < length inputs
    → rest ≡ drop 1 inputs
    → IsUnmet (reaches log_arities h) next remaining h (map (λ input. input.0) rest)
    → IsUnconsumed (reaches (folded q) q.log_height) next remaining (map (λ input. input.0) inputs)
unmet_after q log_arities [] rest h input next remaining e f first l is unmet = absurd (omega arith)
unmet_after q log_arities (u ∷ inputs) rest h input next remaining e f first l is unmet =
    let same : rest ≡ inputs = is in
    let left = rw same at unmet in
    rw (e, f, first) left

pub returns-in-Some-clause-exact : goal.returns-in-Some-clause-exact
returns-in-Some-clause-exact g c =
    let l : 0 < length c.args.inputs.now = grind (arith, nat_tests) in
    let rest = take_all (length c.args.inputs.now - 1) (drop 1 c.args.inputs.now) (rw length-drop (omega arith)) in
    λ q e i f. (
      λ is_ok. absurd (false≢true is_ok),
      λ fit. sym (c.in-Some.ensures.none.1 ((met_after q c.args.log_arities.now c.args.inputs.now _ c.args.log_height
          c.index-inputs-0.result e f c.if-inputs-log_height.false l rest).1 fit.1)),
    )

pub returns-in-Some-clause-fault : goal.returns-in-Some-clause-fault
returns-in-Some-clause-fault g c =
    let l : 0 < length c.args.inputs.now = grind (arith, nat_tests) in
    let rest = take_all (length c.args.inputs.now - 1) (drop 1 c.args.inputs.now) (rw length-drop (omega arith)) in
    λ q e i f _. rw i (unmet_after q c.args.log_arities.now c.args.inputs.now _ c.args.log_height c.index-inputs-0.result
    c.in-Some.next_log_height c.in-Some.remaining e f c.if-inputs-log_height.false l rest c.in-Some.ensures.some)
