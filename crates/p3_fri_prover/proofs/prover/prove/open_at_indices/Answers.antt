use Rattle.std.proofs.Common.{◌^◌, ◌<◌, ◌∙◌, ℕ, length, get_or, map, sym, subst}
use Rattle.std.specs.Prelude.{All}
use Rattle.std.specs.List.{AllZip}
use Rattle.algebra.specs.Nested.{lists, nested}
use Rattle.p3_fri_prover.specs.Openings.{IsOpenable, OpensRows, OpensBatch, index_into}
use Rattle.std.proofs.lemmas.Result.{IfOk-from_err}
use Rattle.p3_fri_prover.proofs.prover.prove.open_at_indices.Goals as goal

pub open_inputs-requires-clause-positions : goal.open_inputs-requires-clause-positions
open_inputs-requires-clause-positions g c =
    subst (All (λ q. q < 2 ^ c.args.queried.now.log_global_max_height))
    (sym (c.deref.ensures.value ∙ c.in_ok-positions.ensures)) c.requires.positions

pub answer_queries-requires-clause-openable : goal.answer_queries-requires-clause-openable
answer_queries-requires-clause-openable g c =
    let arities = c.args.log_arities.now in
    let kept = c.args.prover_data.now in
    subst (λ qs. (k : ℕ) (datum : g.row.M-ProverData.Denot) → k < length arities
    → IsOpenable arities qs k (g.M.Mmcs.committed (get_or kept k datum)))
    (sym (c.deref-2.ensures.value ∙ c.in_ok-positions.ensures)) c.requires.openable

pub returns-clause-inputs_opened : goal.returns-clause-inputs_opened
returns-clause-inputs_opened g c =
    subst (λ qs. AllZip (λ datum o. OpensBatch (g.InputMmcs.Mmcs.opens c.args.input_mmcs.now)
    c.args.queried.now.log_global_max_height qs (g.InputMmcs.Mmcs.committed datum.prover_data.now)
    (g.InputMmcs.Mmcs.commitment_of datum.prover_data.now)
    (record { rows = nested o.opened_values.items; path = o.opening_proof }))
    c.args.queried.now.data_with_points.now c.in_ok-input_openings.input_openings.items)
    (c.deref.ensures.value ∙ c.in_ok-positions.ensures) c.in_ok-input_openings.ensures

pub returns-clause-rounds_opened : goal.returns-clause-rounds_opened
returns-clause-rounds_opened g c = λ k o datum matrix l only.
    let arities = c.args.log_arities.now in
    let openings = c.in_ok-commit_phase_openings.commit_phase_openings.items in
    let kept = c.args.prover_data.now in
    subst (λ qs. OpensRows (g.M.Mmcs.opens c.args.params.now.mmcs) (get_or arities k 0) matrix
    (map (λ q. index_into arities q k) qs) (g.M.Mmcs.commitment_of (get_or kept k datum))
    (lists (get_or openings k o).sibling_values.items) (get_or openings k o).opening_proof)
    (c.deref-2.ensures.value ∙ c.in_ok-positions.ensures)
    (c.in_ok-commit_phase_openings.ensures.each k o datum matrix l only)

-- where nothing is answered nothing is said of the answer
pub returns-in_err-commit_phase_openings-clause-inputs_opened : goal.returns-in_err-commit_phase_openings-clause-inputs_opened
returns-in_err-commit_phase_openings-clause-inputs_opened g c =
    IfOk-from_err c.from_residual-in_err-commit_phase_openings.result _ c.from_residual-in_err-commit_phase_openings.ensures.0

pub returns-in_err-commit_phase_openings-clause-rounds_counted : goal.returns-in_err-commit_phase_openings-clause-rounds_counted
returns-in_err-commit_phase_openings-clause-rounds_counted g c =
    IfOk-from_err c.from_residual-in_err-commit_phase_openings.result _ c.from_residual-in_err-commit_phase_openings.ensures.0

pub returns-in_err-commit_phase_openings-clause-rounds_opened : goal.returns-in_err-commit_phase_openings-clause-rounds_opened
returns-in_err-commit_phase_openings-clause-rounds_opened g c =
    IfOk-from_err c.from_residual-in_err-commit_phase_openings.result _ c.from_residual-in_err-commit_phase_openings.ensures.0

pub returns-in_err-input_openings-clause-inputs_opened : goal.returns-in_err-input_openings-clause-inputs_opened
returns-in_err-input_openings-clause-inputs_opened g c =
    IfOk-from_err c.from_residual-in_err-input_openings.result _ c.from_residual-in_err-input_openings.ensures.0

pub returns-in_err-input_openings-clause-rounds_counted : goal.returns-in_err-input_openings-clause-rounds_counted
returns-in_err-input_openings-clause-rounds_counted g c =
    IfOk-from_err c.from_residual-in_err-input_openings.result _ c.from_residual-in_err-input_openings.ensures.0
