use Rattle.std.proofs.Common.{◌≡◌, ◌/◌, ◌^◌, ◌<◌, ◌∙◌, ◌∷◌, [], ℕ, List, length, get_or, map, sym}
use Rattle.std.proofs.Common.{ap, subst}
use Rattle.std.specs.Prelude.{All}
use Rattle.std.specs.List.{AllZip}
use Rattle.algebra.specs.Nested.{lists, nested}
use Rattle.p3_fri_prover.specs.Openings.{IsOpenable, OpensRows, OpensBatch, index_into}
use Rattle.std.proofs.lemmas.Result.{IfOk-from_err}
use Rattle.p3_fri_prover.proofs.prover.prove.open_played.Goals as goal

pub open_at_indices-requires-clause-positions : goal.open_at_indices-requires-clause-positions
open_at_indices-requires-clause-positions g c =
    subst (λ is. All (λ q. q < 2 ^ c.args.queried.now.log_global_max_height)
    (map (λ i. i / 2 ^ c.args.queried.now.extra_bits) is)) (sym c.deref.ensures.value)
    c.requires.positions

pub open_at_indices-requires-clause-data_for_each :
    goal.open_at_indices-requires-clause-data_for_each
open_at_indices-requires-clause-data_for_each g c =
    ap length c.deref-2.ensures.value ∙ c.requires.data_for_each

pub open_at_indices-requires-clause-openable : goal.open_at_indices-requires-clause-openable
open_at_indices-requires-clause-openable g c =
    let arities = c.args.log_arities.now in
    let P : List ℕ → List g.row.M-ProverData.Denot → Type 0 = λ is kept.
    (k : ℕ) (datum : g.row.M-ProverData.Denot) → k < length arities
    → IsOpenable arities (map (λ i. i / 2 ^ c.args.queried.now.extra_bits) is) k
    (g.M.Mmcs.committed (get_or kept k datum)) in
    subst (P c.deref.result.now) (sym c.deref-2.ensures.value)
    (subst (λ is. P is c.args.played.rounds.prover_data.items) (sym c.deref.ensures.value)
    c.requires.openable)

pub returns-clause-inputs_opened : goal.returns-clause-inputs_opened
returns-clause-inputs_opened g c =
    subst (λ is. AllZip (λ datum o. OpensBatch (g.InputMmcs.Mmcs.opens c.args.input_mmcs.now)
    c.args.queried.now.log_global_max_height (map (λ i. i / 2 ^ c.args.queried.now.extra_bits) is)
    (g.InputMmcs.Mmcs.committed datum.prover_data.now)
    (g.InputMmcs.Mmcs.commitment_of datum.prover_data.now)
    (record { rows = nested o.opened_values.items; path = o.opening_proof }))
    c.args.queried.now.data_with_points.now c.in_ok-input_openings.input_openings.items)
    c.deref.ensures.value c.in_ok-input_openings.ensures.inputs_opened

pub returns-clause-rounds_opened : goal.returns-clause-rounds_opened
returns-clause-rounds_opened g c = λ k o datum matrix l only.
    let arities = c.args.log_arities.now in
    let opened = c.in_ok-input_openings in
    let openings = opened.commit_phase_openings.items in
    let P : List ℕ → List g.row.M-ProverData.Denot → Type 0 = λ is xs.
    OpensRows (g.M.Mmcs.opens c.args.params.now.mmcs) (get_or arities k 0) matrix
    (map (λ q. index_into arities q k) (map (λ i. i / 2 ^ c.args.queried.now.extra_bits) is))
    (g.M.Mmcs.commitment_of (get_or xs k datum))
    (lists (get_or openings k o).sibling_values.items) (get_or openings k o).opening_proof in
    subst (P c.args.played.indices.items) c.deref-2.ensures.value
    (subst (λ is. P is c.deref-2.result.now) c.deref.ensures.value
    (opened.ensures.rounds_opened k o datum matrix l
    (subst (λ xs. g.M.Mmcs.committed (get_or xs k datum) ≡ matrix ∷ [])
    (sym c.deref-2.ensures.value) only)))

-- where nothing is answered nothing is said of the answer
pub returns-in_err-input_openings-clause-batch_witness : goal.returns-in_err-input_openings-clause-batch_witness
returns-in_err-input_openings-clause-batch_witness g c =
    IfOk-from_err c.from_residual.result _ c.from_residual.ensures.0

pub returns-in_err-input_openings-clause-commitments : goal.returns-in_err-input_openings-clause-commitments
returns-in_err-input_openings-clause-commitments g c =
    IfOk-from_err c.from_residual.result _ c.from_residual.ensures.0

pub returns-in_err-input_openings-clause-final_poly : goal.returns-in_err-input_openings-clause-final_poly
returns-in_err-input_openings-clause-final_poly g c =
    IfOk-from_err c.from_residual.result _ c.from_residual.ensures.0

pub returns-in_err-input_openings-clause-query_witness : goal.returns-in_err-input_openings-clause-query_witness
returns-in_err-input_openings-clause-query_witness g c =
    IfOk-from_err c.from_residual.result _ c.from_residual.ensures.0

pub returns-in_err-input_openings-clause-rounds_counted : goal.returns-in_err-input_openings-clause-rounds_counted
returns-in_err-input_openings-clause-rounds_counted g c =
    IfOk-from_err c.from_residual.result _ c.from_residual.ensures.0

pub returns-in_err-input_openings-clause-witnesses : goal.returns-in_err-input_openings-clause-witnesses
returns-in_err-input_openings-clause-witnesses g c =
    IfOk-from_err c.from_residual.result _ c.from_residual.ensures.0
