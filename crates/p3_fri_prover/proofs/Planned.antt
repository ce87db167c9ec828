-- What a plan gives: the conditions of what is played by it, and of what is opened then.
use Rattle.std.proofs.Common.{◌≡◌, ℕ, ◌+◌, ◌/◌, ◌^◌, ◌<◌, ◌≤◌, List, [], length, get_or, map, sym, ap}
use Rattle.std.proofs.Common.{Option, ◌∙◌, subst, refl}
use Rattle.std.specs.Prelude.{All}
use Rattle.p3_matrix.specs.declared.dense.RowMajorMatrix.{RowMajorMatrix}
use Rattle.p3_challenger_core.specs.Run.{Moves}
use Rattle.p3_fri_transcript.specs.Steps.{FriNumbers}
use Rattle.p3_fri_relation.specs.Setting.{Fields, Parameters}
use Rattle.p3_fri_relation.specs.TallEnough.{IsTallEnough}
use Rattle.p3_fri_prover.specs.Inputs.{HaveHeights, AreInputs}
use Rattle.p3_fri_prover.specs.Openings.{IsOpenable}
use Rattle.p3_fri_prover.specs.Played.{CanPlay, Describes, IsPlayed}
use Rattle.p3_fri_prover.specs.Proved.{log_arities, fri_numbers}
use Rattle.p3_fri_prover.proofs.Inputs.{first_word}
use Rattle.p3_fri_prover.proofs.Schedules.{arities_positive, arities_below_64, arities_playable}
use Rattle.p3_fri_prover.proofs.Schedules.{final_polynomial_within}
use Rattle.p3_fri_prover.proofs.Replayed.{positions_below}
use Rattle.p3_fri_prover.proofs.PlayedRounds.{rounds_openable}

-- indices without so many of their lowest bits
abbrev pub places : (extra : ℕ) (indices : List ℕ) → List ℕ
places extra indices = map (λ i. i / 2 ^ extra) indices

-- the log arities and the numbers of a plan for inputs are those of all log heights that they have,
-- which are tall enough
pub record IsPlan {E : Type 0} (p : Parameters) (top extra : ℕ) (inputs : List (List E))
    (arities : List ℕ) (numbers : FriNumbers) : Type 0 where
  pub are : AreInputs top inputs
  pub capped : 0 < p.max_log_arity
  pub scheduled : (heights : List ℕ) → HaveHeights heights inputs
      → arities ≡ log_arities p heights top
  pub described : (heights : List ℕ) → HaveHeights heights inputs
      → numbers ≡ fri_numbers p heights top extra
  pub tall : (heights : List ℕ) → HaveHeights heights inputs → All (IsTallEnough p) heights

pub first_input_length : {E : Type 0} {top : ℕ} {inputs : List (List E)} → AreInputs top inputs
    → length (get_or inputs 0 []) ≡ 2 ^ top
first_input_length {E} {top} {inputs} are =
    first_word are.heights inputs top are.have are.some are.first

module _ {E : Type 0} {p : Parameters} {top extra : ℕ} {inputs : List (List E)}
    {arities : List ℕ} {numbers : FriNumbers}
    (plan : IsPlan p top extra inputs arities numbers) where
  here : arities ≡ log_arities p plan.are.heights top
  here = plan.scheduled plan.are.heights plan.are.have

  pub is_numbers : numbers ≡ fri_numbers p plan.are.heights top extra
  is_numbers = plan.described plan.are.heights plan.are.have

  pub planned_positive : All (λ a. 0 < a) arities
  planned_positive = subst (λ xs. All (λ a. 0 < a) xs) (sym here)
      (arities_positive p plan.are.heights top plan.are.falling plan.are.first plan.capped)

  pub planned_below_64 : top < 64 → All (λ a. a < 64) arities
  planned_below_64 small = subst (λ xs. All (λ a. a < 64) xs) (sym here)
      (arities_below_64 p plan.are.heights top plan.are.falling plan.are.first small)

  pub planned_playable : (most : ℕ) → top ≤ most
      → CanPlay arities p.log_final_poly_len most (length (get_or inputs 0 []))
  planned_playable most small =
      subst (λ xs. CanPlay xs p.log_final_poly_len most (length (get_or inputs 0 []))) (sym here)
      (arities_playable p plan.are.heights top plan.are.falling plan.are.first plan.are.some
      (plan.tall plan.are.heights plan.are.have) most (length (get_or inputs 0 [])) small
      (first_input_length plan.are))

  pub planned_final_polynomial : (bound : ℕ) → top ≤ bound → p.log_final_poly_len ≤ bound
  planned_final_polynomial bound small =
      final_polynomial_within p plan.are.heights top plan.are.falling plan.are.first plan.are.some
      (plan.tall plan.are.heights plan.are.have) bound small

  pub planned_description : (max_bits : ℕ) → p.commit_pow_bits ≤ max_bits
      → p.query_pow_bits ≤ max_bits → top + extra ≤ max_bits
      → Describes numbers arities p.log_final_poly_len max_bits
  planned_description max_bits commit query index =
      subst (λ (n : FriNumbers). Describes n arities p.log_final_poly_len max_bits) (sym is_numbers)
      (record {
        schedule = here;
        final_poly_len = refl;
        commit_bits = commit;
        query_bits = query;
        index_bits = index;
      })

  -- what was played by it
  module _ {F C Com Data : Type 0} {committed : Data → List (RowMajorMatrix E)}
      {commitment_of : Data → Com} {fields : Fields F E} {fold : ℕ → ℕ → ℕ → E → List E → E}
      {m : Moves C F E Com} {seeded : C} {solution : C → ℕ → Option F} {commitments : List Com}
      {witnesses : List F} {kept : List Data} {final_poly : List E} {query_witness : F}
      {indices : List ℕ} {last : C}
      (played : IsPlayed committed commitment_of fields fold m p.log_final_poly_len numbers top
      inputs seeded solution commitments witnesses kept final_poly query_witness indices last) where
    pub planned_positions : All (λ q. q < 2 ^ top) (places extra indices)
    planned_positions =
        positions_below numbers top extra indices (places extra indices)
        (ap (λ (n : FriNumbers). n.index_bits) is_numbers) played.ended.drawn refl

    pub planned_data : length kept ≡ length arities
    planned_data = played.rounds.data_kept
        ∙ ap (λ (n : FriNumbers). length n.log_arities) is_numbers ∙ ap length (sym here)

    pub planned_openable : top < 64 → (k : ℕ) (datum : Data) → k < length arities
        → IsOpenable arities (places extra indices) k (committed (get_or kept k datum))
    planned_openable small =
        subst (λ xs. (k : ℕ) (datum : Data) → k < length xs
        → IsOpenable xs (places extra indices) k (committed (get_or kept k datum))) (sym here)
        (rounds_openable committed commitment_of fields fold m solution p plan.are.heights top extra
        inputs seeded plan.are plan.are.have plan.capped commitments witnesses kept final_poly
        query_witness indices last
        (subst (λ n. IsPlayed committed commitment_of fields fold m p.log_final_poly_len n top
        inputs seeded solution commitments witnesses kept final_poly query_witness indices last)
        is_numbers played) (places extra indices) refl small)
