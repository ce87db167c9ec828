-- What was played with words of these log heights, and that its rounds can be opened.
use Rattle.std.proofs.Common.{◌≡◌, ℕ, ◌/◌, ◌^◌, ◌<◌, List, [], length, get_or, map, Option, refl}
use Rattle.p3_matrix.specs.declared.dense.RowMajorMatrix.{RowMajorMatrix}
use Rattle.p3_challenger_core.specs.Run.{Moves}
use Rattle.p3_fri_folding.specs.Schedule.{IsStrictlyFalling, tallest}
use Rattle.p3_fri_relation.specs.Setting.{Fields, Parameters, Opening}
use Rattle.p3_fri_prover.specs.Inputs.{HaveHeights, input_of, AreInputs}
use Rattle.p3_fri_prover.specs.Openings.{IsOpenable}
use Rattle.p3_fri_prover.specs.Played.{IsPlayed}
use Rattle.p3_fri_prover.specs.Proved.{log_arities, fri_numbers}
use Rattle.p3_fri_prover.specs.Rounds.{AreCommitted}
use Rattle.p3_fri_prover.proofs.Schedules.{arities_within, arities_positive, arities_below_64}
use Rattle.p3_fri_prover.proofs.Heights.{heights_fall, first_height, first_length}
use Rattle.p3_fri_prover.proofs.Heights.{committed_by_height}
use Rattle.p3_fri_prover.proofs.Opened.{openable}
use Rattle.p3_fri_prover.proofs.Replayed.{positions_below}

-- `top` is the log height of the first word
module _ {F E C Com Data : Type 0} (committed : Data → List (RowMajorMatrix E))
    (commitment_of : Data → Com) (fields : Fields F E) (fold : ℕ → ℕ → ℕ → E → List E → E)
    (m : Moves C F E Com) (solution : C → ℕ → Option F) (p : Parameters) (heights : List ℕ)
    (top extra : ℕ) (inputs : List (List E)) (seeded : C) (are_inputs : AreInputs top inputs)
    (have : HaveHeights heights inputs) (capped : 0 < p.max_log_arity) (commitments : List Com)
    (witnesses : List F) (kept : List Data) (final_poly : List E) (query_witness : F)
    (indices : List ℕ) (last : C)
    (played : IsPlayed committed commitment_of fields fold m p.log_final_poly_len
    (fri_numbers p heights top extra) top inputs seeded solution commitments witnesses kept
    final_poly query_witness indices last)
    (ps : List ℕ) (shifted : ps ≡ map (λ i. i / 2 ^ extra) indices) where
  abbrev arities : List ℕ
  arities = log_arities p heights top

  abbrev first : List E
  first = get_or inputs 0 []

  falling : IsStrictlyFalling heights
  falling = heights_fall top inputs are_inputs heights have

  is_top : tallest heights ≡ top
  is_top = first_height top inputs are_inputs heights have

  -- rounds over the words by log height
  pub rounds_by_height : AreCommitted committed commitment_of m p.commit_pow_bits fields.base.zero
      solution fields.ext fold (input_of heights inputs) top first seeded arities commitments
      witnesses kept played.word played.reached
  rounds_by_height =
      committed_by_height committed commitment_of m p.commit_pow_bits fields.base.zero solution
      fields.ext fold heights inputs top have is_top first seeded arities
      (arities_positive p heights top falling is_top capped)
      (arities_within p heights top falling is_top) commitments witnesses kept played.word
      played.reached played.rounds

  -- at each place
  pub position_below : (j : ℕ) → j < length ps → get_or ps j 0 < 2 ^ top
  position_below j l =
      positions_below (fri_numbers p heights top extra) top extra indices ps refl played.ended.drawn
      shifted j 0 l

  -- the rounds can be opened
  pub rounds_openable : top < 64 → (k : ℕ) (datum : Data) → k < length arities
      → IsOpenable arities ps k (committed (get_or kept k datum))
  rounds_openable small =
      openable committed commitment_of nothing fields.ext fold (input_of heights inputs) top first
      arities rounds_by_height.betas ps rounds_by_height.drawn
      (first_length top inputs are_inputs heights have)
      (arities_within p heights top falling is_top) position_below commitments kept rounds_by_height.commitments_made rounds_by_height.words
      (arities_below_64 p heights top falling is_top small)
    where
      nothing : Opening E Com ℕ
      nothing commitment sizes rows sets path = Unit
