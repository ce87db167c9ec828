-- What a prover leaves once it has played all of a test's transcript, and why it stops before.
use Rattle.std.specs.Prelude.{◌≡◌, ℕ, ◌+◌, ◌^◌, ◌<◌, ◌≤◌, true, List, [], remove, sum, Some}
use Rattle.std.specs.Prelude.{Option, slice_index_or, ⊤}
use Rattle.algebra.specs.Rounds.{final_polynomial}
use Rattle.p3_matrix.specs.declared.dense.RowMajorMatrix.{RowMajorMatrix}
use Rattle.p3_challenger_core.specs.Run.{Moves}
use Rattle.p3_fri_folding.specs.declared.error.FriProverError.{FriProverError}
use Rattle.p3_fri_folding.specs.declared.error.FriProverError.TheVariants.{NoPowWitness, OutOfMemory}
use Rattle.p3_fri_folding.specs.declared.pow_phase.PowPhase.TheVariants.{CommitPhase, Query}
use Rattle.p3_fri_pow.specs.Pow.{sent_witness, NonePasses}
use Rattle.p3_fri_transcript.specs.Found.{QueryNotFound}
use Rattle.p3_fri_transcript.specs.Indices.{AreIndices}
use Rattle.p3_fri_transcript.specs.Replay.{shown_queries_replay, polynomial_observed}
use Rattle.p3_fri_transcript.specs.Steps.{FriNumbers}
use Rattle.p3_fri_relation.specs.Setting.{Fields}
use Rattle.p3_fri_prover.specs.Inputs.{of_length}
use Rattle.p3_fri_prover.specs.Rounds.{AreCommitted, NoRoundWitness}

-- a word of `len` entries can be folded by all these log arities, where the greatest log height is
-- `most`, and a final polynomial of `2^log_final_poly_len` coefficients made of what is left
pub record CanPlay (log_arities : List ℕ) (log_final_poly_len most len : ℕ) : Type 0 where
  pub height : ℕ
  pub length_of_word : len ≡ 2 ^ (height + sum log_arities)
  pub within : height + sum log_arities ≤ most
  pub long_enough : log_final_poly_len ≤ height

-- the numbers that a transcript is bound to are those of rounds of these log arities, and of a
-- final polynomial of `2^log_final_poly_len` coefficients, and no step draws more bits at once
pub record Describes (numbers : FriNumbers) (log_arities : List ℕ)
    (log_final_poly_len max_sample_bits : ℕ) : Type 0 where
  pub schedule : log_arities ≡ numbers.log_arities
  pub final_poly_len : numbers.final_poly_len ≡ 2 ^ log_final_poly_len
  pub commit_bits : numbers.commit_pow_bits ≤ max_sample_bits
  pub query_bits : numbers.query_pow_bits ≤ max_sample_bits
  pub index_bits : numbers.index_bits ≤ max_sample_bits

-- the final polynomial of a word
abbrev pub polynomial_of : {F E : Type 0} → Fields F E → (log_final_poly_len : ℕ) → List E → List E
polynomial_of fields log_final_poly_len word =
    final_polynomial fields.ext (λ k. fields.lift (fields.root k)) log_final_poly_len word

-- where `numbers` are those that the transcript is bound to, `word` is the word after the rounds,
-- and `reached` the challenger's state then
module _ {F E C Com : Type 0} (fields : Fields F E) (m : Moves C F E Com)
    (log_final_poly_len : ℕ) (numbers : FriNumbers) (word : List E) (reached : C) where
  -- the queries were played on the final polynomial of the word, by the witness that the search
  -- `solution` gives: they led to the state `last`
  pub record AreQueriesPlayed (solution : C → ℕ → Option F) (final_poly : List E)
      (query_witness : F) (indices : List ℕ) (last : C) : Type 0 where
    pub polynomial : final_poly ≡ polynomial_of fields log_final_poly_len word
    pub queries : shown_queries_replay m fields.coefficients numbers reached final_poly
        (Some query_witness) ≡ record { passes = true; indices = indices; state = last }
    pub drawn : AreIndices numbers indices
    pub found : sent_witness fields.base.zero solution
        (polynomial_observed m.observe_value fields.coefficients reached final_poly)
        numbers.query_pow_bits ≡ Some query_witness

  -- why they weren't: no witness passes, or for want of memory
  abbrev pub QueriesRefusal : FriProverError → Type 0
  QueriesRefusal (NoPowWitness Query) = NonePasses m.observe_value m.draw_bits
      (polynomial_observed m.observe_value fields.coefficients reached
      (polynomial_of fields log_final_poly_len word)) numbers.query_pow_bits
  QueriesRefusal OutOfMemory = ⊤
  QueriesRefusal _ = ⊥

-- where `numbers` are those that the transcript is bound to, `words` the inputs, the first of log
-- height `top`, and `seeded` the challenger's state once it has absorbed the seed's stream, before
-- the first round
module _ {F E C Com Data : Type 0} (committed : Data → List (RowMajorMatrix E))
    (commitment_of : Data → Com) (fields : Fields F E) (fold : ℕ → ℕ → ℕ → E → List E → E)
    (m : Moves C F E Com) (log_final_poly_len : ℕ) (numbers : FriNumbers) (top : ℕ)
    (words : List (List E)) (seeded : C) where
  -- the word that the rounds begin with
  abbrev pub first_word : List E
  first_word = slice_index_or words 0 []

  -- the words that are rolled in: all others
  abbrev pub further_words : ℕ → Option (List E)
  further_words k = of_length (remove words 0) (2 ^ k)

  -- by the witnesses that the search `solution` gives
  module _ (solution : C → ℕ → Option F) where
    -- all rounds were played, and led to the word and to the state `reached`
    abbrev pub AllCommitted : (commitments : List Com) (witnesses : List F) (kept : List Data)
        (word : List E) (reached : C) → Type 0
    AllCommitted commitments witnesses kept word reached =
        AreCommitted committed commitment_of m numbers.commit_pow_bits fields.base.zero solution
        fields.ext fold further_words top first_word seeded numbers.log_arities commitments
        witnesses kept word reached

    -- all of the transcript was played: the rounds, the final polynomial of the word after them,
    -- and the queries; it led to the state `last`
    pub record IsPlayed (commitments : List Com) (witnesses : List F) (kept : List Data)
        (final_poly : List E) (query_witness : F) (indices : List ℕ) (last : C) : Type 0 where
      pub word : List E
      pub reached : C
      pub rounds : AllCommitted commitments witnesses kept word reached
      pub ended : AreQueriesPlayed fields m log_final_poly_len numbers word reached solution
          final_poly query_witness indices last

    -- all rounds were played, and no witness is found after the final polynomial of the word then
    pub record NoQueryWitness : Type 0 where
      pub commitments : List Com
      pub kept : List Data
      pub word : List E
      pub reached : C
      pub stops : QueryNotFound m fields.base.zero solution fields.coefficients numbers seeded
          commitments (polynomial_of fields log_final_poly_len word)
      pub rounds : AllCommitted commitments stops.witnesses kept word reached

    -- why it wasn't played to the end: a proof of work was asked for, and no witness passes, or for
    -- want of memory
    abbrev pub PlayRefusal : FriProverError → Type 0
    PlayRefusal (NoPowWitness CommitPhase) = (0 < numbers.commit_pow_bits)
        × NoRoundWitness committed commitment_of m numbers.commit_pow_bits fields.base.zero
        solution fields.ext fold further_words top first_word seeded numbers.log_arities
    PlayRefusal (NoPowWitness Query) = (0 < numbers.query_pow_bits) × NoQueryWitness
    PlayRefusal OutOfMemory = ⊤
    PlayRefusal _ = ⊥
