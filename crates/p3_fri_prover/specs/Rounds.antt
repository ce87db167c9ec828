-- The rounds that a prover plays: what it commits to, and the word to which they lead.
use Rattle.std.specs.Prelude.{◌≡◌, ℕ, ◌+◌, ◌^◌, ◌<◌, ◌≤◌, true, List, [], ◌∷◌, length, take}
use Rattle.std.specs.Prelude.{Option, Some, slice_index, slice_index_or}
use Rattle.algebra.specs.Field.{FieldOps}
use Rattle.algebra.specs.Rounds.{after_round, after_rounds, words_folded}
use Rattle.p3_matrix.specs.declared.dense.RowMajorMatrix.{RowMajorMatrix}
use Rattle.p3_matrix.specs.Matrix.{rows, matrix_width}
use Rattle.p3_matrix.specs.Rows.{rows_of}
use Rattle.p3_challenger_core.specs.Run.{Moves}
use Rattle.p3_fri_pow.specs.Pow.{sent_witness, NonePasses}
use Rattle.p3_fri_transcript.specs.Found.{RoundsFound, RoundNotFound}
use Rattle.p3_fri_transcript.specs.Replay.{round_replay, rounds_replay}
use Rattle.p3_fri_relation.specs.Queries.{rounds_of}

-- a word of `len` entries is folded by this log arity, where the greatest log height is `most`
pub record CanFold (log_arity most len : ℕ) : Type 0 where
  pub height : ℕ
  pub length_of_word : len ≡ 2 ^ (height + log_arity)
  pub within : height + log_arity ≤ most

module _ {E Com Data : Type 0} (committed : Data → List (RowMajorMatrix E))
    (commitment_of : Data → Com) where
  -- the datum is that of a commitment to the word, in rows of `2^log_arity` entries
  pub record KeepsWord (log_arity : ℕ) (word : List E) (commitment : Com) (datum : Data)
      : Type 0 where
    pub matrix : RowMajorMatrix E
    pub only : committed datum ≡ matrix ∷ []
    pub rows_of_word : rows matrix ≡ rows_of (2 ^ log_arity) word
    pub width : matrix_width matrix ≡ 2 ^ log_arity
    pub same : commitment_of datum ≡ commitment

  -- so is each round's, of the word that it folds
  abbrev pub KeepWords : (log_arities : List ℕ) (words : List (List E)) (commitments : List Com)
      (kept : List Data) → Type 0
  KeepWords log_arities words commitments kept = (k : ℕ) (commitment : Com) (datum : Data)
      → k < length log_arities
      → KeepsWord (slice_index log_arities k) (slice_index_or words k [])
      (slice_index_or commitments k commitment) (slice_index_or kept k datum)

  module _ {C F : Type 0} (m : Moves C F E Com) (bits : ℕ) where
    -- a round with the word finds no witness in the state `before`
    pub record IsRoundRefused (log_arity : ℕ) (word : List E) (before : C) : Type 0 where
      pub commitment : Com
      pub datum : Data
      pub keeps : KeepsWord log_arity word commitment datum
      pub none_passes : NonePasses m.observe_value m.draw_bits
          (m.observe_commitment before commitment) bits

  module _ {C F : Type 0} (m : Moves C F E Com) (bits : ℕ) (zero : F)
      (solution : C → ℕ → Option F) (ops : FieldOps E) (fold : ℕ → ℕ → ℕ → E → List E → E)
      (inputs : ℕ → Option (List E)) where
    -- a round to log height `h` was played with the word, by the witness that the search
    -- `solution` gives in it: it led from the state `before` to `after`
    pub record IsRound (h log_arity : ℕ) (word : List E) (before : C) (commitment : Com)
        (witness : F) (datum : Data) (folded : List E) (after : C) : Type 0 where
      pub beta : E
      pub replay : round_replay m bits before commitment witness
          ≡ record { passes = true; betas = beta ∷ []; state = after }
      pub found :
          sent_witness zero solution (m.observe_commitment before commitment) bits ≡ Some witness
      pub keeps : KeepsWord log_arity word commitment datum
      pub word_after : folded
          ≡ after_round ops fold inputs h (record { log_arity = log_arity; beta = beta }) word

    module _ (top : ℕ) (first : List E) (start : C) where
      -- rounds of these log arities were played, from the word `first` of log height `top` on, by
      -- the witnesses that the search gives in them: they led from the state `start` to `now`, and
      -- to the word
      pub record AreCommitted (log_arities : List ℕ) (commitments : List Com) (witnesses : List F)
          (kept : List Data) (word : List E) (now : C) : Type 0 where
        pub betas : List E
        pub drawn : length betas ≡ length log_arities
        pub commitments_made : length commitments ≡ length log_arities
        pub witnesses_found : length witnesses ≡ length log_arities
        pub data_kept : length kept ≡ length log_arities
        pub replay : rounds_replay m bits start commitments witnesses
            ≡ record { passes = true; betas = betas; state = now }
        pub found : RoundsFound m zero solution bits start commitments witnesses
        pub words : KeepWords log_arities
            (words_folded ops fold inputs top (rounds_of log_arities betas) first) commitments kept
        pub last_word : word ≡ after_rounds ops fold inputs top (rounds_of log_arities betas) first

      -- no witness is found at one of the commitments: the rounds before it were played, and it is
      -- one to the word after them
      pub record NoRoundWitness (log_arities : List ℕ) : Type 0 where
        pub commitments : List Com
        pub stops : RoundNotFound m zero solution bits start commitments
        pub some_left : length stops.before < length log_arities
        pub kept : List Data
        pub word : List E
        pub reached : C
        pub committed_before : AreCommitted (take (length stops.before) log_arities) stops.before
            stops.witnesses kept word reached
        pub datum : Data
        pub keeps : KeepsWord (slice_index log_arities (length stops.before)) word stops.next datum
