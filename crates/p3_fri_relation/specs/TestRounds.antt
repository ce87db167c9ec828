-- The rounds of a low-degree test, whatever its queries meet: what is drawn along them, the rows
-- that they open, and where the queries end.
use Rattle.std.specs.Prelude.{◌≡◌, ℕ, suc, ◌+◌, ◌/◌, ◌^◌, List, [], ◌∷◌, map, length, All, Some}
use Rattle.std.specs.Prelude.{slice_index, slice_index_or}
use Rattle.std.specs.List.{AllZip, zip, range_with_len}
use Rattle.algebra.specs.Polynomial.{tabulate}
use Rattle.p3_fri_transcript.specs.Steps.{FriNumbers, fri_stream}
use Rattle.p3_fri_transcript.specs.Replay.{FriReplay, fri_replay}
use Rattle.p3_fri_relation.specs.Setting.{Setting, Parameters, RoundOpening, Proof}
use Rattle.p3_fri_relation.specs.Queries.{Source, rounds_of, heights_after, row_indices}
use Rattle.p3_fri_relation.specs.Queries.{rows_folded, EndsAtFinalValue}

-- what the transcript of a test with rounds of these log arities is bound to
abbrev pub bound_numbers : Parameters → (log_arities : List ℕ) → (top_height extra_bits : ℕ)
    → FriNumbers
bound_numbers p log_arities top_height extra_bits = record {
  log_arities = log_arities;
  final_poly_len = 2 ^ p.log_final_poly_len;
  commit_pow_bits = p.commit_pow_bits;
  query_pow_bits = p.query_pow_bits;
  num_queries = p.num_queries;
  index_bits = top_height + extra_bits;
  log_blowup = p.log_blowup;
  max_log_arity = p.max_log_arity;
}

-- one row for each query, of one value less than the round's arity
abbrev pub HasSiblings : {E Path : Type 0} → (num_queries log_arity : ℕ) → RoundOpening E Path
    → Type 0
HasSiblings num_queries log_arity r = (length r.siblings ≡ num_queries)
    × All (λ row. suc (length row) ≡ 2 ^ log_arity) r.siblings

module _ {F E Com Path InPath : Type 0} (p : Parameters) (proof : Proof F E Com Path InPath) where
  -- the lengths of the proof's lists, where the rounds have these log arities
  pub record HasCounts (log_arities : List ℕ) (num_commitments : ℕ) : Type 0 where
    pub commitments : length proof.commitments ≡ length log_arities
    pub commit_witnesses : length proof.commit_witnesses ≡ length log_arities
    pub rounds : AllZip (HasSiblings p.num_queries) log_arities proof.rounds
    pub inputs : length proof.inputs ≡ num_commitments
    pub final_poly : length proof.final_poly ≡ 2 ^ p.log_final_poly_len

  -- a witness at no bits is zero, of the rounds and of the queries
  pub record AreCanonicalInTest (zero : F) : Type 0 where
    pub commit : p.commit_pow_bits ≡ 0 → All (λ w. w ≡ zero) proof.commit_witnesses
    pub query : p.query_pow_bits ≡ 0 → proof.query_witness ≡ zero

-- a test with rounds of these log arities, the first from the log height `top` on
module _ {F E C Com Path InCom InPath : Type 0} (s : Setting F E C Com Path InCom InPath)
    (p : Parameters) (log_arities : List ℕ) (top : ℕ) (proof : Proof F E Com Path InPath) where
  -- from a challenger's state on
  module _ (c : C) where
    -- what is drawn along the test
    abbrev pub replayed : FriReplay C E
    replayed =
        let numbers = bound_numbers p log_arities top s.extra_bits in
        fri_replay s.moves s.fields.coefficients numbers s.fields.base
        (fri_stream s.fields.degree numbers) c
        proof.commitments proof.commit_witnesses proof.final_poly (Some proof.query_witness)

    -- the queries' positions: the drawn indices without the extra bits, which are the lowest
    abbrev pub positions : List ℕ
    positions = map (λ index. index / 2 ^ s.extra_bits) replayed.indices

  -- with these folding challenges, and queries at these positions, of this source
  module _ (source : Source E) (betas : List E) (positions : List ℕ) where
    -- the row that query `j` folds in round `k`
    abbrev pub row_folded : (j k : ℕ) → List E
    row_folded j k = slice_index_or (rows_folded s p top source proof
        (rounds_of log_arities betas) j (slice_index positions j)) k []

    -- the word that round `k` folds, in rows of its arity, opens to the queries' rows
    abbrev pub OpensRound : (k : ℕ) → Com × RoundOpening E Path → Type 0
    OpensRound k (commitment, r) = s.opens_round commitment
        (record {
          width = 2 ^ slice_index log_arities k;
          height = 2 ^ slice_index (heights_after log_arities top) k;
        } ∷ [])
        (map (λ q. slice_index (row_indices log_arities q) k) positions)
        (tabulate p.num_queries (λ j. row_folded j k ∷ []))
        r.path

    abbrev pub RoundsOpen : Type 0
    RoundsOpen = AllZip OpensRound (range_with_len 0 (length log_arities))
        (zip proof.commitments proof.rounds)

    -- query `j` ends at the final polynomial
    abbrev pub QueryEnds : (j : ℕ) → Type 0
    QueryEnds j = EndsAtFinalValue s p top source proof (rounds_of log_arities betas) j
        (slice_index positions j)
