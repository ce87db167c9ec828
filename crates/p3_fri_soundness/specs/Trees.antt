-- Accepted proofs over trees: another opening of the same commitments at the same positions, to
-- words and tables, and where the two collide.
use Rattle.std.specs.Prelude.{◌≡◌, ℕ, ◌^◌, List, [], ◌∷◌, map, length, slice_index}
use Rattle.std.specs.Prelude.{slice_index_or}
use Rattle.std.specs.List.{AllZip, zip, range_with_len}
use Rattle.algebra.specs.Polynomial.{tabulate}
use Rattle.p3_mmcs.specs.Tree.{Opens}
use Rattle.p3_mmcs_binding.specs.Collisions.{NoneCollides}
use Rattle.p3_fri_relation.specs.Setting.{Setting, Opening, Parameters, CommitmentClaim}
use Rattle.p3_fri_relation.specs.Setting.{InputOpening, Proof}
use Rattle.p3_fri_relation.specs.Heights.{opened_index}
use Rattle.p3_fri_relation.specs.Inputs.{OpensInput}
use Rattle.p3_fri_relation.specs.Queries.{heights_after, row_indices}
use Rattle.p3_fri_relation.specs.TestRounds.{row_folded}
use Rattle.p3_fri_relation.specs.Acceptance.{top_height, log_arities, source, test_replay}
use Rattle.p3_fri_relation.specs.Acceptance.{positions}
use Rattle.p3_fri_soundness.specs.Bound.{word_rows}
use Rattle.p3_fri_soundness.specs.BoundInputs.{rows_of}

-- how elements are encoded, and how commitments and proofs are read as roots and paths
pub record Tree (A Com Path : Type 0) : Type 0 where
  pub bytes : A → List ℕ
  pub root : Com → List ℕ
  pub paths : Path → List (List (List ℕ))

-- the encodings have one length, and no two elements share one
pub record IsEncoded {A Com Path : Type 0} (tree : Tree A Com Path) (len : ℕ) : Type 0 where
  pub long : (x : A) → length (tree.bytes x) ≡ len
  pub injective : (x y : A) → tree.bytes x ≡ tree.bytes y → x ≡ y

-- what the tree over SHA-256 opens
abbrev pub opened_by : {A Com Path : Type 0} → Tree A Com Path → Opening A Com Path
opened_by tree commitment dimensions indices rows path =
    Opens tree.bytes (tree.root commitment) dimensions indices rows (tree.paths path)

module _ {F E C Com Path InCom InPath : Type 0} (s : Setting F E C Com Path InCom InPath)
    (input_tree : Tree F InCom InPath) (round_tree : Tree E Com Path) (p : Parameters)
    (claims : List (CommitmentClaim E InCom)) (proof : Proof F E Com Path InPath)
    (words : List (List E)) (tables : List (List (List (List F)))) where
  -- the opening of a commitment of inputs to the tables' rows
  abbrev pub tables_opening : (positions : List ℕ) → CommitmentClaim E InCom
      → List (List (List F)) → InPath → InputOpening F InPath
  tables_opening positions claim ts path = record {
    rows = map (λ q. rows_of s.fields p.log_blowup (top_height p claims) q claim.matrices ts)
        positions;
    path = path;
  }

  module _ (c : C) (alpha : E) where
    -- the indices at which round `k` is opened, and the rows that the proof opens there
    abbrev pub indices_opened : (k : ℕ) → List ℕ
    indices_opened k = map (λ q. slice_index (row_indices (log_arities p claims) q) k)
        (positions s p claims proof c)

    abbrev pub rows_opened : (k : ℕ) → List (List (List E))
    rows_opened k = tabulate p.num_queries (λ j. row_folded s p (log_arities p claims)
        (top_height p claims) proof (source s p claims proof alpha)
        (test_replay s p claims proof c).betas (positions s p claims proof c) j k ∷ [])

    -- the rows that the `k`-th word has there
    abbrev pub rows_of_word : (k : ℕ) → List (List (List E))
    rows_of_word k = word_rows (slice_index (log_arities p claims) k) (slice_index_or words k [])
        (indices_opened k)

    -- round `k` has another opening, to its word's rows, and the two don't collide
    pub record RoundAgrees (k : ℕ) (commitment : Com) (path other : Path) : Type 0 where
      pub opens : s.opens_round commitment (record {
        width = 2 ^ slice_index (log_arities p claims) k;
        height = 2 ^ slice_index (heights_after (log_arities p claims) (top_height p claims)) k;
      } ∷ []) (indices_opened k) (rows_of_word k) other
      pub none : NoneCollides round_tree.bytes (indices_opened k) (rows_opened k)
          (round_tree.paths path) (rows_of_word k) (round_tree.paths other)

    -- so for each round, with the paths of the other openings
    abbrev pub RoundsAgree : List Path → Type 0
    RoundsAgree others = AllZip
        (λ k (commitment, (r, other)). RoundAgrees k commitment r.path other)
        (range_with_len 0 (length (log_arities p claims)))
        (zip proof.commitments (zip proof.rounds others))

    -- a commitment of inputs has another opening, to its tables' rows, and the two don't collide
    pub record InputAgrees (claim : CommitmentClaim E InCom) (o : InputOpening F InPath)
        (ts : List (List (List F))) (other : InPath) : Type 0 where
      pub opens : OpensInput s.opens_input p.log_blowup (top_height p claims)
          (positions s p claims proof c) claim
          (tables_opening (positions s p claims proof c) claim ts other)
      pub none : NoneCollides input_tree.bytes
          (map (opened_index p.log_blowup (top_height p claims) claim.matrices)
          (positions s p claims proof c)) o.rows (input_tree.paths o.path)
          (tables_opening (positions s p claims proof c) claim ts other).rows
          (input_tree.paths other)

    -- so for each commitment of inputs
    abbrev pub InputsAgree : List InPath → Type 0
    InputsAgree others = AllZip
        (λ claim (o, (ts, other)). InputAgrees claim o ts other)
        claims (zip proof.inputs (zip tables others))
