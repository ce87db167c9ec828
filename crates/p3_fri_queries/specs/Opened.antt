-- The rows of all queries, opened round by round.
use Rattle.std.specs.Prelude.{◌^◌, ℕ, List, [], ◌∷◌, length, slice_index, slice_index_or}
use Rattle.std.specs.List.{AllZip, Any, zip, range_with_len}
use Rattle.p3_fri_relation.specs.Setting.{Opening, RoundOpening}
use Rattle.p3_fri_relation.specs.Queries.{heights_after}

-- `indices` and `rows` are those of each round
module _ {E Com Path : Type 0} (opens : Opening E Com Path) (log_arities : List ℕ) (log_height : ℕ)
    (indices : List (List ℕ)) (rows : List (List (List (List E)))) where
  -- the word that round `k` folds, in rows of its arity, opens to its rows
  abbrev pub OpensRoundTo : (k : ℕ) → Com × RoundOpening E Path → Type 0
  OpensRoundTo k (commitment, r) = opens commitment
      (record {
        width = 2 ^ slice_index log_arities k;
        height = 2 ^ slice_index (heights_after log_arities log_height) k;
      } ∷ [])
      (slice_index_or indices k []) (slice_index_or rows k []) r.path

  -- each round's does
  abbrev pub RoundsOpenTo : List Com → List (RoundOpening E Path) → Type 0
  RoundsOpenTo commitments rounds =
      AllZip OpensRoundTo (range_with_len 0 (length log_arities)) (zip commitments rounds)

  -- some round's doesn't
  abbrev pub SomeRoundFails : List Com → List (RoundOpening E Path) → Type 0
  SomeRoundFails commitments rounds = Any (λ (k, opening). ¬ OpensRoundTo k opening)
      (zip (range_with_len 0 (length log_arities)) (zip commitments rounds))
