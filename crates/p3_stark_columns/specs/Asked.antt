-- What is asked of batches, as many lists of points as there are domains.
use Rattle.std.specs.Prelude.{List, ◌∷◌, map, length, replicate, option_to_list}
use Rattle.p3_pcs.specs.Requests.{Request}
use Rattle.p3_pcs.specs.declared.claims.KnownCommitment.{KnownCommitment}
use Rattle.p3_stark_columns.specs.declared.commit.Batch.{Batch}
use Rattle.p3_stark_columns.specs.declared.commit.Batches.{Batches}
use Rattle.p3_stark_columns.specs.declared.opening.Asked.{Asked}

module _ {EF D : Type 0} where
  -- the request for data of which so many matrices are opened at these points
  abbrev pub asked : Asked EF D → Request D EF
  asked a = record { datum = a.prover_data; points = replicate a.matrices a.points.items }

  -- the request for a batch of which each matrix is opened at these points
  abbrev pub asked_of : {Com Dom : Type 0} → List EF → Batch Com Dom D → Request D EF
  asked_of points b = record {
    datum = b.prover_data;
    points = replicate (length b.known.domains.items) points;
  }

  -- the requests for batches of which the first two are opened at `both` points, the others at
  -- `one`
  abbrev pub all_asked : {Com Dom : Type 0} → (both one : List EF) → Batches Com Dom D
      → List (Request D EF)
  all_asked both one b =
      asked_of both b.preprocessed ∷ asked_of both b.trace ∷ asked_of one b.quotient
      ∷ map (asked_of one) (option_to_list b.random)

-- what is known of them
abbrev pub all_known : {Com Dom D : Type 0} → Batches Com Dom D → List (KnownCommitment Com Dom)
all_known b =
    b.preprocessed.known ∷ b.trace.known ∷ b.quotient.known
    ∷ map (λ c. c.known) (option_to_list b.random)
