-- What a prover opens, and what comes of it.
use Rattle.std.specs.Prelude.{◌≡◌, ℕ, List, [], ◌∷◌, ◌++◌, map, length, replicate, All}
use Rattle.std.specs.Prelude.{Option, None, Some, slice_index_or, ⊤, Bool, ◌+◌, if◌then◌else◌}
use Rattle.algebra.specs.Nested.{lists}
use Rattle.p3_pcs.specs.Requests.{Held, Request}
use Rattle.p3_pcs.specs.Scheme.{Scheme}
use Rattle.p3_stark_pcs.specs.Evaluations.{held_at}
use Rattle.p3_stark_pcs.specs.Scheme.{StarkScheme}
use Rattle.p3_uni_stark_verifier.specs.declared.proof.Commitments.{Commitments}
use Rattle.p3_uni_stark_verifier.specs.declared.proof.OpenedValues.{OpenedValues}
use Rattle.p3_uni_stark_opening.specs.declared.opening.ColumnData.{ColumnData}

-- what is made of something that there may be
abbrev pub if_some : {A B : Type 0} → (A → B) → Option A → Option B
if_some f None = None
if_some f (Some x) = Some (f x)

-- it holds of something that there may be
abbrev pub HoldsIfSome : {A : Type 0} → (A → Type 0) → Option A → Type 0
HoldsIfSome P None = ⊤
HoldsIfSome P (Some x) = P x

module _ {D E : Type 0} where
  -- each of so many matrices of a datum is asked for at these points
  abbrev pub ask : (count : ℕ) (points : List E) → D → Request D E
  ask count points d = record { datum = d; points = replicate count points }

  -- the same of the one matrix of a datum that there may be
  abbrev pub ask_if : (points : List E) → Option D → List (Request D E)
  ask_if points None = []
  ask_if points (Some d) = ask 1 points d ∷ []

  -- what is asked of the data of a proof with so many chunks: preprocessed columns and trace at
  -- both points, chunks and random polynomials at the first
  abbrev pub stark_requests : (count : ℕ) (z y : E) → ColumnData D → List (Request D E)
  stark_requests count z y committed = ask_if (z ∷ y ∷ []) committed.preprocessed
      ++ (ask 1 (z ∷ y ∷ []) committed.trace ∷ ask count (z ∷ []) committed.quotient ∷ [])
      ++ ask_if (z ∷ []) committed.random

-- a place, if there is something at it
abbrev pub place_of : Bool → ℕ → Option ℕ
place_of present place = if present then Some place else None

module _ {E : Type 0} where
  -- the values of a batch's first matrix at a point, by their places: none where there is no batch
  abbrev pub first_values : List (List (List (List E))) → (batch : Option ℕ) (point : ℕ) → List E
  first_values values None point = []
  first_values values (Some batch) point =
      slice_index_or (slice_index_or (slice_index_or values batch []) 0 []) point []

  -- opened values are taken from those of batches: of preprocessed columns, if there are such,
  -- trace, chunks, and random polynomials, if there are such
  pub record AreTakenFrom (values : List (List (List (List E)))) (first last : Bool)
      (opened : OpenedValues E) : Type 0 where
    pub trace_local : opened.trace_local.items
        ≡ first_values values (Some (if first then 1 else 0)) 0
    pub trace_next : opened.trace_next.items
        ≡ first_values values (Some (if first then 1 else 0)) 1
    pub preprocessed_local : opened.preprocessed_local.items
        ≡ first_values values (place_of first 0) 0
    pub preprocessed_next : opened.preprocessed_next.items
        ≡ first_values values (place_of first 0) 1
    pub chunks : lists opened.quotient_chunks.items
        ≡ map (λ points. slice_index_or points 0 [])
        (slice_index_or values ((if first then 1 else 0) + 1) [])
    pub random : opened.random.items
        ≡ first_values values (place_of last ((if first then 1 else 0) + 2)) 0

module _ {E C V Dom Com D Opening Error ProverError : Type 0}
    (r : Scheme E C V Dom Com D Opening Error ProverError) where
  -- the commitments to the data of a proof
  abbrev pub commitments_to : ColumnData D → Commitments Com
  commitments_to committed = record {
    trace = r.commitment_of committed.trace;
    quotient_chunks = r.commitment_of committed.quotient;
    random = if_some r.commitment_of committed.random;
  }

  -- the datum holds one matrix, whose domain has so many points
  abbrev pub HoldsOneOf : (size : ℕ) → D → Type 0
  HoldsOneOf size d = (m : Held E) × (r.committed_polynomials d ≡ m ∷ []) × (m.size ≡ size)

  module _ (t : StarkScheme E V Dom D ProverError) where
    -- a datum of one matrix may be opened, and holds what was committed to
    pub record IsOpenableOne (CanOpen : D → Type 0) (size : ℕ) (d : D) : Type 0 where
      pub openable : CanOpen d
      pub honest : r.IsHonest d
      pub one : HoldsOneOf size d

    -- the data of a proof with so many chunks may be opened, and hold what was committed to, on
    -- domains of so many points
    pub record AreOpenable (count size : ℕ) (committed : ColumnData D) : Type 0 where
      pub preprocessed :
          HoldsIfSome (IsOpenableOne t.CanOpenPreprocessed size) committed.preprocessed
      pub trace : IsOpenableOne r.CanOpen size committed.trace
      pub quotient_openable : r.CanOpen committed.quotient
      pub quotient_honest : r.IsHonest committed.quotient
      pub chunks : length (r.committed_polynomials committed.quotient) ≡ count
      pub sizes : All (λ m. m.size ≡ size) (r.committed_polynomials committed.quotient)
      pub random : HoldsIfSome (IsOpenableOne r.CanOpen size) committed.random

  -- the values at `z` of a datum's one matrix
  abbrev pub values_of : (z : E) → D → List E
  values_of z d = Held.values_at (held_at (r.committed_polynomials d) 0) z

  abbrev pub values_if : (z : E) → Option D → List E
  values_if z None = []
  values_if z (Some d) = values_of z d

  -- what is opened are the values of what was committed to
  pub record AreOpened (committed : ColumnData D) (z y : E) (opened : OpenedValues E) : Type 0 where
    pub trace_local : opened.trace_local.items ≡ values_of z committed.trace
    pub trace_next : opened.trace_next.items ≡ values_of y committed.trace
    pub preprocessed_local : opened.preprocessed_local.items ≡ values_if z committed.preprocessed
    pub preprocessed_next : opened.preprocessed_next.items ≡ values_if y committed.preprocessed
    pub chunks : lists opened.quotient_chunks.items
        ≡ map (λ m. m.values_at z) (r.committed_polynomials committed.quotient)
    pub random : opened.random.items ≡ values_if z committed.random
