-- What a STARK prover opens.
use Rattle.std.specs.Prelude.{◌≡◌, ◌⊎◌, ⊤, List, [], ◌∷◌, map, length, replicate, Bool, true}
use Rattle.std.specs.Prelude.{Option, Some, IfSome, is_some, option_map, option_to_list}
use Rattle.std.specs.List.{AllZip}
use Rattle.p3_matrix.specs.declared.dense.RowMajorMatrix.{RowMajorMatrix}
use Rattle.p3_pcs.specs.Claims.{Claim, zip_with}
use Rattle.p3_pcs.specs.Headline.{claims_of, MatchOpenAndVerifyError}
use Rattle.p3_pcs.specs.Requests.{Request}
use Rattle.p3_pcs.specs.Scheme.{Scheme}
use Rattle.p3_pcs.specs.declared.claims.KnownCommitment.{KnownCommitment}
use Rattle.p3_stark_pcs.specs.Evaluations.{HasShape}
use Rattle.p3_stark_pcs.specs.Scheme.{StarkScheme}
use Rattle.p3_stark_columns.specs.declared.commit.Batches.{Batches}
use Rattle.p3_stark_columns.specs.declared.error.StarkError.{StarkError}
use Rattle.p3_stark_columns.specs.declared.error.StarkError.TheVariants.{Commit, Open, OutOfMemory}

-- a list of these points for each of the domains
abbrev pub points_for : {EF Com Dom : Type 0} → List EF → KnownCommitment Com Dom → List (List EF)
points_for points k = map (λ _. points) k.domains.items

-- the claims of these values, where of three commitments, or four, the first two were opened at
-- `both` points and the others at `one`
abbrev pub stark_claims : {EF Com Dom : Type 0} → (both one : List EF)
    → List (KnownCommitment Com Dom) → (values : List (List (List (List EF))))
    → List (Claim EF Com Dom)
stark_claims both one known values =
    claims_of known (zip_with points_for (both ∷ both ∷ one ∷ one ∷ []) known) values

module _ {E C V Dom Com D Proof Error ProverError : Type 0}
    (r : Scheme E C V Dom Com D Proof Error ProverError) where
  -- what is known of a commitment is that of its data: the commitment, and domains of the sizes of
  -- what it holds; and the data holds what was committed to
  pub record IsBatch (known : KnownCommitment Com Dom) (datum : D) : Type 0 where
    pub honest : r.IsHonest datum
    pub commitment : known.commitment ≡ r.commitment_of datum
    pub domains : map r.domain_size known.domains.items
        ≡ map (λ m. m.size) (r.committed_polynomials datum)

  -- the values, matrix by matrix, of what a datum is a commitment to
  abbrev pub values_at_points : List E → D → List (List (List E))
  values_at_points points datum = map (λ m. map m.values_at points) (r.committed_polynomials datum)

  -- a datum of which each matrix is asked for at these points
  abbrev pub asked_at : List E → D → Request D E
  asked_at points datum =
      record { datum = datum; points = replicate (length (r.committed_polynomials datum)) points }

  -- of the data of preprocessed columns and of a trace the values at `both` points, of those of
  -- chunks and of random polynomials, if there are such, at `one`
  abbrev pub stark_values : (both one : List E) → (preprocessed trace chunks : D) → Option D
      → List (List (List (List E)))
  stark_values both one preprocessed trace chunks random =
      values_at_points both preprocessed ∷ values_at_points both trace
      ∷ values_at_points one chunks ∷ map (values_at_points one) (option_to_list random)

  -- the same data, asked for there
  abbrev pub stark_requests : (both one : List E) → (preprocessed trace chunks : D) → Option D
      → List (Request D E)
  stark_requests both one preprocessed trace chunks random =
      asked_at both preprocessed ∷ asked_at both trace ∷ asked_at one chunks
      ∷ map (asked_at one) (option_to_list random)

  module _ (t : StarkScheme E V Dom D ProverError) where
    -- There is a datum of random polynomials where the scheme hides, and none where it doesn't. It
    -- holds on each of these domains as many as the scheme says.
    pub record IsRandom (hides : Bool) (domains : List Dom) (random : Option D) : Type 0 where
      pub there : is_some random ≡ hides
      pub shapes : IfSome random (λ datum.
          AllZip (λ m domain. HasShape (r.domain_size domain) t.random_columns m)
          (r.committed_polynomials datum) domains)

    -- batches that may be opened, that of preprocessed columns as such
    pub record AreReady (b : Batches Com Dom D) : Type 0 where
      pub preprocessed_openable : t.CanOpenPreprocessed b.preprocessed.prover_data
      pub trace_openable : r.CanOpen b.trace.prover_data
      pub quotient_openable : r.CanOpen b.quotient.prover_data
      pub random_openable : IfSome b.random (λ c. r.CanOpen c.prover_data)
      pub preprocessed_batch : IsBatch b.preprocessed.known b.preprocessed.prover_data
      pub trace_batch : IsBatch b.trace.known b.trace.prover_data
      pub quotient_batch : IsBatch b.quotient.known b.quotient.prover_data
      pub random_batch : IfSome b.random (λ c. IsBatch c.known c.prover_data)

    -- The values are those of what the known commitments are commitments to: of data whose
    -- polynomials extend the preprocessed columns and the trace, at both points, of chunks, at the
    -- first, that recombine to `quotient`, and, where the scheme hides, of random polynomials on
    -- the trace's domains, at the first point too.
    pub record AreStarkValues (hides : Bool)
        (preprocessed_columns trace_columns : List (Dom × RowMajorMatrix V))
        (recombined : List (List E) → List E) (quotient : List E) (point next : E)
        (known : List (KnownCommitment Com Dom)) (values : List (List (List (List E)))) : Type 0
      where
        pub preprocessed : D
        pub trace : D
        pub chunks : D
        pub random : Option D
        pub batches : AllZip IsBatch known
            (preprocessed ∷ trace ∷ chunks ∷ option_to_list random)
        pub preprocessed_extends :
            AllZip r.Extends (r.committed_polynomials preprocessed) preprocessed_columns
        pub trace_extends : AllZip r.Extends (r.committed_polynomials trace) trace_columns
        pub recombine :
            recombined (map (λ m. m.values_at point) (r.committed_polynomials chunks)) ≡ quotient
        pub random_polynomials : IsRandom hides (map (λ e. e.0) trace_columns) random
        pub values_there : values
            ≡ stark_values (point ∷ next ∷ []) (point ∷ []) preprocessed trace chunks random

    -- why commitments to these columns are refused: one of them, that to the words of the chunks,
    -- or, where the scheme hides, that to random polynomials on the trace's domains
    abbrev pub CommitsRefuse : (hides : Bool)
        → (preprocessed trace quotient : List (Dom × RowMajorMatrix V)) → ProverError → Type 0
    CommitsRefuse hides preprocessed trace quotient e =
        t.PreprocessingRefuses preprocessed e ⊎ (r.CommitRefuses trace e
        ⊎ (t.QuotientsRefuse quotient e
        ⊎ (((ldes : List (RowMajorMatrix V)) × t.LdesRefuse ldes e)
        ⊎ ((hides ≡ true) × t.RandomizationRefuses (map (λ e. e.0) trace) e))))

    -- why an opening from the state `c` on is refused, of data whose polynomials extend these
    -- columns, and of random polynomials where the scheme hides
    pub record OpeningRefuses (hides : Bool)
        (preprocessed_columns trace_columns : List (Dom × RowMajorMatrix V))
        (both one : List E) (c : C) (e : ProverError) : Type 0 where
      pub preprocessed : D
      pub trace : D
      pub chunks : D
      pub random : Option D
      pub preprocessed_extends :
          AllZip r.Extends (r.committed_polynomials preprocessed) preprocessed_columns
      pub trace_extends : AllZip r.Extends (r.committed_polynomials trace) trace_columns
      pub random_polynomials : IsRandom hides (map (λ e. e.0) trace_columns) random
      pub refused : r.Refuses (Some 0) c
          (stark_requests both one preprocessed trace chunks random) e

    -- what is known of a STARK's batches once all are committed to: each may be opened, the first
    -- two hold polynomials that extend these columns, and there are random ones on the trace's
    -- domains where the scheme hides
    pub record AreCommitted (hides : Bool)
        (preprocessed_columns trace_columns : List (Dom × RowMajorMatrix V))
        (b : Batches Com Dom D) : Type 0 where
      pub ready : AreReady b
      pub preprocessed_extends : AllZip r.Extends
          (r.committed_polynomials b.preprocessed.prover_data) preprocessed_columns
      pub trace_extends :
          AllZip r.Extends (r.committed_polynomials b.trace.prover_data) trace_columns
      pub random_polynomials : IsRandom hides (map (λ e. e.0) trace_columns)
          (option_map (λ c. c.prover_data) b.random)

module _ {P E : Type 0} where
  -- want of memory, or a commitment's refusal for such a reason
  abbrev pub IsCommitRefusal : (P → Type 0) → StarkError P E → Type 0
  IsCommitRefusal Q (Commit e) = Q e
  IsCommitRefusal Q (Open e) = ⊥
  IsCommitRefusal Q OutOfMemory = ⊤

  -- want of memory, or the refusal of an opening or of its proof for such a reason
  abbrev pub IsOpenRefusal : (P → Type 0) → (E → Type 0) → StarkError P E → Type 0
  IsOpenRefusal Q R (Commit e) = ⊥
  IsOpenRefusal Q R (Open e) = MatchOpenAndVerifyError Q R e
  IsOpenRefusal Q R OutOfMemory = ⊤
