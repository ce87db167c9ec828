-- What is known of batches that are committed to and opened.
use Rattle.std.proofs.Common.{◌≡◌, List, [], ◌∷◌, map, Bool, Some, option_map, option_to_list}
use Rattle.std.proofs.Common.{sym, ap, subst, ◌∙◌}
use Rattle.std.specs.List.{AllZip}
use Rattle.p3_matrix.specs.declared.dense.RowMajorMatrix.{RowMajorMatrix}
use Rattle.p3_pcs.specs.Scheme.{Scheme}
use Rattle.p3_pcs.specs.declared.claims.KnownCommitment.{KnownCommitment}
use Rattle.p3_stark_pcs.specs.Scheme.{StarkScheme}
use Rattle.p3_stark_columns.specs.declared.commit.Batches.{Batches}
use Rattle.p3_pcs.specs.declared.headline.OpenAndVerifyError.{OpenAndVerifyError}
use Rattle.p3_pcs.specs.declared.headline.OpenAndVerifyError.TheVariants.{Open, Verify, OutOfMemory}
use Rattle.p3_pcs.specs.Headline.{MatchOpenAndVerifyError}
use Rattle.p3_stark_columns.specs.Asked.{all_known}
use Rattle.p3_stark_columns.specs.Stark.{IsBatch, AreCommitted, AreStarkValues, OpeningRefuses}
use Rattle.p3_stark_columns.specs.Stark.{stark_requests, stark_values, stark_claims}
use Rattle.p3_stark_columns.proofs.Requests.{known_batches}

-- the refusal of an opening, or of its proof, stays one for a reason that follows
pub opening_refused_for : {P E : Type 0} (Q R : P → Type 0) (S : E → Type 0)
    → ((e : P) → Q e → R e) → (e : OpenAndVerifyError P E) → MatchOpenAndVerifyError Q S e
    → MatchOpenAndVerifyError R S e
opening_refused_for Q R S f (Open e) h = f e h
opening_refused_for Q R S f (Verify e) h = h
opening_refused_for Q R S f OutOfMemory h = h

-- the claims of the same commitments at the same points
pub same_claims : {E Com Dom : Type 0} (both pair one lone : List E)
    (known all : List (KnownCommitment Com Dom)) (values : List (List (List (List E))))
    → pair ≡ both → lone ≡ one → all ≡ known
    → stark_claims both one known values ≡ stark_claims pair lone all values
same_claims both pair one lone known all values pair_is lone_is all_are =
    ap (λ zs. stark_claims zs one known values) (sym pair_is)
    ∙ ap (λ zs. stark_claims pair zs known values) (sym lone_is)
    ∙ ap (λ ks. stark_claims pair lone ks values) (sym all_are)

module _ {E C V Dom Com D Proof Error ProverError : Type 0}
    (r : Scheme E C V Dom Com D Proof Error ProverError) (t : StarkScheme E V Dom D ProverError)
    (hides : Bool) (preprocessed_columns trace_columns : List (Dom × RowMajorMatrix V))
    (b : Batches Com Dom D)
    (committed : AreCommitted r t hides preprocessed_columns trace_columns b)
    (both one : List E) (point next : E) (both_are : both ≡ point ∷ next ∷ [])
    (one_is : one ≡ point ∷ []) where
  pub are_values : (recombined : List (List E) → List E) (quotient : List E)
      → recombined (map (λ m. m.values_at point) (r.committed_polynomials b.quotient.prover_data))
      ≡ quotient
      → (known : List (KnownCommitment Com Dom)) → known ≡ all_known b
      → (values : List (List (List (List E))))
      → values ≡ stark_values r both one b.preprocessed.prover_data b.trace.prover_data
      b.quotient.prover_data (option_map (λ c. c.prover_data) b.random)
      → AreStarkValues r t hides preprocessed_columns trace_columns recombined quotient point next
      known values
  are_values recombined quotient recombine known known_are values values_are =
      let random = option_map (λ c. c.prover_data) b.random in
      record {
        preprocessed = b.preprocessed.prover_data;
        trace = b.trace.prover_data;
        chunks = b.quotient.prover_data;
        random = random;
        batches = subst (λ (ks : List (KnownCommitment Com Dom)). AllZip (IsBatch r) ks
            (b.preprocessed.prover_data ∷ b.trace.prover_data ∷ b.quotient.prover_data
            ∷ option_to_list random)) (sym known_are)
            (known_batches r both one t b committed.ready);
        preprocessed_extends = committed.preprocessed_extends;
        trace_extends = committed.trace_extends;
        recombine = recombine;
        random_polynomials = committed.random_polynomials;
        values_there = values_are
            ∙ ap (λ (zs : List E). stark_values r zs one b.preprocessed.prover_data
            b.trace.prover_data b.quotient.prover_data random) both_are
            ∙ ap (λ (zs : List E). stark_values r (point ∷ next ∷ []) zs b.preprocessed.prover_data
            b.trace.prover_data b.quotient.prover_data random) one_is;
      }

  pub opening_refused : (c : C) (e : ProverError)
      → r.Refuses (Some 0) c (stark_requests r both one b.preprocessed.prover_data
      b.trace.prover_data b.quotient.prover_data (option_map (λ c. c.prover_data) b.random)) e
      → OpeningRefuses r t hides preprocessed_columns trace_columns (point ∷ next ∷ [])
      (point ∷ []) c e
  opening_refused c e refused =
      let random = option_map (λ c. c.prover_data) b.random in
      let at_both = subst (λ (zs : List E). r.Refuses (Some 0) c (stark_requests r zs one
      b.preprocessed.prover_data b.trace.prover_data b.quotient.prover_data random) e) both_are
      refused in
      record {
        preprocessed = b.preprocessed.prover_data;
        trace = b.trace.prover_data;
        chunks = b.quotient.prover_data;
        random = random;
        preprocessed_extends = committed.preprocessed_extends;
        trace_extends = committed.trace_extends;
        random_polynomials = committed.random_polynomials;
        refused = subst (λ (zs : List E). r.Refuses (Some 0) c
            (stark_requests r (point ∷ next ∷ []) zs b.preprocessed.prover_data
            b.trace.prover_data b.quotient.prover_data random) e) one_is at_both;
      }
