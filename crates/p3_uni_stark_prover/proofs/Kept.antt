-- What is known of committed data under a later state of the scheme.
use Rattle.std.proofs.Common.{if◌then◌else◌}
use Rattle.std.proofs.Common.{◌≡◌, ℕ, ◌*◌, List, [], ◌∷◌, map, length, refl, sym, ap, subst, ◌∙◌, Bool}
use Rattle.std.proofs.Common.{Option, None, Some}
use Rattle.std.specs.List.{AllZip}
use Rattle.p3_matrix.specs.declared.dense.RowMajorMatrix.{RowMajorMatrix}
use Rattle.p3_matrix.specs.Matrix.{matrix_width}
use Rattle.p3_pcs.specs.Requests.{Held}
use Rattle.p3_pcs.specs.Scheme.{Scheme, AreKept}
use Rattle.p3_stark_pcs.specs.Evaluations.{HoldsEvaluations, held_at}
use Rattle.p3_stark_pcs.specs.Scheme.{StarkScheme, AreKeptStark}
use Rattle.p3_uni_stark_verifier.specs.declared.proof.PreprocessedVerifierKey.{
  PreprocessedVerifierKey,
}
use Rattle.p3_uni_stark_verifier.specs.declared.proof.Statement.{Statement}
use Rattle.p3_uni_stark_verifier.specs.Setting.{StarkFields}
use Rattle.p3_uni_stark_phases.specs.Evaluated.{AreRead, AreReadIfAny}
use Rattle.p3_uni_stark_phases.specs.Commits.{IsCommittedTo, ExtendsOne, HoldsTrace, HoldsChunks}
use Rattle.p3_uni_stark_prover.specs.Committed.{IsChunked}
use Rattle.p3_uni_stark_prover.specs.Held.{HoldPreprocessed, HavePreprocessedRows}
use Rattle.p3_uni_stark_prover.specs.Quotients.{IsQuotientOn}

-- pairs of what a list is mapped to
zip_mapped : {A B X : Type 0} (f : X → A) (R : A → B → Type 0) (xs : List X) (ys : List B)
    → AllZip (λ x y. R (f x) y) xs ys → AllZip R (map f xs) ys
zip_mapped f R [] [] h = tt
zip_mapped f R [] (y ∷ ys) h = absurd h
zip_mapped f R (x ∷ xs) [] h = absurd h
zip_mapped f R (x ∷ xs) (y ∷ ys) h = (h.0, zip_mapped f R xs ys h.1)

-- pairs of which more is known
pub zip_weaker : {A B : Type 0} (R S : A → B → Type 0) → ((x : A) (y : B) → R x y → S x y)
    → (xs : List A) (ys : List B) → AllZip R xs ys → AllZip S xs ys
zip_weaker R S f [] [] h = tt
zip_weaker R S f [] (y ∷ ys) h = absurd h
zip_weaker R S f (x ∷ xs) [] h = absurd h
zip_weaker R S f (x ∷ xs) (y ∷ ys) h = (f x y h.0, zip_weaker R S f xs ys h.1)

pub twice_mapped : {X A B : Type 0} (f : X → A) (g : A → B) (xs : List X)
    → map g (map f xs) ≡ map (λ x. g (f x)) xs
twice_mapped f g [] = refl
twice_mapped f g (x ∷ xs) = ap (λ ys. g (f x) ∷ ys) (twice_mapped f g xs)

module _ {E C V Dom Com D Opening Error ProverError : Type 0}
    (r : Scheme E C V Dom Com D Opening Error ProverError) (t : StarkScheme E V Dom D ProverError)
    (zk : Bool) (recombined : List Dom → List (List E) → E → List E)
    (chunk_polynomials : Dom × RowMajorMatrix V → Held E) where
  -- once words are known to be as wide as their chunks
  pub chunked : (chunks : List (Dom × RowMajorMatrix V)) (commitment : Com) (d : D)
      → HoldsChunks r t zk recombined chunk_polynomials chunks commitment d
      → ((ldes : List (RowMajorMatrix V)) → t.ExtendQuotients chunks ldes
      → AllZip (λ lde e. (z : E)
      → length ((t.polynomials_of lde).values_at z) ≡ matrix_width e.1) ldes chunks)
      → IsChunked r (if zk then 2 else 1) recombined chunk_polynomials chunks commitment d
  chunked chunks commitment d h widths = record {
    committed = h.committed;
    openable = h.openable;
    widths = subst (λ hs. AllZip (λ (m : Held E) e. (z : E)
        → length (m.values_at z) ≡ matrix_width e.1) hs chunks) (sym h.polynomials)
        (zip_mapped t.polynomials_of (λ (m : Held E) e. (z : E)
        → length (m.values_at z) ≡ matrix_width e.1) h.words chunks (widths h.words h.extended));
    sizes = subst (λ hs. AllZip (λ (m : Held E) e.
        m.size ≡ (if zk then 2 else 1) * r.domain_size e.0) hs chunks) (sym h.polynomials)
        (zip_mapped t.polynomials_of (λ (m : Held E) e.
        m.size ≡ (if zk then 2 else 1) * r.domain_size e.0) h.words chunks h.sizes);
    recombine = λ z.
        ap (λ values. recombined (map (λ e. e.0) chunks) values z)
        (ap (λ (hs : List (Held E)). map (λ m. m.values_at z) hs) h.polynomials
        ∙ twice_mapped t.polynomials_of (λ (m : Held E). m.values_at z) h.words)
        ∙ h.recombine z;
  }

module _ {E C V Dom Com D Opening Error ProverError : Type 0}
    (old new : Scheme E C V Dom Com D Opening Error ProverError) (kept : AreKept old new) where
  committed_kept : (commitment : Com) (d : D) → IsCommittedTo old commitment d
      → IsCommittedTo new commitment d
  committed_kept commitment d h = record {
    honest = kept.honest d h.honest;
    commitment = ap (λ (f : D → Com). f d) kept.commitments ∙ h.commitment;
  }

  pub extends_kept : (domain : Dom) (matrix : RowMajorMatrix V) (d : D) → ExtendsOne old domain matrix d
      → ExtendsOne new domain matrix d
  extends_kept domain matrix d h =
      subst (λ hs. AllZip new.Extends hs ((domain, matrix) ∷ [])) (sym (kept.polynomials d))
      (zip_weaker old.Extends new.Extends kept.extends (old.committed_polynomials d)
      ((domain, matrix) ∷ []) h)

  pub trace_kept : (domain : Dom) (trace : RowMajorMatrix V) (commitment : Com) (d : D)
      → HoldsTrace old domain trace commitment d → HoldsTrace new domain trace commitment d
  trace_kept domain trace commitment d h = record {
    committed = committed_kept commitment d h.committed;
    openable = kept.openable d h.openable;
    extends = extends_kept domain trace d h.extends;
  }

  module _ (s t : StarkScheme E V Dom D ProverError) (also : AreKeptStark s t) where
    pub preprocessed_kept : (IsDomain Other : Dom → Type 0)
        → ((x : Dom) → IsDomain x → Other x) → (k width : ℕ)
        (key : Option (PreprocessedVerifierKey Com)) (d : Option D)
        → HoldPreprocessed old s IsDomain k width key d → HoldPreprocessed new t Other k width key d
    preprocessed_kept IsDomain Other f k width None None h = tt
    preprocessed_kept IsDomain Other f k width None (Some d) h = absurd h
    preprocessed_kept IsDomain Other f k width (Some key) None h = absurd h
    preprocessed_kept IsDomain Other f k width (Some key) (Some d) h = record {
      committed = committed_kept key.commitment d h.committed;
      openable = also.preprocessed d h.openable;
      log_height = h.log_height;
      columns = h.columns;
      width = h.width;
      height = h.height;
      domain = h.domain;
      is_domain = f h.domain h.is_domain;
      extends = extends_kept h.domain h.columns d h.extends;
    }

  pub chunks_kept : (times : ℕ) (recombined : List Dom → List (List E) → E → List E)
      (chunk_polynomials : Dom × RowMajorMatrix V → Held E)
      (chunks : List (Dom × RowMajorMatrix V)) (commitment : Com) (d : D)
      → IsChunked old times recombined chunk_polynomials chunks commitment d
      → IsChunked new times recombined chunk_polynomials chunks commitment d
  chunks_kept times recombined chunk_polynomials chunks commitment d h = record {
    committed = committed_kept commitment d h.committed;
    openable = kept.openable d h.openable;
    widths = subst (λ hs. AllZip (λ (m : Held E) e. (z : E)
        → length (m.values_at z) ≡ matrix_width e.1) hs chunks) (sym (kept.polynomials d)) h.widths;
    sizes = subst (λ (f : Dom → ℕ). AllZip (λ (m : Held E) e. m.size ≡ times * f e.0)
        (new.committed_polynomials d) chunks) (sym kept.sizes)
        (subst (λ hs. AllZip (λ (m : Held E) e. m.size ≡ times * old.domain_size e.0) hs chunks)
        (sym (kept.polynomials d)) h.sizes);
    recombine = λ z. ap (λ (hs : List (Held E)). recombined (map (λ e. e.0) chunks)
        (map (λ m. m.values_at z) hs) z) (kept.polynomials d) ∙ h.recombine z;
  }

  module _ (embed : V → E) (point : Dom → ℕ → V) (coset : Dom) where
    pub read_kept : (d : D) (values : RowMajorMatrix V) → AreRead old embed point coset d values
        → AreRead new embed point coset d values
    read_kept d values h =
        subst (λ (f : Dom → ℕ). HoldsEvaluations embed (λ i. embed (point coset i)) (f coset)
        (Held.values_at (held_at (new.committed_polynomials d) 0)) values) (sym kept.sizes)
        (subst (λ (hs : List (Held E)). HoldsEvaluations embed (λ i. embed (point coset i))
        (old.domain_size coset) (Held.values_at (held_at hs 0)) values) (sym (kept.polynomials d)) h)

    pub read_if_kept : (d : Option D) (values : Option (RowMajorMatrix V))
        → AreReadIfAny old embed point coset d values → AreReadIfAny new embed point coset d values
    read_if_kept None None h = tt
    read_if_kept None (Some values) h = absurd h
    read_if_kept (Some d) None h = absurd h
    read_if_kept (Some d) (Some values) h = read_kept d values h

    pub quotient_kept : (fields : StarkFields V E) (coefficients : E → List V) (shift : Dom → V)
        (log_size : Dom → ℕ) (s : Statement V Com) (periodic : List (List V)) (trace : D)
        (preprocessed : Option D) (k d : ℕ) (alpha : E) (chunks : List (Dom × RowMajorMatrix V))
        → IsQuotientOn fields coefficients shift log_size old embed point coset s periodic trace
        preprocessed k d alpha chunks
        → IsQuotientOn fields coefficients shift log_size new embed point coset s periodic trace
        preprocessed k d alpha chunks
    quotient_kept fields coefficients shift log_size s periodic trace preprocessed k d alpha chunks
        h = record {
          trace_rows = h.trace_rows;
          trace_read = read_kept trace h.trace_rows h.trace_read;
          preprocessed_rows = h.preprocessed_rows;
          preprocessed_read = read_if_kept preprocessed h.preprocessed_rows h.preprocessed_read;
          pairs = h.pairs;
          rows_are = h.rows_are;
        }

  pub rows_kept : (IsDomain Other : Dom → Type 0) → ((x : Dom) → IsDomain x → Other x)
      → (given : List (List V)) (d : Option D)
      → HavePreprocessedRows old IsDomain given d → HavePreprocessedRows new Other given d
  rows_kept IsDomain Other f given None h = tt
  rows_kept IsDomain Other f given (Some d) h =
      (h.0, f h.0 h.1, h.2, h.3, extends_kept h.0 h.2 d h.4)

-- what is known of a STARK's data and kept under the next scheme is known under a later one
pub kept_stark_since : {E V Dom D ProverError : Type 0}
    (old new later : StarkScheme E V Dom D ProverError)
    → AreKeptStark old new → AreKeptStark new later → AreKeptStark old later
kept_stark_since old new later kept since = record {
  preprocessed = λ d h. since.preprocessed d (kept.preprocessed d h);
  readable = λ d h. since.readable d (kept.readable d h);
  extendable = λ es n h. since.extendable es n (kept.extendable es n h);
  words = λ m. since.words m ∙ kept.words m;
  committable = λ ldes h. since.committable ldes (kept.committable ldes h);
  openable = λ ldes h. since.openable ldes (kept.openable ldes h);
  low_degree = λ ldes h. since.low_degree ldes (kept.low_degree ldes h);
  randomizable = λ ds h. since.randomizable ds (kept.randomizable ds h);
  random = since.random ∙ kept.random;
  preprocessing_refusals = λ es e h. kept.preprocessing_refusals es e
      (since.preprocessing_refusals es e h);
  quotient_refusals = λ es e h. kept.quotient_refusals es e (since.quotient_refusals es e h);
  lde_refusals = λ ldes e h. kept.lde_refusals ldes e (since.lde_refusals ldes e h);
  random_refusals = λ ds e h. kept.random_refusals ds e (since.random_refusals ds e h);
}
