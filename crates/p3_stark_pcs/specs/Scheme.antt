-- What a scheme offers to a STARK beside its openings, named once.
use Rattle.std.proofs.Common.{refl, sym, subst}
use Rattle.std.specs.Prelude.{◌≡◌, ◌↔◌, ◌<◌, ℕ, List, Option, None, map, length}
use Rattle.std.specs.List.{AllZip}
use Rattle.std.specs.declared.alloc.Global.{Global}
use Rattle.std.specs.declared.vec.Vec.{Vec}
use Rattle.p3_matrix.specs.declared.dense.RowMajorMatrix.{RowMajorMatrix}
use Rattle.p3_pcs.specs.Claims.{Claim}
use Rattle.p3_pcs.specs.Requests.{Held, HasColumns, Request}
use Rattle.p3_pcs.specs.Scheme.{Scheme, CanBeOpened}
use Rattle.p3_stark_pcs.specs.Heights.{IsTraceHeight}
use Rattle.p3_stark_pcs.specs.Preprocessing.{AreOpenableAt}
use Rattle.p3_stark_pcs.specs.Evaluations.{held_at, ShowsFirst}

-- Over points of a field `E`, what a scheme that commits to matrices of elements `V` on domains
-- `Dom` has for a STARK beside its openings.
pub record StarkScheme (E V Dom D ProverError : Type 0) : Type 1 where
  -- the logarithms of the least and of the greatest height of a trace
  pub least_log_height : ℕ
  pub greatest_log_height : ℕ
  -- a datum may be opened as preprocessing
  pub CanOpenPreprocessed : D → Type 0
  -- requests may be opened, where the index names the preprocessed one
  pub CanOpenAt : Option ℕ → List (Request D E) → Type 0
  -- a commitment to these preprocessed columns may be refused for this reason
  pub PreprocessingRefuses : List (Dom × RowMajorMatrix V) → ProverError → Type 0
  -- words may be committed to as they are
  pub CanCommitLdes : List (RowMajorMatrix V) → Type 0
  -- what is then committed to may be opened
  pub CanOpenLdes : List (RowMajorMatrix V) → Type 0
  -- words are of low degree
  pub AreLdes : List (RowMajorMatrix V) → Type 0
  -- a commitment to these words may be refused for this reason
  pub LdesRefuse : List (RowMajorMatrix V) → ProverError → Type 0
  -- what a matrix of words is a commitment to, without columns that only hide the others
  pub polynomials_of : RowMajorMatrix V → Held E
  -- chunks of a quotient, so many, may be extended
  pub CanExtend : List (Dom × RowMajorMatrix V) → ℕ → Type 0
  -- the words are what the scheme extends these chunks to
  pub ExtendQuotients : List (Dom × RowMajorMatrix V) → List (RowMajorMatrix V) → Type 0
  -- an extension of these chunks may be refused for this reason
  pub QuotientsRefuse : List (Dom × RowMajorMatrix V) → ProverError → Type 0
  -- a datum is of this scheme, opened or not
  pub IsReadable : D → Type 0
  -- the matrix of a datum at an index may be read on a domain, and so may all its columns
  pub CanEvaluate : D → ℕ → Dom → Type 0
  pub CanEvaluateWhole : D → ℕ → Dom → Type 0
  -- the matrix of a datum at an index holds words of low degree
  pub IsHonestAt : D → ℕ → Type 0
  -- what a datum is a commitment to, with the columns that only hide others
  pub whole_polynomials : D → List (Held E)
  -- random polynomials may be committed to on these domains
  pub CanRandomize : List Dom → Type 0
  -- how many random polynomials are committed to on each domain
  pub random_columns : ℕ
  -- a commitment to random polynomials may be refused for this reason
  pub RandomizationRefuses : List Dom → ProverError → Type 0

module _ {E C V Dom Com D Proof Error ProverError : Type 0}
    (r : Scheme E C V Dom Com D Proof Error ProverError)
    (t : StarkScheme E V Dom D ProverError) where
  -- What holds of every scheme: the heights for which there are domains, which requests may be
  -- opened, which data may be read, before and after an opening, and what is read of it.
  pub record IsLawfulStark : Type 0 where
    pub heights : (n : ℕ)
        → r.HasDomain n ↔ IsTraceHeight t.least_log_height t.greatest_log_height n
    pub openable : (index : Option ℕ) (asked : List (Request D E))
        → AreOpenableAt r.CanOpen t.CanOpenPreprocessed r.committed_polynomials index asked
        → t.CanOpenAt index asked
    pub openable_readable : (d : D) → r.CanOpen d → t.IsReadable d
    pub preprocessed_readable : (d : D) → t.CanOpenPreprocessed d → t.IsReadable d
    pub opened_readable : (d : D) → t.IsReadable d → t.IsReadable (r.after_opening d)
    pub preprocessed_again : (d : D)
        → t.CanOpenPreprocessed d → t.CanOpenPreprocessed (r.after_opening d)
    pub evaluable : (d : D) (index : ℕ) (domain : Dom)
        → t.IsReadable d → HasColumns (held_at (r.committed_polynomials d) index)
        → t.CanEvaluate d index domain
    pub evaluable_whole : (d : D) (index : ℕ) (domain : Dom)
        → t.IsReadable d → HasColumns (held_at (t.whole_polynomials d) index)
        → t.CanEvaluateWhole d index domain
    pub honest_at : (d : D) (index : ℕ)
        → r.IsHonest d → index < length (r.committed_polynomials d) → t.IsHonestAt d index
    pub whole : (d : D) → AllZip ShowsFirst (r.committed_polynomials d) (t.whole_polynomials d)

  -- what holds of a scheme that doesn't hide: the index says nothing, and no column hides others
  pub record IsPlain : Type 0 where
    pub of_data : (d : D) → t.CanOpenPreprocessed d ↔ r.CanOpen d
    pub commit : (evaluations : List (Dom × RowMajorMatrix V)) (e : ProverError)
        → t.PreprocessingRefuses evaluations e ↔ r.CommitRefuses evaluations e
    pub openable : (index : Option ℕ) (asked : List (Request D E))
        → CanBeOpened r asked → t.CanOpenAt index asked
    pub checks : (index : Option ℕ) (asked : List (Request D E))
        → r.PassesChecks index asked ↔ r.PassesChecks None asked
    pub refuses : (index : Option ℕ) (c : C) (asked : List (Request D E)) (e : ProverError)
        → r.Refuses index c asked e ↔ r.Refuses None c asked e
    pub accepts : (index : Option ℕ) (c : C) (claims : List (Claim E Com Dom)) (proof : Proof)
        → r.Accepts index c claims proof ↔ r.Accepts None c claims proof
    pub state : (index : Option ℕ) (c : C) (claims : List (Claim E Com Dom)) (proof : Proof)
        → r.last_state index c claims proof ≡ r.last_state None c claims proof
    pub faults : (index : Option ℕ) (claims : List (Claim E Com Dom)) (proof : Proof) (c : C)
        (e : Error) → r.IsTrueRefusal index claims proof c e ↔ r.IsTrueRefusal None claims proof c e
    pub evaluable : (d : D) (index : ℕ) (domain : Dom)
        → t.CanEvaluateWhole d index domain ↔ t.CanEvaluate d index domain
    pub whole : (d : D) → t.whole_polynomials d ≡ r.committed_polynomials d

-- what is known of data under the old scheme is known under the new one
pub record AreKeptStark {E V Dom D ProverError : Type 0}
    (old new : StarkScheme E V Dom D ProverError) : Type 0 where
  pub preprocessed : (d : D) → old.CanOpenPreprocessed d → new.CanOpenPreprocessed d
  pub readable : (d : D) → old.IsReadable d → new.IsReadable d
  pub extendable : (evaluations : List (Dom × RowMajorMatrix V)) (num_chunks : ℕ)
      → old.CanExtend evaluations num_chunks → new.CanExtend evaluations num_chunks
  pub words : (m : RowMajorMatrix V) → new.polynomials_of m ≡ old.polynomials_of m
  pub committable : (ldes : List (RowMajorMatrix V))
      → old.CanCommitLdes ldes → new.CanCommitLdes ldes
  pub openable : (ldes : List (RowMajorMatrix V)) → old.CanOpenLdes ldes → new.CanOpenLdes ldes
  pub low_degree : (ldes : List (RowMajorMatrix V)) → old.AreLdes ldes → new.AreLdes ldes
  pub randomizable : (domains : List Dom) → old.CanRandomize domains → new.CanRandomize domains
  pub random : new.random_columns ≡ old.random_columns
  pub preprocessing_refusals : (evaluations : List (Dom × RowMajorMatrix V)) (e : ProverError)
      → new.PreprocessingRefuses evaluations e → old.PreprocessingRefuses evaluations e
  pub quotient_refusals : (evaluations : List (Dom × RowMajorMatrix V)) (e : ProverError)
      → new.QuotientsRefuse evaluations e → old.QuotientsRefuse evaluations e
  pub lde_refusals : (ldes : List (RowMajorMatrix V)) (e : ProverError)
      → new.LdesRefuse ldes e → old.LdesRefuse ldes e
  pub random_refusals : (domains : List Dom) (e : ProverError)
      → new.RandomizationRefuses domains e → old.RandomizationRefuses domains e

-- a scheme that stays as it is keeps what is known
pub still_kept_stark : {E V Dom D ProverError : Type 0} (t : StarkScheme E V Dom D ProverError)
    → AreKeptStark t t
still_kept_stark t = record {
  preprocessed = λ d h. h;
  readable = λ d h. h;
  extendable = λ evaluations num_chunks h. h;
  words = λ m. refl;
  committable = λ ldes h. h;
  openable = λ ldes h. h;
  low_degree = λ ldes h. h;
  randomizable = λ domains h. h;
  random = refl;
  preprocessing_refusals = λ evaluations e h. h;
  quotient_refusals = λ evaluations e h. h;
  lde_refusals = λ ldes e h. h;
  random_refusals = λ domains e h. h;
}

-- the same where two schemes are equal
pub same_kept_stark : {S E V Dom D ProverError : Type 0} (old new : S) → new ≡ old
    → (rules : S → StarkScheme E V Dom D ProverError) → AreKeptStark (rules old) (rules new)
same_kept_stark old new same rules =
    subst (λ s. AreKeptStark (rules old) (rules s)) (sym same) (still_kept_stark (rules old))
