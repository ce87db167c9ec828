-- What is known of committed batches under a later scheme.
use Rattle.std.proofs.Common.{◌≡◌, ℕ, ◌*◌, List, map, sym, ap, ◌∙◌, subst, inr}
use Rattle.std.proofs.Common.{Bool, true, Option, Result, Ok, Err, IfOk, IfErr}
use Rattle.std.specs.List.{AllZip}
use Rattle.p3_pcs.specs.Requests.{Held}
use Rattle.p3_pcs.specs.declared.claims.KnownCommitment.{KnownCommitment}
use Rattle.p3_matrix.specs.declared.dense.RowMajorMatrix.{RowMajorMatrix}
use Rattle.p3_pcs.specs.Scheme.{Scheme, IsLawful, AreKept}
use Rattle.p3_stark_pcs.specs.Evaluations.{HasShape}
use Rattle.p3_stark_pcs.specs.Scheme.{StarkScheme, AreKeptStark}
use Rattle.p3_stark_columns.specs.Stark.{IsBatch, IsRandom, IsCommitRefusal, CommitsRefuse}
use Rattle.p3_stark_columns.specs.declared.error.StarkError.{StarkError}
use Rattle.p3_stark_columns.specs.declared.error.StarkError.TheVariants.{Commit, Open, OutOfMemory}
use Rattle.p3_stark_columns.proofs.Zips.{zip_equal, zip_leads, mapped_twice}

module _ {EF Domain Matrix : Type 0} (size : Domain → ℕ)
    (R : Held EF → Domain × Matrix → Type 0)
    (R_size : (m : Held EF) (e : Domain × Matrix) → R m e → m.size ≡ size e.0) where
  -- the domains of matrices have the sizes of what extends them
  pub domains_fit : (held : List (Held EF)) (columns : List (Domain × Matrix))
      (domains : List Domain) → AllZip R held columns → domains ≡ map (λ e. e.0) columns
      → map size domains ≡ map (λ m. m.size) held
  domains_fit held columns domains extends are =
      ap (λ ds. map size ds) are ∙ mapped_twice (λ e. e.0) size columns
      ∙ sym (zip_equal (λ m. m.size) (λ e. size e.0) held columns
      (zip_leads R (λ m e. m.size ≡ size e.0) R_size held columns extends))

-- what extends columns does so under a later scheme
pub still_extended : {EF Matrix : Type 0} (R S : Held EF → Matrix → Type 0)
    → ((m : Held EF) (e : Matrix) → R m e → S m e) → (held kept : List (Held EF))
    → (columns : List Matrix) → AllZip R held columns → kept ≡ held → AllZip S kept columns
still_extended R S R_S held kept columns extends same =
    subst (λ hs. AllZip S hs columns) (sym same) (zip_leads R S R_S held columns extends)

-- what is known once a batch is committed to
pub batch_made : {E C V Dom Com D Proof Error ProverError : Type 0}
    (r : Scheme E C V Dom Com D Proof Error ProverError) → IsLawful r
    → (columns : List (Dom × RowMajorMatrix V)) (known : KnownCommitment Com Dom) (d : D)
    → r.IsHonest d → r.commitment_of d ≡ known.commitment
    → known.domains.items ≡ map (λ e. e.0) columns
    → AllZip r.Extends (r.committed_polynomials d) columns → IsBatch r known d
batch_made r lawful columns known d honest commitment domains extends = record {
  honest = honest;
  commitment = sym commitment;
  domains = domains_fit r.domain_size r.Extends lawful.extends_size (r.committed_polynomials d)
      columns known.domains.items extends domains;
}

module _ {E C V Dom Com D Proof Error ProverError : Type 0}
    (old new : Scheme E C V Dom Com D Proof Error ProverError) (kept : AreKept old new) where
  -- it is known under a later scheme
  pub batch_kept : (known : KnownCommitment Com Dom) (d : D)
      → IsBatch old known d → IsBatch new known d
  batch_kept known d batch = record {
    honest = kept.honest d batch.honest;
    commitment = batch.commitment ∙ sym (ap (λ (f : D → Com). f d) kept.commitments);
    domains = ap (λ (f : Dom → ℕ). map f known.domains.items) kept.sizes ∙ batch.domains
        ∙ ap (λ (hs : List (Held E)). map (λ m. m.size) hs) (sym (kept.polynomials d));
  }

  pub extends_kept : (columns : List (Dom × RowMajorMatrix V)) (d : D)
      → AllZip old.Extends (old.committed_polynomials d) columns
      → AllZip new.Extends (new.committed_polynomials d) columns
  extends_kept columns d extends = still_extended old.Extends new.Extends kept.extends
      (old.committed_polynomials d) (new.committed_polynomials d) columns extends
      (kept.polynomials d)

-- domains that fit the chunks of a quotient fit what is committed to for them
pub quotient_fits : {EF Dom Matrix : Type 0} (times : ℕ) (old new : Dom → ℕ) → new ≡ old
    → (domains known : List Dom) (columns : List (Dom × Matrix)) (held : List (Held EF))
    → known ≡ domains → map old domains ≡ map (λ e. times * old e.0) columns
    → AllZip (λ m e. m.size ≡ times * new e.0) held columns → map new known ≡ map (λ m. m.size) held
quotient_fits times old new same domains known columns held is fits sizes =
    ap (λ ds. map new ds) is
    ∙ subst (λ f. map f domains ≡ map (λ e. times * f e.0) columns) (sym same) fits
    ∙ sym (zip_equal (λ m. m.size) (λ e. times * new e.0) held columns sizes)

-- what is known once random polynomials are committed to, so many on each domain
pub random_batch : {E C V Dom Com D Proof Error ProverError : Type 0}
    (r : Scheme E C V Dom Com D Proof Error ProverError) (width : ℕ)
    (known : KnownCommitment Com Dom) (d : D) (domains random : List Dom)
    → known.domains.items ≡ domains → random ≡ domains → r.IsHonest d
    → r.commitment_of d ≡ known.commitment
    → AllZip (λ m domain. HasShape (r.domain_size domain) width m) (r.committed_polynomials d)
    random → IsBatch r known d
random_batch {E = E} {Dom = Dom} r width known d domains random known_are random_are honest commitment shapes =
    let HasShapeOn : Held E → Dom → Type 0 = λ m domain.
    HasShape (r.domain_size domain) width m in
    let sizes = zip_leads HasShapeOn (λ m domain. m.size ≡ r.domain_size domain)
    (λ m domain h. h.size) (r.committed_polynomials d) random shapes in
    record {
      honest = honest;
      commitment = sym commitment;
      domains = ap (λ (ds : List Dom). map r.domain_size ds) (known_are ∙ sym random_are)
          ∙ sym (zip_equal (λ (m : Held E). m.size) r.domain_size (r.committed_polynomials d)
          random sizes);
    }

-- random polynomials on domains are such on the same domains
pub random_on : {E C V Dom Com D Proof Error ProverError : Type 0}
    (r : Scheme E C V Dom Com D Proof Error ProverError) (t : StarkScheme E V Dom D ProverError)
    (hides : Bool) (random : Option D) (known domains : List Dom) → known ≡ domains
    → IsRandom r t hides known random → IsRandom r t hides domains random
random_on r t hides random known domains are h =
    subst (λ ds. IsRandom r t hides ds random) are h

-- what is known of an answer is known of the value that it is
pub ok_of : {T F : Type 0} (answer : Result T F) (x : T) (P : T → Type 0) → answer ≡ Ok x
    → IfOk answer P → P x
ok_of answer x P is h = subst (λ r. IfOk r P) is h

-- a commitment's refusal stays one for a reason that follows
pub refused_for : {P E : Type 0} (Q R : P → Type 0) → ((e : P) → Q e → R e) → (e : StarkError P E)
    → IsCommitRefusal Q e → IsCommitRefusal R e
refused_for Q R f (Commit e) h = f e h
refused_for Q R f (Open e) h = h
refused_for Q R f OutOfMemory h = tt

-- the refusal of this commitment is one for a reason that follows
pub refusal_of : {T P E : Type 0} (answer : Result T P) (Q R : P → Type 0) → IfErr answer Q
    → ((e : P) → Q e → R e) → (e : StarkError P E) → IsCommitRefusal (λ x. answer ≡ Err x) e
    → IsCommitRefusal R e
refusal_of answer Q R known leads e h =
    refused_for (λ x. answer ≡ Err x) R
    (λ x is. leads x (subst (λ r. IfErr r Q) is known)) e h

-- a refusal of random polynomials is one of a STARK's commitments
pub random_refused : {E C V Dom Com D Proof Error ProverError : Type 0}
    (r : Scheme E C V Dom Com D Proof Error ProverError)
    (old first second new : StarkScheme E V Dom D ProverError) → AreKeptStark old first
    → AreKeptStark first second → AreKeptStark second new → (hides : Bool)
    → (preprocessed trace chunks : List (Dom × RowMajorMatrix V)) (domains : List Dom)
    → domains ≡ map (λ e. e.0) trace → (e : ProverError)
    → (hides ≡ true) × new.RandomizationRefuses domains e
    → CommitsRefuse r old hides preprocessed trace chunks e
random_refused r old first second new kept since last hides preprocessed trace chunks domains are e h =
    let on_trace = subst (λ ds. new.RandomizationRefuses ds e) are h.1 in
    inr (inr (inr (inr (
      h.0,
      kept.random_refusals (map (λ e. e.0) trace) e
          (since.random_refusals (map (λ e. e.0) trace) e
          (last.random_refusals (map (λ e. e.0) trace) e on_trace)),
    ))))

-- random polynomials may be committed to still, on the same domains
pub still_random : {E V Dom D ProverError : Type 0}
    (old first second new : StarkScheme E V Dom D ProverError) → AreKeptStark old first
    → AreKeptStark first second → AreKeptStark second new → (hides : Bool)
    → (domains known : List Dom) → known ≡ domains → (hides ≡ true → old.CanRandomize domains)
    → hides ≡ true → new.CanRandomize known
still_random old first second new kept since last hides domains known are can zk =
    subst (λ ds. new.CanRandomize ds) (sym are) (last.randomizable domains
    (since.randomizable domains (kept.randomizable domains (can zk))))
