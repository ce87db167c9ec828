-- What a refusal that is handed on says.
use Rattle.std.proofs.Common.{◌≡◌, ◌≢◌, ℕ, ◌^◌, List, [], ◌∷◌, Result, Ok, Err, IfErr, sym, subst}
use Rattle.std.proofs.Common.{Bool, inl, inr}
use Rattle.std.specs.Prelude.{IsErrAnd, ◌⊎◌}
use Rattle.algebra.specs.Field.{pow}
use Rattle.p3_matrix.specs.declared.dense.RowMajorMatrix.{RowMajorMatrix}
use Rattle.p3_pcs.specs.Scheme.{Scheme}
use Rattle.p3_stark_pcs.specs.Scheme.{StarkScheme, AreKeptStark}
use Rattle.p3_uni_stark_verifier.specs.declared.proof.Statement.{Statement}
use Rattle.p3_uni_stark_verifier.specs.Setting.{StarkFields}
use Rattle.p3_uni_stark_phases.specs.declared.error.ProvingError.{ProvingError}
use Rattle.p3_uni_stark_phases.specs.declared.error.ProvingError.TheVariants as refusal
use Rattle.p3_uni_stark_phases.specs.Refusals.{TraceRefusal, EvaluationRefusal, QuotientRefusal}
use Rattle.p3_uni_stark_phases.specs.Refusals.{RandomizationRefusal, PeriodicRefusal}
use Rattle.p3_uni_stark_pcs.specs.Rooms.{AreChunksOf}
use Rattle.p3_uni_stark_prover.specs.Refused.{PreparationRefusal, CommitRefusal, IsColumnDomain}

pub handed_on : {A E : Type 0} (r : Result A E) (part : E) (P Q : E → Type 0)
    → IsErrAnd r (λ e. e ≡ part) → P part → ((e : E) → P e → Q e) → IfErr r Q
handed_on (Ok x) part P Q gives p weaker = tt
handed_on (Err e) part P Q gives p weaker = weaker e (subst P (sym gives) p)

module _ {V E Com ProverError : Type 0} (fields : StarkFields V E) (s : Statement V Com) (k : ℕ)
  where
    pub generator_refused : (e : ProvingError ProverError) → (e ≡ refusal.InvalidGenerator)
        × (¬ (pow fields.base fields.generator (2 ^ fields.two_adicity) ≢ fields.base.one))
        → PreparationRefusal fields s k e
    generator_refused e h = subst (λ f. PreparationRefusal fields s k f) (sym h.0) h.1

    pub periodic_refused : (height : ℕ) → height ≡ 2 ^ k → (e : ProvingError ProverError)
        → PeriodicRefusal height s.periodic.now e → PreparationRefusal fields s k e
    periodic_refused height is (refusal.InvalidPeriodicColumns f) h =
        subst (λ n. PeriodicRefusal {PcsError = ProverError} n s.periodic.now
        (refusal.InvalidPeriodicColumns f)) is h
    periodic_refused height is refusal.OutOfMemory h = tt
    periodic_refused height is refusal.DegreeTooLarge h = absurd h
    periodic_refused height is refusal.InvalidGenerator h = absurd h
    periodic_refused height is (refusal.Trace f) h = absurd h
    periodic_refused height is (refusal.Evaluation f) h = absurd h
    periodic_refused height is (refusal.Quotient f) h = absurd h
    periodic_refused height is (refusal.Randomization f) h = absurd h
    periodic_refused height is refusal.PointOnTraceDomain h = absurd h
    periodic_refused height is (refusal.Opening f) h = absurd h

module _ {E C V Dom Com D Opening Error ProverError : Type 0} (fields : StarkFields V E)
    (shift : Dom → V) (log_size : Dom → ℕ) (zk : Bool)
    (old : Scheme E C V Dom Com D Opening Error ProverError)
    (s : StarkScheme E V Dom D ProverError) (Reads : ProverError → Type 0) (k : ℕ)
    (trace : RowMajorMatrix V) where
  abbrev Refusal : ProvingError ProverError → Type 0
  Refusal e = CommitRefusal fields shift log_size zk old s Reads k trace e

  pub trace_refused : (domain : Dom) → IsColumnDomain fields shift log_size zk old s Reads k domain
      → (e : ProvingError ProverError)
      → TraceRefusal (old.CommitRefuses ((domain, trace) ∷ [])) e → Refusal e
  trace_refused domain is (refusal.Trace f) h = (domain, is, h)
  trace_refused domain is refusal.OutOfMemory h = tt
  trace_refused domain is refusal.DegreeTooLarge h = absurd h
  trace_refused domain is refusal.InvalidGenerator h = absurd h
  trace_refused domain is (refusal.InvalidPeriodicColumns f) h = absurd h
  trace_refused domain is (refusal.Evaluation f) h = absurd h
  trace_refused domain is (refusal.Quotient f) h = absurd h
  trace_refused domain is (refusal.Randomization f) h = absurd h
  trace_refused domain is refusal.PointOnTraceDomain h = absurd h
  trace_refused domain is (refusal.Opening f) h = absurd h

  pub reading_refused : (e : ProvingError ProverError) → EvaluationRefusal Reads e → Refusal e
  reading_refused (refusal.Evaluation f) h = h
  reading_refused refusal.OutOfMemory h = tt
  reading_refused refusal.DegreeTooLarge h = absurd h
  reading_refused refusal.InvalidGenerator h = absurd h
  reading_refused (refusal.InvalidPeriodicColumns f) h = absurd h
  reading_refused (refusal.Trace f) h = absurd h
  reading_refused (refusal.Quotient f) h = absurd h
  reading_refused (refusal.Randomization f) h = absurd h
  reading_refused refusal.PointOnTraceDomain h = absurd h
  reading_refused (refusal.Opening f) h = absurd h

  module _ (t : StarkScheme E V Dom D ProverError) (kept : AreKeptStark s t) where
    pub chunks_refused : (d : ℕ) (chunks : List (Dom × RowMajorMatrix V))
        → AreChunksOf fields shift log_size k d chunks → (e : ProvingError ProverError)
        → QuotientRefusal (λ f. t.QuotientsRefuse chunks f
        ⊎ ((ldes : List (RowMajorMatrix V)) × t.LdesRefuse ldes f)) e → Refusal e
    chunks_refused d chunks are (refusal.Quotient f) (inl h) =
        inl (d, chunks, are, kept.quotient_refusals chunks f h)
    chunks_refused d chunks are (refusal.Quotient f) (inr h) =
        inr (h.0, kept.lde_refusals h.0 f h.1)
    chunks_refused d chunks are refusal.OutOfMemory h = tt
    chunks_refused d chunks are refusal.DegreeTooLarge h = absurd h
    chunks_refused d chunks are refusal.InvalidGenerator h = absurd h
    chunks_refused d chunks are (refusal.InvalidPeriodicColumns f) h = absurd h
    chunks_refused d chunks are (refusal.Trace f) h = absurd h
    chunks_refused d chunks are (refusal.Evaluation f) h = absurd h
    chunks_refused d chunks are (refusal.Randomization f) h = absurd h
    chunks_refused d chunks are refusal.PointOnTraceDomain h = absurd h
    chunks_refused d chunks are (refusal.Opening f) h = absurd h

    pub random_refused : (domain : Dom)
        → IsColumnDomain fields shift log_size zk old s Reads k domain
        → (e : ProvingError ProverError)
        → RandomizationRefusal (t.RandomizationRefuses (domain ∷ [])) e → Refusal e
    random_refused domain is (refusal.Randomization f) h =
        (domain, is, kept.random_refusals (domain ∷ []) f h)
    random_refused domain is refusal.OutOfMemory h = tt
    random_refused domain is refusal.DegreeTooLarge h = absurd h
    random_refused domain is refusal.InvalidGenerator h = absurd h
    random_refused domain is (refusal.InvalidPeriodicColumns f) h = absurd h
    random_refused domain is (refusal.Trace f) h = absurd h
    random_refused domain is (refusal.Evaluation f) h = absurd h
    random_refused domain is (refusal.Quotient f) h = absurd h
    random_refused domain is refusal.PointOnTraceDomain h = absurd h
    random_refused domain is (refusal.Opening f) h = absurd h
