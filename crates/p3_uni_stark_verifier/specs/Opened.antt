-- What is asked of opened values.
use Rattle.std.specs.Prelude.{⊤, ℕ, ◌+◌, ◌^◌, Bool, List, map}
use Rattle.std.specs.List.{AllZip}
use Rattle.std.specs.declared.vec.Vec.{Vec}
use Rattle.algebra.specs.Nested.{lists}
use Rattle.p3_periodic.specs.Columns.{FirstFault as FirstPeriodFault}
use Rattle.p3_periodic.specs.Values.{IsValueAt}
use Rattle.p3_uni_stark_identity.specs.Chunks.{chunk_shifts, quotient_at}
use Rattle.p3_uni_stark_identity.specs.Identity.{IsQuotientOf}
use Rattle.p3_uni_stark_verifier.specs.declared.proof.Statement.{Statement}
use Rattle.p3_uni_stark_verifier.specs.declared.proof.Proof.{Proof}
use Rattle.p3_uni_stark_verifier.specs.declared.error.VerificationError.{VerificationError}
use Rattle.p3_uni_stark_verifier.specs.declared.error.VerificationError.TheVariants as fault
use Rattle.p3_uni_stark_verifier.specs.Chunks.{hiding_bits}
use Rattle.p3_uni_stark_verifier.specs.Setting.{StarkFields}
use Rattle.p3_uni_stark_verifier.specs.Shown.{entries_shown}

module _ {V E : Type 0} (fields : StarkFields V E) where
  -- the generator of the domain of a trace of `2^k` rows
  abbrev pub trace_generator : (k : ℕ) → E
  trace_generator k = fields.lift (fields.root k)

  -- these are the values at `z` of periodic columns along `2^k` rows
  abbrev pub ArePeriodic : {A : Type 0} → (k : ℕ) (columns : List (Vec V A)) (z : E)
      (periodic : List E) → Type 0
  ArePeriodic k columns z periodic = AllZip
      (IsValueAt fields.ext (λ j. fields.lift (fields.root j)) k z fields.lift) columns periodic

  module _ {Com Opening : Type 0} (zk : Bool) (s : Statement V Com) (p : Proof E Com Opening) where
    -- the quotient's value at `z`, which the opened values of all chunks recombine to
    abbrev pub opened_quotient : (log : ℕ) (z : E) → E
    opened_quotient log z = quotient_at fields.ext fields.dimension fields.basis p.log_height
        (map fields.lift (chunk_shifts fields.base fields.root fields.generator p.log_height
        (log + hiding_bits zk))) (lists p.opened_values.quotient_chunks.items) z

    -- all constraints together, where they see the opened values, agree with that quotient
    abbrev pub Agrees : (log : ℕ) (alpha z : E) (periodic : List E) → Type 0
    Agrees log alpha z periodic = IsQuotientOf fields.ext fields.lift fields.base.zero s.air.now
        (trace_generator p.log_height) (2 ^ p.log_height) (entries_shown s p periodic) alpha z
        (opened_quotient log z)

-- why periodic columns are refused, of a trace of that height
abbrev pub PeriodicFault : {V A Error : Type 0} → (height : ℕ) → List (Vec V A)
    → VerificationError Error → Type 0
PeriodicFault height columns (fault.InvalidPeriodicColumns f) = FirstPeriodFault height columns f
PeriodicFault height columns fault.OutOfMemory = ⊤
PeriodicFault height columns _ = ⊥

-- why opened values are refused, where this says that they agree
abbrev pub IdentityFault : {Error : Type 0} → (Agree : Type 0) → VerificationError Error → Type 0
IdentityFault Agree fault.OodEvaluationMismatch = ¬ Agree
IdentityFault Agree fault.OutOfMemory = ⊤
IdentityFault Agree _ = ⊥
