-- Why there is no proof.
use Rattle.std.specs.Prelude.{◌<◌, ◌^◌, ⊤, ℕ, List, All}
use Rattle.std.specs.declared.vec.Vec.{Vec}
use Rattle.p3_air.specs.declared.air.Air.{Air}
use Rattle.p3_air.specs.Degrees.{node_degrees}
use Rattle.p3_periodic.specs.Columns.{FirstFault}
use Rattle.p3_uni_stark_phases.specs.declared.error.ProvingError.{ProvingError}
use Rattle.p3_uni_stark_phases.specs.declared.error.ProvingError.TheVariants as refusal

module _ {PcsError : Type 0} (Reason : PcsError → Type 0) where
  -- memory, or the refusal of a commitment to the trace for this reason
  abbrev pub TraceRefusal : ProvingError PcsError → Type 0
  TraceRefusal (refusal.Trace e) = Reason e
  TraceRefusal refusal.OutOfMemory = ⊤
  TraceRefusal _ = ⊥

  -- of a reading
  abbrev pub EvaluationRefusal : ProvingError PcsError → Type 0
  EvaluationRefusal (refusal.Evaluation e) = Reason e
  EvaluationRefusal refusal.OutOfMemory = ⊤
  EvaluationRefusal _ = ⊥

  -- of a commitment to a quotient
  abbrev pub QuotientRefusal : ProvingError PcsError → Type 0
  QuotientRefusal (refusal.Quotient e) = Reason e
  QuotientRefusal refusal.OutOfMemory = ⊤
  QuotientRefusal _ = ⊥

  -- of a commitment to random polynomials
  abbrev pub RandomizationRefusal : ProvingError PcsError → Type 0
  RandomizationRefusal (refusal.Randomization e) = Reason e
  RandomizationRefusal refusal.OutOfMemory = ⊤
  RandomizationRefusal _ = ⊥

  -- of an opening
  abbrev pub OpeningRefusal : ProvingError PcsError → Type 0
  OpeningRefusal (refusal.Opening e) = Reason e
  OpeningRefusal refusal.OutOfMemory = ⊤
  OpeningRefusal _ = ⊥

-- memory, or the first periodic column that doesn't repeat along so many rows
abbrev pub PeriodicRefusal : {V A PcsError : Type 0} → (height : ℕ) → List (Vec V A)
    → ProvingError PcsError → Type 0
PeriodicRefusal height columns (refusal.InvalidPeriodicColumns f) = FirstFault height columns f
PeriodicRefusal height columns refusal.OutOfMemory = ⊤
PeriodicRefusal height columns _ = ⊥

-- memory, or a degree that is too large
abbrev pub DegreeRefusal : {V PcsError : Type 0} → Air V → ProvingError PcsError → Type 0
DegreeRefusal air refusal.DegreeTooLarge = ¬ All (λ d. d < 2 ^ 63) (node_degrees air)
DegreeRefusal air refusal.OutOfMemory = ⊤
DegreeRefusal air _ = ⊥
