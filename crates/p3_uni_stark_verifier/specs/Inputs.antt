-- What is asked of a statement and of a proof before anything is absorbed.
use Rattle.std.specs.Prelude.{◌≡◌, ◌≢◌, ◌==◌, not, ⊤, ℕ, ◌+◌, ◌<◌, ◌≤◌, ◌^◌, Bool}
use Rattle.std.specs.Prelude.{length, All, if◌then◌else◌}
use Rattle.std.specs.Option.{is_some}
use Rattle.algebra.specs.Nested.{lists}
use Rattle.p3_air.specs.declared.air.Air.{Air}
use Rattle.p3_air.specs.declared.air.AirLayout.{AirLayout}
use Rattle.p3_air.specs.Degrees.{node_degrees}
use Rattle.p3_air.specs.WellFormed.{IsWellFormed, FirstFault}
use Rattle.p3_uni_stark_verifier.specs.declared.proof.Statement.{Statement}
use Rattle.p3_uni_stark_verifier.specs.declared.proof.OpenedValues.{OpenedValues}
use Rattle.p3_uni_stark_verifier.specs.declared.proof.Proof.{Proof}
use Rattle.p3_uni_stark_verifier.specs.declared.error.VerificationError.{VerificationError}
use Rattle.p3_uni_stark_verifier.specs.declared.error.VerificationError.TheVariants as fault
use Rattle.p3_uni_stark_verifier.specs.Chunks.{hiding_bits, NeedsChunks}
use Rattle.p3_uni_stark_verifier.specs.Shown.{HasHeight}

-- at each point there are as many values as columns
pub record HasColumnWidths {E : Type 0} (layout : AirLayout) (opened : OpenedValues E) : Type 0
  where
    pub trace_local : length opened.trace_local.items ≡ layout.width
    pub trace_next : length opened.trace_next.items ≡ layout.width
    pub preprocessed_local : length opened.preprocessed_local.items ≡ layout.preprocessed_width
    pub preprocessed_next : length opened.preprocessed_next.items ≡ layout.preprocessed_width

-- why a number of chunks is refused
abbrev pub DegreeFault : {V Error : Type 0} → Air V → VerificationError Error → Type 0
DegreeFault air fault.DegreeTooLarge = ¬ All (λ d. d < 2 ^ 63) (node_degrees air)
DegreeFault air fault.OutOfMemory = ⊤
DegreeFault air _ = ⊥

module _ {V E Com Opening : Type 0} (two_adicity dimension : ℕ) (zk : Bool)
    (s : Statement V Com) (p : Proof E Com Opening) where
  -- there are domains for the chunks, of which there are `2^log` or twice as many, the height is
  -- that of the preprocessed columns, and each list has its length
  pub record HasProofShape (log : ℕ) : Type 0 where
    pub room : p.log_height + (log + hiding_bits zk) ≤ two_adicity
    pub preprocessed_height : HasHeight s.preprocessed p.log_height
    pub columns : HasColumnWidths s.air.now.layout p.opened_values
    pub chunk_count : length p.opened_values.quotient_chunks.items
        ≡ 2 ^ (log + hiding_bits zk)
    pub chunk_widths : All (λ values. length values ≡ dimension)
        (lists p.opened_values.quotient_chunks.items)
    pub random : length p.opened_values.random.items ≡ (if zk then dimension else 0)

  -- what is asked before anything is absorbed: the constraint system is well formed, the statement
  -- has what it speaks of, the proof has its shape, and there are random polynomials exactly where
  -- the scheme hides
  pub record IsReady (log : ℕ) : Type 0 where
    pub well_formed : IsWellFormed s.air.now
    pub public_count : length s.public_values.now ≡ s.air.now.layout.num_public_values
    pub periodic_count : length s.periodic.now ≡ s.air.now.layout.num_periodic_columns
    pub preprocessed : is_some s.preprocessed
        ≡ not (s.air.now.layout.preprocessed_width == 0)
    pub chunks : NeedsChunks zk s.air.now log
    pub shape : HasProofShape log
    pub randomized : is_some p.commitments.random ≡ zk

  -- why that is refused
  abbrev pub InputFault : {Error : Type 0} → VerificationError Error → Type 0
  InputFault (fault.InvalidAir f) = FirstFault s.air.now f
  InputFault fault.DegreeTooLarge = ¬ All (λ d. d < 2 ^ 63) (node_degrees s.air.now)
  InputFault fault.InvalidPublicValues =
      length s.public_values.now ≢ s.air.now.layout.num_public_values
  InputFault fault.InvalidPeriodicCount =
      length s.periodic.now ≢ s.air.now.layout.num_periodic_columns
  InputFault fault.InvalidPreprocessed =
      is_some s.preprocessed ≢ not (s.air.now.layout.preprocessed_width == 0)
  InputFault fault.InvalidProofShape =
      (log : ℕ) × (NeedsChunks zk s.air.now log × (¬ HasProofShape log))
  InputFault fault.RandomizationError = is_some p.commitments.random ≢ zk
  InputFault fault.OutOfMemory = ⊤
  InputFault _ = ⊥
