-- What is drawn, and what a proof is once all is opened.
use Rattle.std.specs.Prelude.{◌≡◌, ◌≢◌, ⊤, ℕ, ◌^◌, Bool, List, Option}
use Rattle.std.specs.Option.{is_some}
use Rattle.algebra.specs.Nested.{lists}
use Rattle.stark_algebra.specs.Selectors.{zerofier}
use Rattle.p3_challenger_core.specs.Run.{Moves, After}
use Rattle.p3_challenger_fs.specs.Turns.{bytes_observed}
use Rattle.p3_pcs.specs.Requests.{Request}
use Rattle.p3_pcs.specs.Scheme.{Scheme}
use Rattle.p3_stark_pcs.specs.Scheme.{StarkScheme}
use Rattle.p3_uni_stark_transcript.specs.Instance.{Instance}
use Rattle.p3_uni_stark_transcript.specs.Replay.{alpha_drawn, zeta_drawn}
use Rattle.p3_uni_stark_transcript.specs.Steps.{stark_stream}
use Rattle.p3_uni_stark_verifier.specs.declared.proof.Commitments.{Commitments}
use Rattle.p3_uni_stark_verifier.specs.declared.proof.Proof.{Proof}
use Rattle.p3_uni_stark_verifier.specs.declared.proof.Statement.{Statement}
use Rattle.p3_uni_stark_verifier.specs.Claimed.{preprocessed_index, stark_claims}
use Rattle.p3_uni_stark_verifier.specs.Opened.{trace_generator}
use Rattle.p3_uni_stark_verifier.specs.Setting.{StarkFields}
use Rattle.p3_uni_stark_verifier.specs.Shown.{key_commitment}
use Rattle.p3_uni_stark_phases.specs.declared.error.ProvingError.{ProvingError}
use Rattle.p3_uni_stark_phases.specs.declared.error.ProvingError.TheVariants as refusal
use Rattle.p3_uni_stark_opening.specs.declared.opening.ColumnData.{ColumnData}
use Rattle.p3_uni_stark_opening.specs.Opened.{if_some, AreOpenable, AreOpened}

-- what the transcript is bound to, of a trace of `2^k` rows
abbrev pub instance_at : {V Com : Type 0} → Statement V Com → (k : ℕ) → Instance V
instance_at s k = record {
  layout = s.air.now.layout;
  nodes = s.air.now.nodes.items;
  constraints = s.air.now.constraints.items;
  public_values = s.public_values.now;
  periodic = lists s.periodic.now;
  log_height = k;
}

module _ {V E C Com : Type 0} (fields : StarkFields V E) (m : Moves C V E Com) where
  -- the first challenge, after the seed and the commitments to preprocessed columns and trace
  abbrev pub first_drawn : Statement V Com → (k : ℕ) (hides : Bool) (trace : Com) → C → After C E
  first_drawn s k hides trace c =
      let known = key_commitment s.preprocessed in
      alpha_drawn m (bytes_observed fields.base m.observe_value c (stark_stream fields.dimension
      fields.canonical (is_some known) hides (instance_at s k))) known trace

  module _ {Dom D Opening Error ProverError : Type 0}
      (r : Scheme E C V Dom Com D Opening Error ProverError) where
    -- a proof of a trace of `2^k` rows, of so many chunks, from the state after the first
    -- challenge: all columns are opened at the point that is drawn, which is off the trace's
    -- domain, and at the next one
    pub record IsFinished (t : StarkScheme E V Dom D ProverError) (k count : ℕ)
        (commitments : Commitments Com) (committed : ColumnData D) (c last : C)
        (proof : Proof E Com Opening) : Type 0 where
      pub log_height : proof.log_height ≡ k
      pub commitments_are : proof.commitments ≡ commitments
      pub off : let begun = zeta_drawn m c commitments.quotient_chunks commitments.random in
          zerofier fields.ext (2 ^ k) begun.value ≢ fields.ext.zero
      pub opened : let begun = zeta_drawn m c commitments.quotient_chunks commitments.random in
          AreOpened r committed begun.value
          (fields.ext.mul (trace_generator fields k) begun.value) proof.opened_values
      pub accepted : (size : ℕ) → AreOpenable r t count size committed
          → (domain : Dom) → r.domain_size domain ≡ size
          → let begun = zeta_drawn m c commitments.quotient_chunks commitments.random in
          let known = if_some r.commitment_of committed.preprocessed in
          r.Accepts (preprocessed_index known) begun.state (stark_claims domain known commitments
          proof.opened_values begun.value
          (fields.ext.mul (trace_generator fields k) begun.value)) proof.opening_proof
      pub state : (size : ℕ) → AreOpenable r t count size committed
          → (domain : Dom) → r.domain_size domain ≡ size
          → let begun = zeta_drawn m c commitments.quotient_chunks commitments.random in
          let known = if_some r.commitment_of committed.preprocessed in
          last ≡ r.last_state (preprocessed_index known) begun.state (stark_claims domain known
          commitments proof.opened_values begun.value
          (fields.ext.mul (trace_generator fields k) begun.value)) proof.opening_proof

    -- why there is none: the point lies in the trace's domain, or the opening is refused
    abbrev pub FinishRefusal : (k : ℕ) → Commitments Com → C → ProvingError ProverError → Type 0
    FinishRefusal k commitments c refusal.PointOnTraceDomain =
        let begun = zeta_drawn m c commitments.quotient_chunks commitments.random in
        zerofier fields.ext (2 ^ k) begun.value ≡ fields.ext.zero
    FinishRefusal k commitments c (refusal.Opening e) =
        let begun = zeta_drawn m c commitments.quotient_chunks commitments.random in
        (index : Option ℕ) × (asked : List (Request D E)) × r.Refuses index begun.state asked e
    FinishRefusal k commitments c refusal.OutOfMemory = ⊤
    FinishRefusal k commitments c _ = ⊥
