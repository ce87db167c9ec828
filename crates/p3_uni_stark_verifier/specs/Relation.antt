-- When a STARK's proof is accepted, and why it is refused.
use Rattle.std.specs.Prelude.{◌≡◌, ◌≢◌, ◌⊎◌, ◌↔◌, ⊤, ℕ, ◌+◌, ◌^◌, List, All, Result, Err, IsOk}
use Rattle.stark_algebra.specs.Selectors.{zerofier}
use Rattle.p3_challenger_core.specs.Run.{Moves}
use Rattle.p3_pcs.specs.Claims.{Claim}
use Rattle.p3_periodic.specs.Columns.{HasPeriod, FirstFault as FirstPeriodFault}
use Rattle.p3_uni_stark_transcript.specs.Replay.{Replayed, stark_replay}
use Rattle.p3_uni_stark_verifier.specs.declared.proof.Statement.{Statement}
use Rattle.p3_uni_stark_verifier.specs.declared.proof.Proof.{Proof}
use Rattle.p3_uni_stark_verifier.specs.declared.error.VerificationError.{VerificationError}
use Rattle.p3_uni_stark_verifier.specs.declared.error.VerificationError.TheVariants as fault
use Rattle.p3_uni_stark_verifier.specs.Chunks.{hiding_bits}
use Rattle.p3_uni_stark_verifier.specs.Claimed.{preprocessed_index, stark_claims}
use Rattle.p3_uni_stark_verifier.specs.Inputs.{IsReady, InputFault}
use Rattle.p3_uni_stark_verifier.specs.Opened.{trace_generator, ArePeriodic, Agrees}
use Rattle.p3_uni_stark_verifier.specs.Setting.{StarkFields, StarkSetting}
use Rattle.p3_uni_stark_verifier.specs.Shown.{key_commitment, all_commitments, instance_shown}

-- memory aside, a call is Ok exactly where this holds
abbrev pub IsExactly : {X Error : Type 0} → (out_of_memory : Error) (Holds : Type 0)
    → Result X (VerificationError Error) → Type 0
IsExactly out_of_memory Holds result = result ≢ Err fault.OutOfMemory
    → result ≢ Err (fault.InvalidOpeningArgument out_of_memory) → (IsOk result ↔ Holds)

-- both challenges, and the state in which the opening begins: the seed of the constraint system,
-- the public values, the periodic columns and the height is absorbed, `alpha` is drawn after the
-- commitments to preprocessed columns and trace, and `zeta` after those to the quotient and to
-- random polynomials
abbrev pub drawn : {V E C Com Opening : Type 0} → StarkFields V E → Moves C V E Com
    → Statement V Com → Proof E Com Opening → C → Replayed C E
drawn fields moves s p c = stark_replay moves fields.base fields.dimension fields.canonical
    (instance_shown s p) (all_commitments s p) c

module _ {V E C Com Dom D Opening Error ProverError : Type 0}
    (S : StarkSetting V E C Com Dom D Opening Error ProverError)
    (s : Statement V Com) (p : Proof E Com Opening) where
  -- the domain on which all columns are committed to: a scheme that hides adds as many rows
  abbrev pub IsTraceDomain : Dom → Type 0
  IsTraceDomain domain = S.IsSubgroup (p.log_height + hiding_bits S.zk) domain

  -- what is opened at the point `z` and the next one
  abbrev pub claims_at : Dom → (z : E) → List (Claim E Com Dom)
  claims_at domain z = stark_claims domain (key_commitment s.preprocessed) p.commitments
      p.opened_values z (S.fields.ext.mul (trace_generator S.fields p.log_height) z)

  -- the opening is accepted, from the state `c`, of what is claimed at `z`
  pub record IsOpened (z : E) (c : C) : Type 0 where
    pub domain : Dom
    pub is_domain : IsTraceDomain domain
    pub accepted : S.scheme.Accepts (preprocessed_index (key_commitment s.preprocessed)) c
        (claims_at domain z) p.opening_proof

  -- the state in which that opening ends
  pub record IsLastState (z : E) (c last : C) : Type 0 where
    pub domain : Dom
    pub is_domain : IsTraceDomain domain
    pub state : last ≡ S.scheme.last_state (preprocessed_index (key_commitment s.preprocessed)) c
        (claims_at domain z) p.opening_proof

  -- why it is refused
  pub record OpeningFault (z : E) (c : C) (e : Error) : Type 0 where
    pub domain : Dom
    pub is_domain : IsTraceDomain domain
    pub refusal : S.scheme.IsTrueRefusal (preprocessed_index (key_commitment s.preprocessed))
        (claims_at domain z) p.opening_proof c e

  -- what is asked once the challenges are drawn: the point is off the trace's domain, periodic
  -- columns repeat along the trace, the opening is accepted, and the identity holds at the point
  pub record HoldsAt (log : ℕ) (alpha z : E) (c : C) : Type 0 where
    pub off : zerofier S.fields.ext (2 ^ p.log_height) z ≢ S.fields.ext.zero
    pub periods : All (HasPeriod (2 ^ p.log_height)) s.periodic.now
    pub opened : IsOpened z c
    pub periodic : List E
    pub are_periodic : ArePeriodic S.fields p.log_height s.periodic.now z periodic
    pub identity : Agrees S.fields S.zk s p log alpha z periodic

  -- the proof is accepted from the state `c`
  pub record StarkAccepts (c : C) : Type 0 where
    pub log_chunks : ℕ
    pub ready : IsReady S.fields.two_adicity S.fields.dimension S.zk s p log_chunks
    pub holds : let begun = drawn S.fields S.moves s p c in
        HoldsAt log_chunks begun.alpha begun.zeta begun.state

  -- why what is asked at a point is refused
  abbrev pub FaultAt : (log : ℕ) (alpha z : E) (c : C) → VerificationError Error → Type 0
  FaultAt log alpha z c fault.PointOnTraceDomain =
      zerofier S.fields.ext (2 ^ p.log_height) z ≡ S.fields.ext.zero
  FaultAt log alpha z c (fault.InvalidPeriodicColumns f) =
      FirstPeriodFault (2 ^ p.log_height) s.periodic.now f
  FaultAt log alpha z c (fault.InvalidOpeningArgument e) = OpeningFault z c e
  FaultAt log alpha z c fault.OodEvaluationMismatch =
      (periodic : List E) × ArePeriodic S.fields p.log_height s.periodic.now z periodic
      × (¬ Agrees S.fields S.zk s p log alpha z periodic)
  FaultAt log alpha z c fault.OutOfMemory = ⊤
  FaultAt log alpha z c _ = ⊥

  -- why a proof is refused: before anything is absorbed, or at the point that is drawn
  abbrev pub StarkFault : C → VerificationError Error → Type 0
  StarkFault c e = InputFault S.fields.two_adicity S.fields.dimension S.zk s p e
      ⊎ ((log : ℕ) × (IsReady S.fields.two_adicity S.fields.dimension S.zk s p log
      × (let begun = drawn S.fields S.moves s p c in
      FaultAt log begun.alpha begun.zeta begun.state e)))
