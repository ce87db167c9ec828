-- What is accepted, by what holds at the point that was drawn.
use Rattle.std.proofs.Common.{◌≡◌, ℕ, Result, Ok, Err, IfErr, inr, sym, subst}
use Rattle.p3_uni_stark_transcript.specs.Replay.{Replayed}
use Rattle.p3_uni_stark_verifier.specs.declared.proof.Statement.{Statement}
use Rattle.p3_uni_stark_verifier.specs.declared.proof.Proof.{Proof}
use Rattle.p3_uni_stark_verifier.specs.declared.error.VerificationError.{VerificationError}
use Rattle.p3_uni_stark_verifier.specs.Inputs.{IsReady}
use Rattle.p3_uni_stark_verifier.specs.Relation.{IsExactly, drawn, IsLastState, HoldsAt, FaultAt}
use Rattle.p3_uni_stark_verifier.specs.Relation.{StarkAccepts, StarkFault}
use Rattle.p3_uni_stark_verifier.specs.Setting.{StarkSetting}
use Rattle.p3_uni_stark_verifier.proofs.RefusedInputs.{same_log}

module _ {V E C Com Dom D Opening Error ProverError : Type 0}
    (S : StarkSetting V E C Com Dom D Opening Error ProverError)
    (s : Statement V Com) (p : Proof E Com Opening) (c : C) (d : Replayed C E)
    (e : drawn S.fields S.moves s p c ≡ d) (log : ℕ)
    (ready : IsReady S.fields.two_adicity S.fields.dimension S.zk s p log) where
  accepted : HoldsAt S s p log d.alpha d.zeta d.state → StarkAccepts S s p c
  accepted h = record {
    log_chunks = log;
    ready = ready;
    holds = subst (λ (r : Replayed C E). HoldsAt S s p log r.alpha r.zeta r.state) (sym e) h;
  }

  held : StarkAccepts S s p c → HoldsAt S s p log d.alpha d.zeta d.state
  held a = subst (λ (r : Replayed C E). HoldsAt S s p log r.alpha r.zeta r.state) e
      (subst (λ k. HoldsAt S s p k (drawn S.fields S.moves s p c).alpha
      (drawn S.fields S.moves s p c).zeta (drawn S.fields S.moves s p c).state)
      (same_log S.zk s.air.now a.log_chunks log a.ready.chunks ready.chunks) a.holds)

  pub decides : {X : Type 0} (answer : Result X (VerificationError Error)) (m : Error)
      → IsExactly m (HoldsAt S s p log d.alpha d.zeta d.state) answer
      → IsExactly m (StarkAccepts S s p c) answer
  decides answer m exact no_memory no_opening =
      let both = exact no_memory no_opening in
      (λ ok. accepted (both.0 ok), λ a. both.1 (held a))

  pub ends : (last : C) → IsLastState S s p d.zeta d.state last
      → IsLastState S s p (drawn S.fields S.moves s p c).zeta (drawn S.fields S.moves s p c).state
      last
  ends last h = subst (λ (r : Replayed C E). IsLastState S s p r.zeta r.state last) (sym e) h

  pub stands : {X : Type 0} (answer : Result X (VerificationError Error))
      → IfErr answer (FaultAt S s p log d.alpha d.zeta d.state)
      → IfErr answer (StarkFault S s p c)
  stands (Ok x) h = tt
  stands (Err fault) h = inr (
    log,
    (
      ready,
      subst (λ (r : Replayed C E). FaultAt S s p log r.alpha r.zeta r.state fault) (sym e) h,
    ),
  )
