-- Why what is asked at a point is refused, and that it then doesn't hold.
use Rattle.std.proofs.Common.{◌≡◌, ◌↔◌, ◌^◌, ℕ, Bool, List, Result, Ok, Err, IsOk, IfErr, refl, subst}
use Rattle.p3_uni_stark_verifier.specs.declared.proof.Statement.{Statement}
use Rattle.p3_uni_stark_verifier.specs.declared.proof.Proof.{Proof}
use Rattle.p3_uni_stark_verifier.specs.declared.error.VerificationError.{VerificationError}
use Rattle.p3_uni_stark_verifier.specs.declared.error.VerificationError.TheVariants as fault
use Rattle.p3_uni_stark_verifier.specs.Opened.{ArePeriodic, Agrees, PeriodicFault, IdentityFault}
use Rattle.p3_uni_stark_verifier.specs.Relation.{HoldsAt, FaultAt}
use Rattle.p3_uni_stark_verifier.specs.Setting.{StarkSetting}
use Rattle.p3_uni_stark_verifier.proofs.Refused.{not_periodic, same_periodic}

module _ {V E C Com Dom D Opening Error ProverError : Type 0}
    (S : StarkSetting V E C Com Dom D Opening Error ProverError)
    (s : Statement V Com) (p : Proof E Com Opening) (log : ℕ) (alpha z : E) (c : C) where
  -- opened values that don't agree
  pub of_identity : (e : VerificationError Error) (periodic : List E)
      → ArePeriodic S.fields p.log_height s.periodic.now z periodic
      → IdentityFault (Agrees S.fields S.zk s p log alpha z periodic) e
      → FaultAt S s p log alpha z c e
  of_identity fault.OodEvaluationMismatch periodic a h = (periodic, a, h)
  of_identity fault.OutOfMemory periodic a h = tt
  of_identity (fault.InvalidPeriodicColumns f) periodic a h = absurd h
  of_identity (fault.InvalidAir f) periodic a h = absurd h
  of_identity fault.DegreeTooLarge periodic a h = absurd h
  of_identity fault.InvalidPublicValues periodic a h = absurd h
  of_identity fault.InvalidPeriodicCount periodic a h = absurd h
  of_identity fault.InvalidPreprocessed periodic a h = absurd h
  of_identity fault.InvalidProofShape periodic a h = absurd h
  of_identity fault.RandomizationError periodic a h = absurd h
  of_identity fault.PointOnTraceDomain periodic a h = absurd h
  of_identity (fault.InvalidOpeningArgument o) periodic a h = absurd h

  -- periodic columns that are refused, where it holds
  pub refused_periodic : (e : VerificationError Error) → (e ≡ fault.OutOfMemory → ⊥)
      → PeriodicFault (2 ^ p.log_height) s.periodic.now e → HoldsAt S s p log alpha z c → ⊥
  refused_periodic (fault.InvalidPeriodicColumns f) m h a =
      not_periodic _ s.periodic.now f h a.periods
  refused_periodic fault.OutOfMemory m h a = m refl
  refused_periodic (fault.InvalidAir f) m h a = h
  refused_periodic fault.DegreeTooLarge m h a = h
  refused_periodic fault.InvalidPublicValues m h a = h
  refused_periodic fault.InvalidPeriodicCount m h a = h
  refused_periodic fault.InvalidPreprocessed m h a = h
  refused_periodic fault.InvalidProofShape m h a = h
  refused_periodic fault.RandomizationError m h a = h
  refused_periodic fault.PointOnTraceDomain m h a = h
  refused_periodic (fault.InvalidOpeningArgument o) m h a = h
  refused_periodic fault.OodEvaluationMismatch m h a = h

  -- where it holds, opened values agree with any values of the periodic columns
  pub agree_at : (periodic : List E)
      → ArePeriodic S.fields p.log_height s.periodic.now z periodic
      → HoldsAt S s p log alpha z c → Agrees S.fields S.zk s p log alpha z periodic
  agree_at periodic are a = subst (λ ps. Agrees S.fields S.zk s p log alpha z ps)
      (same_periodic S.fields.ext (λ k. S.fields.lift (S.fields.root k)) p.log_height z
      S.fields.lift s.periodic.now a.periodic periodic a.periods a.are_periodic are) a.identity

  -- what is decided of equal values is decided alike
  pub decided_at : {X : Type 0} (answer : Result X (VerificationError Error)) (zk : Bool)
      (given periodic : List E) → zk ≡ S.zk → given ≡ periodic
      → (IsOk answer ↔ Agrees S.fields zk s p log alpha z given)
      → (IsOk answer ↔ Agrees S.fields S.zk s p log alpha z periodic)
  decided_at answer zk given periodic e f h =
      subst (λ values. IsOk answer ↔ Agrees S.fields S.zk s p log alpha z values) f
      (subst (λ b. IsOk answer ↔ Agrees S.fields b s p log alpha z given) e h)

  -- a refusal of equal values is one of these
  pub stands_at : {X : Type 0} (answer : Result X (VerificationError Error)) (zk : Bool)
      (given periodic : List E) → zk ≡ S.zk → given ≡ periodic
      → ArePeriodic S.fields p.log_height s.periodic.now z periodic
      → IfErr answer (IdentityFault (Agrees S.fields zk s p log alpha z given))
      → IfErr answer (FaultAt S s p log alpha z c)
  stands_at (Ok x) zk given periodic e f are h = tt
  stands_at (Err fault) zk given periodic e f are h = of_identity fault periodic are
      (subst (λ values. IdentityFault (Agrees S.fields S.zk s p log alpha z values) fault) f
      (subst (λ b. IdentityFault (Agrees S.fields b s p log alpha z given) fault) e h))
