-- What is refused before anything is absorbed isn't ready.
use Rattle.std.proofs.Common.{◌≡◌, ℕ, Bool, refl, subst, arith}
use Rattle.p3_air.specs.declared.air.Air.{Air}
use Rattle.p3_uni_stark_verifier.specs.declared.proof.Statement.{Statement}
use Rattle.p3_uni_stark_verifier.specs.declared.proof.Proof.{Proof}
use Rattle.p3_uni_stark_verifier.specs.declared.error.VerificationError.{VerificationError}
use Rattle.p3_uni_stark_verifier.specs.declared.error.VerificationError.TheVariants as fault
use Rattle.p3_uni_stark_verifier.specs.Chunks.{NeedsChunks}
use Rattle.p3_uni_stark_verifier.specs.Inputs.{HasProofShape, IsReady, InputFault}
use Rattle.p3_uni_stark_verifier.proofs.Refused.{malformed}

-- constraints need one number of chunks
pub same_log : {V : Type 0} (zk : Bool) (air : Air V) (k l : ℕ) → NeedsChunks zk air k
    → NeedsChunks zk air l → k ≡ l
same_log zk air k l a b =
    omega (arith, a.least.least l b.least.enough, b.least.least k a.least.enough)

module _ {V E Com Opening Error : Type 0} (two_adicity dimension : ℕ) (zk : Bool)
    (s : Statement V Com) (p : Proof E Com Opening) where
  pub refused_input : (e : VerificationError Error) → (e ≡ fault.OutOfMemory → ⊥)
      → InputFault two_adicity dimension zk s p e → (log : ℕ)
      → IsReady two_adicity dimension zk s p log → ⊥
  refused_input (fault.InvalidAir f) m h log r = malformed s.air.now f h r.well_formed
  refused_input fault.DegreeTooLarge m h log r = h r.chunks.degrees
  refused_input fault.InvalidPublicValues m h log r = h r.public_count
  refused_input fault.InvalidPeriodicCount m h log r = h r.periodic_count
  refused_input fault.InvalidPreprocessed m h log r = h r.preprocessed
  refused_input fault.InvalidProofShape m h log r =
      h.1.1 (subst (λ k. HasProofShape two_adicity dimension zk s p k)
      (same_log zk s.air.now log h.0 r.chunks h.1.0) r.shape)
  refused_input fault.RandomizationError m h log r = h r.randomized
  refused_input fault.OutOfMemory m h log r = m refl
  refused_input fault.PointOnTraceDomain m h log r = h
  refused_input (fault.InvalidPeriodicColumns f) m h log r = h
  refused_input (fault.InvalidOpeningArgument e) m h log r = h
  refused_input fault.OodEvaluationMismatch m h log r = h
