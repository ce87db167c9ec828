-- Each refusal of a verifier is want of memory, or isn't.
use Rattle.std.specs.Prelude.{◌≡◌, ◌≢◌, ◌⊎◌}
use Rattle.std.proofs.Common.{inl, inr, refl}
use Rattle.p3_fri_relation.specs.declared.error.FriError.{FriError}
use Rattle.p3_fri_relation.specs.declared.error.FriError.TheVariants.{OutOfMemory}

pub memory_cases : {A B : Type 0} (e : FriError A B) → (e ≡ OutOfMemory) ⊎ (e ≢ OutOfMemory)
memory_cases OutOfMemory = inl refl
memory_cases _ = inr (λ p. cc)
