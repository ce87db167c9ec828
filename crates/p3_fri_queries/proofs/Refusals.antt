-- What a refusal is, and is not.
use Rattle.std.proofs.Common.{◌≡◌, ◌≢◌, refl, Result, Err, true, false}
use Rattle.p3_fri_relation.specs.declared.error.FriError.{FriError}
use Rattle.p3_fri_relation.specs.declared.error.FriError.TheVariants.{OutOfMemory}

-- a refusal that nothing but want of memory allows is want of memory
abbrev pub failed : {E : Type 0} (T : Type 0) → E → Result T E
failed T e = Err e

pub wants_memory : {A B : Type 0} (T : Type 0) (e : FriError A B)
    → (failed T e ≢ failed T OutOfMemory → ⊥) → e ≡ OutOfMemory
wants_memory T OutOfMemory h = refl
wants_memory T _ h = absurd (h (λ e. cc))

-- it isn't `Ok`
pub not_ok : false ≡ true → ⊥
not_ok e = cc
