-- Of a prover over one field, what holds over the field of a handle's prover.
use Rattle.std.proofs.Common.{◌≡◌, refl, Option, None, Some, Result, Ok, Err}
use Rattle.std.specs.Prelude.{IfOk, IfErr}
use Rattle.p3_fri_ffi.specs.declared.any_prover.AnyProver.{AnyProver}
use Rattle.p3_fri_ffi.specs.declared.any_prover.AnyProver.TheVariants as any
use Rattle.p3_fri_ffi.specs.Provers.{OverProver, Has, Keeps}

module _ {P : Type 0} (of : P → AnyProver) where
  pub kept : (Holds : P → P → Type 0) (old new : P) → Holds old new
      → Keeps of Holds (Some (of old)) (Some (of new))
  kept Holds old new h = record { old = old; had = refl; new = new; has = refl; holds = h }

  module _ {T E : Type 0} where
    -- what holds of a prover before and after an answer
    pub kept_ok : (Holds : T → P → P → Type 0) (outcome : Result T E) (old new : P)
        → IfOk outcome (λ t. Holds t old new)
        → IfOk outcome (λ t. Keeps of (Holds t) (Some (of old)) (Some (of new)))
    kept_ok Holds (Ok t) old new h = kept (Holds t) old new h
    kept_ok Holds (Err e) old new h = h

    -- and a refusal
    pub kept_err : (Holds : P → P → Type 0) (outcome : Result T E) (old new : P)
        → IfErr outcome (λ e. Holds old new)
        → IfErr outcome (λ e. Keeps of Holds (Some (of old)) (Some (of new)))
    kept_err Holds (Ok t) old new h = h
    kept_err Holds (Err e) old new h = kept Holds old new h

    -- and what an answer says of it as it was
    pub has_ok : (Holds : T → P → Type 0) (outcome : Result T E) (old : P)
        → IfOk outcome (λ t. Holds t old)
        → IfOk outcome (λ t. Has of (Holds t) (Some (of old)))
    has_ok Holds (Ok t) old h = record { prover = old; has = refl; holds = h }
    has_ok Holds (Err e) old h = h

-- what follows over each field follows over the field of a handle's prover
pub by_field : {N B K G : Type 0} (handle : Option AnyProver) → (handle ≡ None → N)
    → ((p : _) → handle ≡ Some (any.BabyBear p) → B)
    → ((p : _) → handle ≡ Some (any.KoalaBear p) → K)
    → ((p : _) → handle ≡ Some (any.Goldilocks p) → G)
    → OverProver handle N B K G
by_field None n b k g = n refl
by_field (Some (any.BabyBear p)) n b k g = b p refl
by_field (Some (any.KoalaBear p)) n b k g = k p refl
by_field (Some (any.Goldilocks p)) n b k g = g p refl
