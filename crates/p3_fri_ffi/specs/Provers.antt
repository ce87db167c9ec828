-- The prover that a handle has, over one of the fields.
use Rattle.std.specs.Prelude.{◌≡◌, ℕ, Option, None, Some}
use Rattle.p3_fri_ffi.specs.declared.any_prover.AnyProver.{AnyProver}
use Rattle.p3_fri_ffi.specs.declared.any_prover.AnyProver.TheVariants as any
use Rattle.p3_fri_ffi.specs.Fields.{OverField}

-- the number of a prover's field
abbrev pub number_of : AnyProver → ℕ
number_of (any.BabyBear p) = 0
number_of (any.KoalaBear p) = 1
number_of (any.Goldilocks p) = 2

-- what holds of a handle that has none, and what over the field of its prover
abbrev pub OverProver : Option AnyProver
    → (none baby_bear koala_bear goldilocks : Type 0) → Type 0
OverProver None N B K G = N
OverProver (Some prover) N B K G = OverField (number_of prover) B K G

-- of the provers over one field, which are provers over any
module _ {P : Type 0} (of : P → AnyProver) where
  -- a handle has such a prover, of which that holds
  pub record Has (Holds : P → Type 0) (handle : Option AnyProver) : Type 0 where
    pub prover : P
    pub has : handle ≡ Some (of prover)
    pub holds : Holds prover

  -- a handle had such a prover and has such a one, of both of which that holds
  pub record Keeps (Holds : P → P → Type 0) (before after : Option AnyProver) : Type 0 where
    pub old : P
    pub had : before ≡ Some (of old)
    pub new : P
    pub has : after ≡ Some (of new)
    pub holds : Holds old new
