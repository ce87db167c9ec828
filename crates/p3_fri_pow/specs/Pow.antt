-- Proofs of work that are asked for only where there are bits.
use Rattle.std.specs.Prelude.{◌≡◌, ◌≢◌, ℕ, Bool, ◌==◌, if◌then◌else◌}
use Rattle.std.specs.Prelude.{List, [], ◌∷◌, ◌++◌, Option, Some, None}
use Rattle.p3_challenger_fs.specs.declared.pattern.Hierarchy.TheVariants.{Atomic}
use Rattle.p3_challenger_fs.specs.declared.pattern.Kind.TheVariants.{Pow}
use Rattle.p3_challenger_fs.specs.declared.pattern.TypeTag.TheVariants.{Algebra}
use Rattle.p3_challenger_fs.specs.declared.pattern.Length.TheVariants.{Fixed}
use Rattle.p3_challenger_fs.specs.declared.pattern.Turn.{Turn}
use Rattle.p3_challenger_core.specs.Run.{After, grind_attempt, Passes}

-- the step of a proof of work, where there are bits
abbrev pub pow_turns : ℕ → List Turn
pow_turns bits =
    if bits == 0 then []
    else record { hierarchy = Atomic; kind = Pow; type_tag = Algebra 1; length = Fixed bits } ∷ []

-- what is left to play begins with a proof of work
abbrev pub IsPowNext : ℕ → List Turn → Type 0
IsPowNext bits left = (rest : List Turn) × (left ≡ pow_turns bits ++ rest)

-- what was left to play began with it, and it is played
abbrev pub PowPlayed : ℕ → (before after : List Turn) → Type 0
PowPlayed bits before after = (rest : List Turn) → before ≡ pow_turns bits ++ rest → after ≡ rest

-- the witness that the search gives in that state; none at no bits, where none is asked for
abbrev pub found_witness : {C W : Type 0} → (C → ℕ → Option W) → C → ℕ → Option W
found_witness solution c bits = if bits == 0 then None else solution c bits

-- the witness that is sent: the one that the search gives in that state, and zero at no bits
abbrev pub sent_witness : {C W : Type 0} → (zero : W) → (C → ℕ → Option W) → C → ℕ → Option W
sent_witness zero solution c bits = if bits == 0 then Some zero else solution c bits

-- a witness is asked for, and there is none
abbrev pub IsMissing : {W : Type 0} → ℕ → Option W → Type 0
IsMissing bits witness = (witness ≡ None) × (bits ≢ 0)

module _ {C W : Type 0} (observe : C → W → C) (draw_bits : C → ℕ → After C ℕ) where
  -- a proof of work by a witness that may be missing, which it may only at no bits: whether it
  -- passes, and the state after it
  abbrev pub shown_attempt : C → ℕ → Option W → After C Bool
  shown_attempt c bits None = record { value = bits == 0; state = c }
  shown_attempt c bits (Some w) = grind_attempt observe draw_bits c bits w

  -- no witness passes
  abbrev pub NonePasses : C → ℕ → Type 0
  NonePasses c bits = (w : W) → ¬ Passes observe draw_bits c bits w

  -- a witness is shown, and it doesn't pass
  pub record IsWrongWitness (c : C) (bits : ℕ) (shown : Option W) : Type 0 where
    pub witness : W
    pub is_shown : shown ≡ Some witness
    pub fails : ¬ Passes observe draw_bits c bits witness
