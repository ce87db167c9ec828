-- The SHA-256 challenger, as a format.
use Rattle.std.specs.Prelude.{ℕ, zero, suc, ◌%◌, ◌^◌, nat_le, Bool, if◌then◌else◌, List, []}
use Rattle.std.specs.Prelude.{◌∷◌, ◌++◌, Option, Some, None, replicate, take}
use Rattle.std.specs.Int.{w32, w64, w128, to_le_bytes, from_le_bytes}
use Rattle.std.specs.Option.{option_map}
use Rattle.algebra.specs.Field.{FieldOps, multiple}
use Rattle.sha2.specs.Sha256.{sha256}
use Rattle.p3_challenger_core.specs.Run.{After, grind_attempt}
use Rattle.p3_challenger_sha256.specs.declared.sha256_challenger.Sha256Challenger.{Sha256Challenger}

-- the least number below `n` that passes the test, if any
unfoldable pub least_below : ℕ → (ℕ → Bool) → Option ℕ
least_below zero test = None
least_below (suc n) test =
    elim (least_below n test) [ Some k ↦ Some k | None ↦ if test n then Some n else None ]

-- over a prime field of this order canonical numbers have four bytes, and else eight
abbrev pub has_short_numbers : (order : ℕ) → Bool
has_short_numbers order = nat_le order 4294967296

module _ {F : Type 0} where
  -- 32 zero bytes
  abbrev pub start : Sha256Challenger F
  start = record { state = replicate 32 0; field = _ }

  -- the state after the bytes are observed: SHA256(state, 00, bytes)
  abbrev pub absorbed : Sha256Challenger F → List ℕ → Sha256Challenger F
  absorbed c bytes = record c { state = sha256 (c.state ++ 0x00 ∷ bytes) }

  -- the state after a draw: SHA256(state, 01)
  abbrev pub stepped : Sha256Challenger F → Sha256Challenger F
  stepped c = record c { state = sha256 (c.state ++ 0x01 ∷ []) }

  -- the number that a draw answers: the first eight bytes of the new state, the lowest first
  abbrev pub drawn_number : Sha256Challenger F → ℕ
  drawn_number c = from_le_bytes w64 (take 8 (stepped c).state)

  -- drawn bits: the lowest ones of the drawn number
  abbrev pub bits_sampled : Sha256Challenger F → ℕ → After (Sha256Challenger F) ℕ
  bits_sampled c bits = record { value = drawn_number c % 2 ^ bits; state = stepped c }

  -- over a prime field of this order
  module _ (order : ℕ) where
    -- the number of which a drawn element is made, of twice as many bytes of the new state
    abbrev pub element_number : Sha256Challenger F → ℕ
    element_number c = if has_short_numbers order then drawn_number c
        else from_le_bytes w128 (take 16 (stepped c).state)

    -- a drawn element: that number modulo the order
    abbrev pub element_sampled : FieldOps F → Sha256Challenger F → After (Sha256Challenger F) F
    element_sampled ops c =
        record { value = multiple ops (element_number c % order); state = stepped c }

    -- an element is observed as the bytes of its canonical number, the lowest first
    module _ (canonical : F → ℕ) where
      abbrev pub element_bytes : F → List ℕ
      element_bytes x = if has_short_numbers order then to_le_bytes w32 (canonical x)
          else to_le_bytes w64 (canonical x)

      abbrev pub element_observed : Sha256Challenger F → F → Sha256Challenger F
      element_observed c x = absorbed c (element_bytes x)

      -- the element of the least canonical number that passes a grind of so many bits, if any
      unfoldable pub least_witness : FieldOps F → Sha256Challenger F → ℕ → Option F
      least_witness ops c bits = option_map (multiple ops) (least_below order (λ k.
          (grind_attempt element_observed bits_sampled c bits (multiple ops k)).value))
