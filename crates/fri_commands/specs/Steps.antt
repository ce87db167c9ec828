-- The steps of a command's answer: numbers, tests in order, and elements.
use Rattle.std.specs.Prelude.{ℕ, ◌+◌, ◌^◌, ◌==◌, List, map, find}
use Rattle.std.specs.Prelude.{Option, Some, None, Result, Ok, Err, Bool, true, false}
use Rattle.std.specs.List.{range_with_len}
use Rattle.algebra.specs.Field.{multiple}
use Rattle.p3_field.specs.BabyBear.{baby_bear}
use Rattle.p3_field.specs.baby_bear.BabyBear.{BabyBear}
use Rattle.fri_commands.specs.declared.fault.Fault.{Fault}

-- the greatest canonical number of an element
abbrev pub greatest_element : ℕ
greatest_element = 2013265920

-- the greatest log height of a word
abbrev pub greatest_log_height : ℕ
greatest_log_height = 27

-- the value, or the fault where there is none
abbrev pub or_fault : {A : Type 0} → Fault → Option A → Result A Fault
or_fault fault (Some x) = Ok x
or_fault fault None = Err fault

-- the fault, unless the test holds
abbrev pub unless : Fault → Bool → Result (Unit {0}) Fault
unless fault true = Ok tt
unless fault false = Err fault

-- the first fault, or what the next step makes of the value
infixl 10 ◌>>=◌
abbrev pub ◌>>=◌ : {A B : Type 0} → Result A Fault → (A → Result B Fault) → Result B Fault
Ok x >>= f = f x
Err fault >>= f = Err fault

-- the logarithm, up to `most`, of a power of two
unfoldable pub exact_log2 : ℕ → ℕ → Option ℕ
exact_log2 most count = find (λ k. 2 ^ k == count) (range_with_len 0 (most + 1))

-- the canonical number of an element: it is this multiple of one
abbrev pub canonical_number : BabyBear → ℕ
canonical_number x = x.value

-- the elements of these numbers
abbrev pub elements : List ℕ → List BabyBear
elements numbers = map (multiple baby_bear) numbers
