-- A challenger that absorbs nothing and whose drawn number is always 1.
use Rattle.std.specs.Prelude.{ℕ, ◌==◌, if◌then◌else◌, Option, Some, None}
use Rattle.p3_field.specs.baby_bear.BabyBear.{BabyBear}
use Rattle.p3_field.specs.BabyBear.{element}
use Rattle.p3_challenger_core.specs.Run.{After}

abbrev pub ignored : {C T : Type 0} → C → T → C
ignored c x = c

abbrev pub one_drawn : {C : Type 0} → C → After C BabyBear
one_drawn c = record { value = element 1; state = c }

abbrev pub bits_of_one : {C : Type 0} → C → ℕ → After C ℕ
bits_of_one c bits = record { value = if bits == 0 then 0 else 1; state = c }

abbrev pub solution_of_one : {C : Type 0} → C → ℕ → Option BabyBear
solution_of_one c bits = if bits == 0 then Some (element 0) else None
