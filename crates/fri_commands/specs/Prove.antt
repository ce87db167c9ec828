-- What `prove` prints.
use Rattle.std.specs.Prelude.{ℕ, ◌+◌, ◌-◌, ◌^◌, ◌==◌, List, ◌++◌, length, Result, Ok, Err}
use Rattle.std.specs.Prelude.{Bool, true, false, not, ◌||◌, nat_lt, codes}
use Rattle.algebra.specs.Field.{multiple, pow}
use Rattle.algebra.specs.Polynomial.{val}
use Rattle.p3_field.specs.BabyBear.{baby_bear, root, element}
use Rattle.p3_field.specs.baby_bear.BabyBear.{BabyBear}
use Rattle.p3_fri_extensions.specs.Extension.{polynomial_on}
use Rattle.std.specs.Fmt.{decimal}
use Rattle.fri_commands.specs.Texts.{parsed_number, parsed_list}
use Rattle.fri_commands.specs.Steps.{or_fault, unless, ◌>>=◌, exact_log2, elements}
use Rattle.fri_commands.specs.Steps.{canonical_number}
use Rattle.fri_commands.specs.Steps.{greatest_element, greatest_log_height}
use Rattle.fri_commands.specs.declared.fault.Fault.{Fault}
use Rattle.fri_commands.specs.declared.fault.Fault.TheVariants.{Number, Length, HeightTooSmall}
use Rattle.fri_commands.specs.declared.fault.Fault.TheVariants.{HeightOverflow, PointInDomain}

-- the greatest log length of a final polynomial
abbrev pub greatest_size : ℕ
greatest_size = 18446744073709551615

-- the value at a point of the one polynomial of as many coefficients as the column has entries that
-- has them on the subgroup of order `2^log_size`
abbrev pub opened_value : (log_size : ℕ) (column : List ℕ) (point : ℕ) → ℕ
opened_value log_size column point = canonical_number (val baby_bear
    (polynomial_on baby_bear root (element 1) log_size (elements column))
    (multiple baby_bear point))

-- a column extended to this log height is taller than the final polynomial's own extension, if
-- that polynomial isn't constant
abbrev pub is_tall_enough : (log_blowup log_final log_height : ℕ) → Bool
is_tall_enough log_blowup log_final log_height =
    (log_final == 0) || nat_lt (log_blowup + log_final) log_height

-- the point lies in the evaluation coset of that log height: its power is that of the shift 31
abbrev pub is_in_domain : (log_height : ℕ) → BabyBear → Bool
is_in_domain log_height point = canonical_number (pow baby_bear point (2 ^ log_height))
    == canonical_number (pow baby_bear (element 31) (2 ^ log_height))

-- why a column extended to this log height is refused at the point; the log height of the final
-- polynomial's extension is a number of a word
unfoldable pub checked_opening : (log_blowup log_final log_height : ℕ) → BabyBear
    → Result (Unit {0}) Fault
checked_opening log_blowup log_final log_height point = do
  sum ← unless HeightOverflow (nat_lt (log_blowup + log_final) (2 ^ 64))
  tall ← unless HeightTooSmall (is_tall_enough log_blowup log_final log_height)
  unless PointInDomain (not (is_in_domain log_height point))

-- the lines of an opening that was accepted
abbrev pub opening_lines : ℕ → List ℕ
opening_lines value = decimal value ++ codes "\naccepted\nstates equal\n"

-- what the numbers of a column and of a point ask for
unfoldable pub opened_answer : (log_blowup log_final point : ℕ) (column : List ℕ)
    → Result (List ℕ) Fault
opened_answer log_blowup log_final point column = do
  log_size ← or_fault Length (exact_log2 (greatest_log_height - log_blowup) (length column))
  passed ← checked_opening log_blowup log_final (log_size + log_blowup) (multiple baby_bear point)
  Ok (opening_lines (opened_value log_size column point))

-- `prove LOG_BLOWUP LOG_FINAL POINT COLUMN`
unfoldable pub prove_answer : List ℕ → List ℕ → List ℕ → List ℕ → Result (List ℕ) Fault
prove_answer blowup_text final_text point_text column_text = do
  log_blowup ← or_fault Number (parsed_number greatest_log_height blowup_text)
  positive ← unless Number (not (log_blowup == 0))
  log_final ← or_fault Number (parsed_number greatest_size final_text)
  point ← or_fault Number (parsed_number greatest_element point_text)
  column ← or_fault Number (parsed_list greatest_element column_text)
  opened_answer log_blowup log_final point column
