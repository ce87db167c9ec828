-- A text that `parse` takes, without a sign and without leading zeros, is the decimal text of its number.
use Rattle.std.proofs.Common.{◌≡◌, ◌≢◌, ℕ, ◌<◌, ◌≤◌, ◌^◌, inl, inr, List, length, true, false, ◌&&◌, get_or, Some, None, IfSome, Result, Ok, Err, refl, sym, ap, arith, nat_le, ◌==◌}
use Rattle.std.proofs.lemmas.Bool.{cases_Bool, and_parts, leb-true, le-leb, eqb-true}
use Rattle.std.proofs.lemmas.Bool.Decides.{nat_tests}
use Rattle.std.proofs.lemmas.Slice.Eq.{bytes_eq-Decides}
use Rattle.std.proofs.lemmas.Str.Parse.{IsNumeralModel, numerals_by_value, tells_all_ascii_digits, parse_plain, not_in_digits}
use Rattle.std.proofs.lemmas.Fmt.{decimal-digits_value, decimal_digit, first_decimal, decimal_nonempty, digits_decimal, parse-decimal, digits_value-decimal}
use Rattle.std.specs.Fmt.{decimal}
use Rattle.std.specs.Str.{all_ascii_digits, bytes_eq}
use Rattle.std.specs.Str.Parse.{ParsesUnsigned, digits_value}
use Rattle.std.specs.Result.{result_ok}
use Rattle.fri_commands.specs.Texts.{parsed_number}

-- no sign comes first, and no zero before further digits
abbrev pub IsPlain : List ℕ → Type 0
IsPlain text = (get_or text 0 0 ≢ 43) × (1 < length text → get_or text 0 0 ≢ 48)

-- std's words for digits and their value
own : IsNumeralModel (λ ds. all_ascii_digits ds ≡ true) (digits_value 10)
own = numerals_by_value _ tells_all_ascii_digits

-- a decimal text of two digits or more doesn't begin with a zero
plain-or-zero : (n : ℕ) → n < 2 ^ 64 → 1 < length (decimal n) → get_or (decimal n) 0 0 ≢ 48
plain-or-zero n small more zero = elim (cases_Bool (n == 0)) [
  | inl w ↦ let e : n ≡ 0 = eqb-true n 0 w in omega (arith, rw e at more, ap length (decimal_digit 0 (omega arith)))
  | inr w ↦ omega (arith, first_decimal n (ne_zero w) small)
]
  where
    ne_zero : (n == 0) ≡ false → 0 < n
    ne_zero w = grind (arith, nat_tests)

-- a decimal text has neither a sign nor a leading zero
pub decimal-plain : (n : ℕ) → n < 2 ^ 64 → IsPlain (decimal n)
decimal-plain n small = (
  not_in_digits own (decimal n) 43 (digits_decimal own n small) (λ r. omega (arith, r)) 0 (decimal_nonempty n small),
  plain-or-zero n small,
)

-- a decimal text of a number up to `most`
pub parsed_number-decimal : (most n : ℕ) → n ≤ most → most < 2 ^ 64 → parsed_number most (decimal n) ≡ Some n
unfolding parsed_number
parsed_number-decimal most n below small =
    let v = digits_value-decimal own n (omega arith) in
    rw (v, le-leb n most below, (bytes_eq-Decides (decimal n) (decimal n)).1 refl)

-- a text that is no decimal text of a number up to `most`
pub parsed_number-none : (most : ℕ) (text : List ℕ) → ((n : ℕ) → n ≤ most → text ≢ decimal n) → parsed_number most text ≡ None
unfolding parsed_number
parsed_number-none most text other = elim (cases_Bool (nat_le (digits_value 10 text) most && bytes_eq text (decimal (digits_value 10 text)))) [
  | inl w ↦ absurd (
      let b = and_parts (nat_le (digits_value 10 text) most) (bytes_eq text (decimal (digits_value 10 text))) w in
      other (digits_value 10 text) (leb-true (digits_value 10 text) most b.0) ((bytes_eq-Decides text (decimal (digits_value 10 text))).0 b.1))
  | inr w ↦ rw w
]

-- what `parse` takes of a text without a sign and without leading zeros, it takes of a decimal text
pub parsed-text : {E : Type 0} (text : List ℕ) (r : Result ℕ E) → IsPlain text → ParsesUnsigned 64 10 text r → IfSome (result_ok r) (λ n. text ≡ decimal n)
parsed-text {E} text (Ok n) plain parsed =
    let k = parse_plain own {E = E} 64 text (Ok n) parsed plain.0 in
    sym (rw k.1 (decimal-digits_value own text k.0.0 k.0.1 (alone k.0.1) k.0.2))
  where
    alone : 0 < length text → get_or text 0 0 ≡ 48 → length text ≡ 1
    alone some zero = elim (cases_Bool (length text == 1)) [
      | inl w ↦ eqb-true (length text) 1 w
      | inr w ↦ absurd (plain.1 (grind (arith, nat_tests)) zero)
    ]
parsed-text text (Err e) plain parsed = tt

-- and each decimal text it takes
pub parsed-decimal : {E : Type 0} (text : List ℕ) (r : Result ℕ E) (n : ℕ) → ParsesUnsigned 64 10 text r → n < 2 ^ 64 → text ≡ decimal n → result_ok r ≡ Some n
parsed-decimal text r n parsed small e = ap result_ok (parse-decimal 64 n text r small small e parsed)
