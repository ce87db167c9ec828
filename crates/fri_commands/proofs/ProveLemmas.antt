-- What the answers of `prove` say of its numbers.
use Rattle.std.proofs.Common.{◌≡◌, ℕ, zero, suc, ◌+◌, ◌^◌, ◌<◌, ◌≤◌, ◌&&◌, inl, inr, List, nat_lt, nat_le, Some, Ok, arith}
use Rattle.std.proofs.lemmas.Bool.{cases_Bool, and_parts, ltb-true, leb-true, ne_eqb}
use Rattle.std.specs.Fmt.{decimal}
use Rattle.std.specs.Str.{bytes_eq}
use Rattle.std.specs.Str.Parse.{digits_value}
use Rattle.p3_field.specs.baby_bear.BabyBear.{BabyBear}
use Rattle.fri_commands.specs.Texts.{parsed_number}
use Rattle.fri_commands.specs.Prove.{checked_opening}

-- a number that was parsed is within its bound
pub parsed_number-within : (most : ℕ) (text : List ℕ) (n : ℕ) → parsed_number most text ≡ Some n → n ≤ most
unfolding parsed_number
parsed_number-within most text n e = elim (cases_Bool (nat_le (digits_value 10 text) most && bytes_eq text (decimal (digits_value 10 text)))) [
  | inl w ↦
      let is : digits_value 10 text ≡ n = cc (rw w at e) in
      omega (arith, is, leb-true (digits_value 10 text) most (and_parts (nat_le (digits_value 10 text) most) (bytes_eq text (decimal (digits_value 10 text))) w).0)
  | inr w ↦ absurd (cc (rw w at e))
]

-- an opening that passed has a final polynomial whose extension is small
pub checked_opening-small : (log_blowup log_final log_height : ℕ) (point : BabyBear) → checked_opening log_blowup log_final log_height point ≡ Ok tt → log_blowup ≤ 27 → log_height ≤ 27 → log_blowup + log_final < 64
unfolding checked_opening
checked_opening-small log_blowup zero log_height point e small low = omega arith
checked_opening-small log_blowup (suc n) log_height point e small low = elim (cases_Bool (nat_lt (log_blowup + suc n) (2 ^ 64))) [
  | inl w ↦ elim (cases_Bool (nat_lt (log_blowup + suc n) log_height)) [
    | inl v ↦ omega (arith, ltb-true (log_blowup + suc n) log_height v)
    | inr v ↦ absurd (cc (rw (w, ne_eqb (suc n) 0 (λ z. omega (arith, z)), v) at e))
  ]
  | inr w ↦ absurd (cc (rw w at e))
]
