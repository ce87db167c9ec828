-- Laws of that challenger.
use Rattle.std.specs.Prelude.{ℕ, ◌^◌, ◌<◌, ◌≤◌}
use Rattle.std.proofs.Common.{zero, suc, lit<, pow_pos, arith}
use Rattle.std.proofs.lemmas.Bool.{ne_eqb}
use Rattle.p3_test_challengers.specs.AlwaysOne.{bits_of_one}

pub max_small : 63 < 64
max_small = lit< tt

one_below : (n : ℕ) → 1 < 2 ^ suc n
one_below n = let some = pow_pos n in omega (arith, some)

pub bits_below : {C : Type 0} (c : C) (bits : ℕ) → bits ≤ 63 → (bits_of_one c bits).value < 2 ^ bits
bits_below c zero within = lit< tt
bits_below c (suc n) within = rw (ne_eqb (suc n) 0 (λ e. omega (arith, e))) (one_below n)
