-- Numbers of points.
use Rattle.std.proofs.Common.{◌≡◌, ℕ, suc, ◌+◌, ◌-◌, ◌*◌, ◌/◌, ◌%◌, ◌^◌, ◌<◌, ◌≤◌, sym, ap, ◌∙◌, arith}
use Rattle.std.proofs.Common.{inl, inr, pow_pos}
use Rattle.std.specs.Int.{IsPowerOfTwo}
use Rattle.std.proofs.Math.Pow.{pow_mono}
use Rattle.std.proofs.lemmas.Bool.{cases_lt}
use Rattle.std.proofs.lemmas.Nat.{pow-add}
use Rattle.algebra.proofs.Powers.{double}
use Rattle.p3_field_core.proofs.IndexPowers.{power_quotient, exponent_at_most}
use Rattle.p3_domain.specs.Domains.{IsCeilLog}

-- a length in binary of one less
pub ceil_log : (n m : ℕ) → n - 1 < 2 ^ m → 2 ^ m ≤ 2 * (n - 1) + 1 → IsCeilLog n m
ceil_log n m l h = record {
  enough = omega (arith, l);
  least = λ j e. elim (cases_lt j m) [
    | inl less ↦ absurd (
        let more : 2 ^ suc j ≤ 2 ^ m = pow_mono less in
        let twice : 2 ^ suc j ≡ 2 ^ j + 2 ^ j = double j in
        let some : 0 < 2 ^ j = pow_pos j in
        omega (arith, e, more, twice, h, some))
    | inr more ↦ more
  ];
}

-- a power of two divides each that isn't less
pub power_divides : (c h n : ℕ) → IsPowerOfTwo c → c ≤ 2 ^ n → h ≡ 2 ^ n → h / c * c ≡ h
power_divides c h n (d, e) l is =
    ap (λ m. m / c * c) is ∙ ap (λ m. 2 ^ n / m * m) e
    ∙ ap (λ m. m * 2 ^ d) (power_quotient d n below)
    ∙ sym (pow-add 2 (n - d) d) ∙ ap (λ m. 2 ^ m) (let s : n - d + d ≡ n = omega (arith, below) in s)
    ∙ sym is
  where
    below : d ≤ n
    below = exponent_at_most d n (omega (arith, e, l))

pub power_some : (c : ℕ) → IsPowerOfTwo c → 0 < c
power_some c (d, e) = let some : 0 < 2 ^ d = pow_pos d in omega (arith, e, some)
