-- Proth's test for primes: where a power to half of `p - 1` is -1, and the power of two in `p - 1`
-- is greater than the root of `p`.
use Rattle.std.specs.Prelude.{ℕ, zero, suc, ◌+◌, ◌-◌, ◌*◌, ◌/◌, ◌%◌, ◌^◌, ◌<◌, ◌≤◌, ◌≡◌, ◌≢◌, ◌⊎◌}
use Rattle.std.proofs.Common.{refl, sym, ◌∙◌, ap, inl, inr, arith, mul_comm}
use Rattle.std.proofs.Math.Nat.{mod-eq_of_lt, mod-lt, mod_self, mul-mod_left}
use Rattle.std.proofs.Math.Nat.{div-add-mod, mul-le-mul, pow-zero, pow-suc, pow-succ'}
use Rattle.std.proofs.Math.Nat.{mul-add-mod_self_left}
use Rattle.std.proofs.lemmas.Nat.{mul-mod_second, pow-add, mul-pow, pow-mod, pow_pos}
use Rattle.std.proofs.lemmas.Bool.Decides.{eqb_tells}
use Rattle.algebra.specs.Primes.{IsPrime}
use Rattle.algebra.proofs.Fermat.{fermat_one}
use Rattle.p3_prime_field.specs.Proth.{IsProth}

-- a divisor of `e` that is at least 2, and below `b`
record Divisor (e b : ℕ) : Type 0 where
  number : ℕ
  above : 1 < number
  below : number < b
  divides : e % number ≡ 0

divisor_below : (e b : ℕ) → Divisor e b ⊎ ((d : ℕ) → 1 < d → d < b → e % d ≢ 0)
divisor_below e zero = inr (λ d one less. absurd (omega arith))
divisor_below e (suc b) =
    elim (divisor_below e b) [
      | inl w ↦ inl (record {
        number = w.number;
        above = w.above;
        below = omega (arith, w.below);
        divides = w.divides;
      })
      | inr none ↦ elim (eqb_tells (e % b) 0) [
        | inl y ↦
            let s : (1 < b) ⊎ (b ≤ 1) = grind arith in
            elim s [
              | inl one ↦ inl (record { number = b; above = one; below = omega arith; divides = y.1 })
              | inr small ↦ inr (λ d one less. absurd (omega arith))
            ]
        | inr n ↦ inr (λ d one less z.
            let s : (d < b) ⊎ (d ≡ b) = grind arith in
            elim s [ inl l ↦ none d one l z | inr same ↦ n.1 (ap (λ x. e % x) (sym same) ∙ z) ])
      ]
    ]

record PrimeDivisor (e : ℕ) : Type 0 where
  number : ℕ
  prime : IsPrime number
  divides : e % number ≡ 0

-- what divides `p` sees no multiples of `p`
through : (p d n : ℕ) → p % d ≡ 0 → n % p % d ≡ n % d
through p d n z =
    let e : d * (p / d) ≡ p = omega (arith, div-add-mod p d, z) in
    sym (ap (λ x. x % d)
    (let o : n ≡ d * (p / d * (n / p)) + n % p =
    omega (arith, div-add-mod n p, ap (λ x. x * (n / p)) e) in o)
    ∙ mul-add-mod_self_left d (p / d * (n / p)) (n % p))

divides_through : (e d c : ℕ) → e % d ≡ 0 → d % c ≡ 0 → e % c ≡ 0
divides_through e d c z y = sym (through d c e y) ∙ ap (λ x. x % c) z ∙ zero_mod c
  where
    zero_mod : (c : ℕ) → 0 % c ≡ 0
    zero_mod c = omega arith

prime_divisor : (n e : ℕ) → 1 < e → e ≤ n → PrimeDivisor e
prime_divisor zero e one le = absurd (omega arith)
prime_divisor (suc n) e one le =
    elim (divisor_below e e) [
      | inl w ↦
          let r = prime_divisor n w.number w.above (omega (arith, w.below, le)) in
          record {
            number = r.number;
            prime = r.prime;
            divides = divides_through e w.number r.number w.divides r.divides;
          }
      | inr none ↦ record { number = e; prime = (one, none); divides = mod_self e }
    ]

module _ (d : ℕ) (big : 2 < d) where
  square_of_minus_one : (d - 1) * (d - 1) % d ≡ 1
  square_of_minus_one =
      ap (λ x. x % d)
      (let o : (d - 1) * (d - 1) ≡ d * (d - 2) + 1 = square d (omega (arith, big)) in o)
      ∙ mul-add-mod_self_left d (d - 2) 1
      ∙ mod-eq_of_lt (omega (arith, big))
    where
      square : (d : ℕ) → 1 < d → (d - 1) * (d - 1) ≡ d * (d - 2) + 1
      square zero l = absurd (omega arith)
      square (suc zero) l = absurd (omega arith)
      square (suc (suc c)) l = squared c
        where
          squared : (c : ℕ) → (suc (suc c) - 1) * (suc (suc c) - 1) ≡ suc (suc c) * (suc (suc c) - 2) + 1
          squared c =
              let a : suc (suc c) - 1 ≡ suc c = omega arith in
              let b : suc (suc c) - 2 ≡ c = omega arith in
              rw (a, b) (omega arith)

  one_power : (m : ℕ) → 1 ^ m % d ≡ 1
  one_power zero = mod-eq_of_lt (omega (arith, big))
  one_power (suc m) =
      ap (λ x. x % d) (pow-succ' 1 m) ∙ ap (λ x. x % d) (let o : 1 * 1 ^ m ≡ 1 ^ m = omega arith in o)
      ∙ one_power m

  -- of an odd power of -1
  odd_power : (h : ℕ) → (d - 1) ^ suc (h + h) % d ≡ d - 1
  odd_power h =
      ap (λ x. x % d) (pow-succ' (d - 1) (h + h))
      ∙ ap (λ x. (d - 1) * x % d) (pow-add (d - 1) h h ∙ sym (mul-pow (d - 1) (d - 1) h))
      ∙ sym (mul-mod_second (d - 1) (((d - 1) * (d - 1)) ^ h) d)
      ∙ ap (λ x. (d - 1) * x % d) (sym (pow-mod ((d - 1) * (d - 1)) h d)
      ∙ ap (λ x. x ^ h % d) square_of_minus_one ∙ one_power h)
      ∙ ap (λ x. x % d) (let o : (d - 1) * 1 ≡ d - 1 = omega arith in o)
      ∙ mod-eq_of_lt (omega (arith, big))

  -- an odd power that is one, and another one that is -1
  apart : (a n m : ℕ) → a ^ n % d ≡ 1 → a ^ m % d ≡ d - 1 → n % 2 ≡ 1 → ⊥
  apart a n m e f odd =
      let one : a ^ (n * m) % d ≡ 1 =
      ap (λ x. x % d) (pow_mul a n m) ∙ sym (pow-mod (a ^ n) m d) ∙ ap (λ x. x ^ m % d) e
      ∙ one_power m in
      let other : a ^ (n * m) % d ≡ d - 1 =
      ap (λ x. a ^ x % d) (mul_comm n m)
      ∙ ap (λ x. x % d) (pow_mul a m n) ∙ sym (pow-mod (a ^ m) n d) ∙ ap (λ x. x ^ n % d) f
      ∙ ap (λ x. (d - 1) ^ x % d) (let o : n ≡ suc (n / 2 + n / 2) = omega (arith, odd) in o)
      ∙ odd_power (n / 2) in
      omega (arith, one, other, big)
    where
      pow_mul : (a n m : ℕ) → a ^ (n * m) ≡ (a ^ n) ^ m
      pow_mul a n zero = ap (λ x. a ^ x) (let o : n * 0 ≡ 0 = omega arith in o) ∙ pow-zero a ∙ sym (pow-zero (a ^ n))
      pow_mul a n (suc m) =
          ap (λ x. a ^ x) (let o : n * suc m ≡ n * m + n = omega arith in o) ∙ pow-add a (n * m) n
          ∙ ap (λ x. x * a ^ n) (pow_mul a n m) ∙ sym (pow-suc (a ^ n) m)

  -- the order of what is -1 after `k` squarings is at least `2^(k + 1)`
  no_order : (k a n : ℕ) → 0 < n → n < 2 ^ suc k → a ^ n % d ≡ 1 → a ^ (2 ^ k) % d ≡ d - 1 → ⊥
  no_order zero a n pos less e f = apart a n (2 ^ 0) e f (omega arith)
  no_order (suc k) a n pos less e f =
      elim (eqb_tells (n % 2) 1) [
        | inl y ↦ apart a n (2 ^ suc k) e f y.1
        | inr even ↦
            let z : n % 2 ≡ 0 = omega (arith, even.1) in
            let less_half : n / 2 < 2 ^ suc k = omega (arith, less, pow-succ' 2 (suc k)) in
            no_order k (a * a) (n / 2) (omega (arith, z, pos)) less_half
            (ap (λ x. x % d) (squares a (n / 2)
            ∙ ap (λ x. a ^ x) (let o : n / 2 + n / 2 ≡ n = omega (arith, z) in o)) ∙ e)
            (ap (λ x. x % d) (squares a (2 ^ k)
            ∙ ap (λ x. a ^ x) (let o : 2 ^ k + 2 ^ k ≡ 2 ^ suc k = omega (arith, pow-succ' 2 k) in o)) ∙ f)
      ]
    where
      squares : (a n : ℕ) → (a * a) ^ n ≡ a ^ (n + n)
      squares a n = mul-pow a a n ∙ sym (pow-add a n n)

-- one less than a multiple of `d`
less_one : (p d : ℕ) → 2 < d → 0 < p → p % d ≡ 0 → (p - 1) % d ≡ d - 1
less_one p d big pos z =
    ap (λ x. x % d) (split d (p / d) (omega (arith, div-add-mod p d, z)) pos big)
    ∙ mul-add-mod_self_left d (p / d - 1) (d - 1)
    ∙ mod-eq_of_lt (omega (arith, big))
  where
    split : (d q : ℕ) → d * q ≡ p → 0 < p → 2 < d → p - 1 ≡ d * (q - 1) + (d - 1)
    split d zero e pos big = absurd (let o : d * 0 ≡ 0 = omega arith in omega (arith, o, e, pos))
    split d (suc q) e pos big =
        let a : suc q - 1 ≡ q = omega arith in
        let b : d * suc q ≡ d * q + d = omega arith in
        rw a (omega (arith, b, e, big))

module _ (p k odd g : ℕ) (P : IsProth p k odd g) where
  -- a prime that divides `p` is greater than the power of two
  divisor_great : (d : ℕ) → IsPrime d → p % d ≡ 0 → 2 < d → d < 2 ^ suc k → ⊥
  divisor_great d prime z big less =
      let b = g ^ odd in
      let turned : b ^ (2 ^ k) % d ≡ d - 1 =
      ap (λ x. x % d) (sym (power_of g odd (2 ^ k)))
      ∙ sym (through p d (g ^ (odd * 2 ^ k)) z)
      ∙ ap (λ x. x % d) (P.half g refl) ∙ less_one p d big (omega (arith, P.above)) z in
      let whole : (b % d) ^ (2 ^ k) % d ≡ d - 1 = pow-mod b (2 ^ k) d ∙ turned in
      let pos : 0 < b % d = positive (b % d) (2 ^ k) (power_positive k) whole in
      no_order d big k (b % d) (d - 1) (omega (arith, big)) (omega (arith, less, big))
      (fermat_one d prime (d - 1) (b % d) (omega (arith, big)) pos (mod-lt b (omega (arith, big))))
      whole
    where
      power_of : (a n m : ℕ) → a ^ (n * m) ≡ (a ^ n) ^ m
      power_of a n zero = ap (λ x. a ^ x) (let o : n * 0 ≡ 0 = omega arith in o) ∙ pow-zero a ∙ sym (pow-zero (a ^ n))
      power_of a n (suc m) =
          ap (λ x. a ^ x) (let o : n * suc m ≡ n * m + n = omega arith in o) ∙ pow-add a (n * m) n
          ∙ ap (λ x. x * a ^ n) (power_of a n m) ∙ sym (pow-suc (a ^ n) m)

      power_positive : (k : ℕ) → 0 < 2 ^ k
      power_positive k = pow_pos k

      positive : (a m : ℕ) → 0 < m → a ^ m % d ≡ d - 1 → 0 < a
      positive zero zero l e = absurd (omega arith)
      positive zero (suc m) l e =
          absurd (let o : 0 ^ suc m ≡ 0 = pow-succ' 0 m ∙ omega arith in
          let r : 0 ^ suc m % d ≡ 0 = rw o (omega (arith, big)) in omega (arith, r, e, big))
      positive (suc a) m l e = omega arith

  odd_number : p % 2 ≡ 1
  odd_number = omega (arith, P.order)

  -- so each divisor is
  all_great : (e : ℕ) → 1 < e → p % e ≡ 0 → 2 ^ suc k ≤ e
  all_great e one z =
      let w = prime_divisor e e one (omega arith) in
      let zero_left = divides_through p e w.number z w.divides in
      let not_two : 2 < w.number = above_two w.number (w.prime.0) zero_left in
      let s : (w.number < 2 ^ suc k) ⊎ (2 ^ suc k ≤ w.number) = grind arith in
      elim s [
        | inl l ↦ absurd (divisor_great w.number w.prime zero_left not_two l)
        | inr h ↦ omega (arith, h, divisor_small e w.number (omega arith) w.divides)
      ]
    where
      above_two : (d : ℕ) → 1 < d → p % d ≡ 0 → 2 < d
      above_two zero l y = absurd (omega arith)
      above_two (suc zero) l y = absurd (omega arith)
      above_two (suc (suc zero)) l y = absurd (let o : p % 2 ≡ 0 = y in omega (arith, o, odd_number))
      above_two (suc (suc (suc d))) l y = omega arith

      divisor_small : (e d : ℕ) → 0 < e → e % d ≡ 0 → d ≤ e
      divisor_small e d pos y =
          let s : (e < d) ⊎ (d ≤ e) = grind arith in
          elim s [ inr h ↦ h | inl l ↦ absurd (let o : e % d ≡ e = mod-eq_of_lt l in omega (arith, o, y, pos)) ]

  pub proth_prime : IsPrime p
  proth_prime = (
    omega (arith, P.above),
    λ d one less z.
        let e : d * (p / d) ≡ p = omega (arith, div-add-mod p d, z) in
        let more : 1 < p / d = above_one d (p / d) e less in
        let other : p % (p / d) ≡ 0 =
        ap (λ n. n % (p / d)) (sym e) ∙ mul-mod_left d (p / d) in
        let both : 2 ^ suc k * 2 ^ suc k ≤ d * (p / d) =
        mul-le-mul (all_great d one z) (all_great (p / d) more other) in
        omega (arith, both, e, P.small),
  )
    where
      above_one : (d q : ℕ) → d * q ≡ p → d < p → 1 < q
      above_one d zero e l = absurd (omega (arith, P.above))
      above_one d (suc zero) e l = absurd (omega arith)
      above_one d (suc (suc q)) e l = omega arith
