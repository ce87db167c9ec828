-- Fermat's little theorem, and what it says of squares.
use Rattle.std.specs.Prelude.{ℕ, zero, suc, ◌+◌, ◌*◌, ◌%◌, ◌^◌, ◌<◌, ◌≡◌, refl}
use Rattle.std.proofs.Common.{sym, ◌∙◌, ap, arith}
use Rattle.std.proofs.Math.Nat.{mod-eq_of_lt, add-mod-mod, mul-mod_right, mul_assoc, mul-one}
use Rattle.std.proofs.Math.Nat.{pow-zero, pow-suc, pow-succ', add-mod}
use Rattle.std.proofs.lemmas.Nat.{mul-mod_first, mul-mod_second, pow-add, mul-pow, pow-mod}
use Rattle.algebra.specs.Primes.{IsPrime, inverse_modulo}
use Rattle.algebra.proofs.Primes.{inverse_modulo-mul}

-- the binomial numbers
unfoldable choose : ℕ → ℕ → ℕ
choose zero zero = 1
choose zero (suc k) = 0
choose (suc n) zero = 1
choose (suc n) (suc k) = choose n k + choose n (suc k)

choose-zero : (n : ℕ) → choose n 0 ≡ 1
unfolding choose
choose-zero zero = refl
choose-zero (suc n) = refl

choose-of_none : (k : ℕ) → choose 0 (suc k) ≡ 0
unfolding choose
choose-of_none k = refl

choose-suc : (n k : ℕ) → choose (suc n) (suc k) ≡ choose n k + choose n (suc k)
unfolding choose
choose-suc n k = refl

choose-above : (n k : ℕ) → n < k → choose n k ≡ 0
choose-above n zero l = absurd (omega arith)
choose-above zero (suc k) l = choose-of_none k
choose-above (suc n) (suc k) l = choose-suc n k ∙ omega (arith, choose-above n k (omega arith), choose-above n (suc k) (omega arith))

choose-self : (n : ℕ) → choose n n ≡ 1
choose-self zero = choose-zero 0
choose-self (suc n) = choose-suc n n ∙ omega (arith, choose-self n, choose-above n (suc n) (omega arith))

absorb_step : (j m x y z v : ℕ) → v ≡ x + y → suc j * v ≡ suc m * x → suc (suc j) * z ≡ suc m * y → suc (suc j) * (v + z) ≡ suc (suc m) * v
absorb_step j m x y z v e a b = rw e (let a' : suc j * (x + y) ≡ suc m * x = rw (← e) a in omega arith)

-- `k` times the `k`-th of `n` binomial numbers is `n` times one of the row above
choose-absorb : (n k : ℕ) → suc k * choose (suc n) (suc k) ≡ suc n * choose n k
choose-absorb zero zero = rw (choose-suc 0 0, choose-zero 0, choose-of_none 0)
choose-absorb zero (suc k) = rw (choose-suc 0 (suc k), choose-of_none k, choose-of_none (suc k)) (omega arith)
choose-absorb (suc m) zero =
    let e = choose-absorb m zero in
    rw (choose-suc (suc m) 0, choose-zero (suc m)) (omega (arith, rw (choose-zero m) at e))
choose-absorb (suc m) (suc j) =
    rw (choose-suc (suc m) (suc j)) (absorb_step j m (choose m j) (choose m (suc j)) (choose (suc m) (suc (suc j))) (choose (suc m) (suc j)) (choose-suc m j) (choose-absorb m j) (choose-absorb m (suc j)))

-- the first `m` terms of `(1 + x)^n`
abbrev first_terms : ℕ → ℕ → ℕ → ℕ
first_terms n zero x = 0
first_terms n (suc m) x = first_terms n m x + choose n m * x ^ m

regroup : (s x q c d r : ℕ) → (s + x * q) + (c + d) * (x * r) ≡ (s + d * (x * r)) + x * (q + c * r)
regroup s x q c d r = omega arith

first_terms-suc : (n m x : ℕ) → first_terms (suc n) (suc m) x ≡ first_terms n (suc m) x + x * first_terms n m x
first_terms-suc n zero x = rw (choose-zero (suc n), choose-zero n, pow-zero) (omega arith)
first_terms-suc n (suc m) x =
    rw (first_terms-suc n m x, choose-suc n m, pow-succ' x m)
    (regroup (first_terms n (suc m) x) x (first_terms n m x) (choose n m) (choose n (suc m)) (x ^ m))

binomial_theorem : (n x : ℕ) → suc x ^ n ≡ first_terms n (suc n) x
binomial_theorem zero x = rw (pow-zero, choose-zero 0, pow-zero)
binomial_theorem (suc n) x =
    pow-succ' (suc x) n ∙ ap (λ t. suc x * t) (binomial_theorem n x)
    ∙ (let z : choose n (suc n) ≡ 0 = choose-above n (suc n) (omega arith) in
    let f : first_terms n (suc (suc n)) x ≡ first_terms n (suc n) x = rw z (omega arith) in
    omega (arith, f))
    ∙ sym (first_terms-suc n (suc n) x)

module _ (p : ℕ) (prime : IsPrime p) where
  -- a factor that isn't zero goes out of a zero
  cancel_factor : (k c : ℕ) → 0 < k → k < p → k * c % p ≡ 0 → c % p ≡ 0
  cancel_factor k c pos less e =
      let v = inverse_modulo p k k in
      let i : k * v % p ≡ 1 = inverse_modulo-mul p prime k k pos less (omega arith) in
      ap (λ t. t % p) (sym (mul-one c))
      ∙ ap (λ t. c * t % p) (sym i)
      ∙ mul-mod_second c (k * v) p
      ∙ ap (λ t. t % p) (let o : c * (k * v) ≡ k * c * v = omega arith in o)
      ∙ sym (mul-mod_first (k * c) v p)
      ∙ ap (λ t. t * v % p) e
      ∙ ap (λ t. t % p) (let o : 0 * v ≡ 0 = omega arith in o)
      ∙ mod-eq_of_lt (omega (arith, prime.0))

  -- a prime divides its binomial numbers but for the first and the last
  choose-middle : (n j : ℕ) → p ≡ suc n → suc j < p → choose p (suc j) % p ≡ 0
  choose-middle n j e less =
      cancel_factor (suc j) (choose p (suc j)) (omega arith) less
      (ap (λ t. suc j * choose t (suc j) % p) e ∙ ap (λ t. t % p) (choose-absorb n j) ∙ ap (λ t. t * choose n j % p) (sym e) ∙ mul-mod_right p (choose n j))

  first_terms-mod : (n m x : ℕ) → p ≡ suc n → m < p → first_terms p (suc m) x % p ≡ 1
  first_terms-mod n zero x e less = rw (choose-zero p, pow-zero) (mod-eq_of_lt prime.0)
  first_terms-mod n (suc m) x e less =
      add-mod (first_terms p (suc m) x) (choose p (suc m) * x ^ suc m) p
      ∙ ap (λ t. (t + choose p (suc m) * x ^ suc m % p) % p) (first_terms-mod n m x e (omega arith))
      ∙ ap (λ t. (1 + t) % p) (sym (mul-mod_first (choose p (suc m)) (x ^ suc m) p) ∙ ap (λ t. t * x ^ suc m % p) (choose-middle n m e less) ∙ ap (λ t. t % p) (let o : 0 * x ^ suc m ≡ 0 = omega arith in o))
      ∙ ap (λ t. (1 + t) % p) (mod-eq_of_lt (omega (arith, prime.0)))
      ∙ mod-eq_of_lt prime.0

  -- raising to the power `p` keeps sums with one
  suc-pow : (n x : ℕ) → p ≡ suc n → suc x ^ p % p ≡ suc (x ^ p) % p
  suc-pow n x e =
      ap (λ t. t % p) (binomial_theorem p x)
      ∙ add-mod (first_terms p p x) (choose p p * x ^ p) p
      ∙ ap (λ t. (t + choose p p * x ^ p % p) % p) (ap (λ t. first_terms p t x % p) e ∙ first_terms-mod n n x e (omega arith))
      ∙ ap (λ t. (1 + t * x ^ p % p) % p) (choose-self p)
      ∙ add-mod-mod 1 (1 * x ^ p) p
      ∙ ap (λ t. t % p) (let o : 1 + 1 * x ^ p ≡ suc (x ^ p) = omega arith in o)

  -- Fermat's little theorem, modulo a prime `n + 1`
  pub fermat : (n a : ℕ) → p ≡ suc n → a ^ p % p ≡ a % p
  fermat n zero e = ap (λ t. t % p) (ap (λ t. 0 ^ t) e ∙ pow-suc 0 n ∙ (let o : 0 ^ n * 0 ≡ 0 = omega arith in o))
  fermat n (suc a) e =
      suc-pow n a e
      ∙ ap (λ t. t % p) (let o : suc (a ^ p) ≡ 1 + a ^ p = omega arith in o)
      ∙ sym (add-mod-mod 1 (a ^ p) p)
      ∙ ap (λ t. (1 + t) % p) (fermat n a e)
      ∙ add-mod-mod 1 a p
      ∙ ap (λ t. t % p) (let o : 1 + a ≡ suc a = omega arith in o)

  -- the power one below the prime is one
  pub fermat_one : (n a : ℕ) → p ≡ suc n → 0 < a → a < p → a ^ n % p ≡ 1
  fermat_one n a e pos less =
      let v = inverse_modulo p a a in
      let i : a * v % p ≡ 1 = inverse_modulo-mul p prime a a pos less (omega arith) in
      ap (λ t. t % p) (sym (mul-one (a ^ n)))
      ∙ ap (λ t. a ^ n * t % p) (sym i)
      ∙ mul-mod_second (a ^ n) (a * v) p
      ∙ ap (λ t. t % p) (let o : a ^ n * (a * v) ≡ a ^ n * a * v = sym (mul_assoc (a ^ n) a v) in o)
      ∙ ap (λ t. t * v % p) (sym (pow-suc a n) ∙ ap (λ t. a ^ t) (sym e))
      ∙ sym (mul-mod_first (a ^ p) v p)
      ∙ ap (λ t. t * v % p) (fermat n a e)
      ∙ mul-mod_first a v p
      ∙ i

  -- Euler's criterion, in the direction from a square: its power to half of `p - 1` is one
  pub square_half_power : (h s : ℕ) → p ≡ suc (h + h) → 0 < s → s < p → (s * s % p) ^ h % p ≡ 1
  square_half_power h s e pos less =
      pow-mod (s * s) h p
      ∙ ap (λ t. t % p) (mul-pow s s h ∙ sym (pow-add s h h))
      ∙ fermat_one (h + h) s e pos less
