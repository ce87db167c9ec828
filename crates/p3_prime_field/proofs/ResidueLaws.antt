-- The numbers modulo a prime are a field.
use Rattle.std.specs.Prelude.{ℕ, zero, suc, ◌+◌, ◌-◌, ◌*◌, ◌%◌, ◌^◌, ◌<◌, ◌≡◌, ◌≢◌, ◌⊎◌, refl}
use Rattle.std.specs.Prelude.{IsTrue, ◌==◌, ◌↔◌}
use Rattle.std.proofs.Common.{sym, ◌∙◌, ap, arith, add_comm, add_assoc, mul_comm, inl, inr}
use Rattle.std.proofs.Math.Nat.{mod-eq_of_lt, add-mod-mod, mod-add-mod, mod_self}
use Rattle.std.proofs.Math.Nat.{mul_assoc, add-mod, mod-mod, pow-zero, pow-succ'}
use Rattle.std.proofs.lemmas.Nat.{mul-mod_first, mul-mod_second}
use Rattle.std.proofs.lemmas.Bool.Decides.{Decides-eqb, eqb_tells}
use Rattle.algebra.specs.Field.{IsRing, IsField, multiple, pow}
use Rattle.algebra.specs.Primes.{IsPrime, inverse_modulo}
use Rattle.algebra.proofs.Primes.{inverse_modulo-mul}
use Rattle.algebra.proofs.Combine.{inverse_unique}
use Rattle.p3_prime_field.specs.Residues.{Residues, modulo}

negated : (p a : ℕ) → a < p → (a + (p - a) % p) % p ≡ 0
negated p a l =
    add-mod-mod a (p - a) p ∙ (let e : a + (p - a) ≡ p = omega arith in rw e (mod_self p))

module _ {E : Type 0} (p : ℕ) (N : Residues p E) where
  open N use {value, element}

  pub equal : (m n : ℕ) → m % p ≡ n % p → element m ≡ element n
  equal m n e = N.same _ _ (N.counts m ∙ e ∙ sym (N.counts n))

  -- an element is the one of its number
  pub of_value : (x : E) → element (value x) ≡ x
  of_value x = N.same _ _ (N.counts (value x) ∙ mod-eq_of_lt (N.canonical x))

  -- what a number leaves counts as it does
  pub rest_is : (n : ℕ) → element (n % p) ≡ element n
  rest_is n = equal (n % p) n (mod-mod n p)

  pub residue_ring : IsRing (modulo p N)
  residue_ring = record {
    add_assoc = λ a b c. equal _ _ (rw (N.counts (value a + value b), N.counts (value b + value c))
        (mod-add-mod (value a + value b) p (value c)
        ∙ ap (λ x. x % p) (add_assoc (value a) (value b) (value c))
        ∙ sym (add-mod-mod (value a) (value b + value c) p)));
    add_comm = λ a b. ap element (add_comm (value a) (value b));
    add_zero = λ a. equal _ _ (rw (N.counts 0) (add-mod-mod (value a) 0 p))
        ∙ ap element (let o : value a + 0 ≡ value a = omega arith in o) ∙ of_value a;
    add_neg = λ a. equal _ _ (rw (N.counts (p - value a))
        (negated p (value a) (N.canonical a) ∙ (let o : 0 ≡ 0 % p = omega arith in o)));
    mul_assoc = λ a b c. equal _ _ (rw (N.counts (value a * value b), N.counts (value b * value c))
        (mul-mod_first (value a * value b) (value c) p
        ∙ ap (λ x. x % p) (mul_assoc (value a) (value b) (value c))
        ∙ sym (mul-mod_second (value a) (value b * value c) p)));
    mul_comm = λ a b. ap element (mul_comm (value a) (value b));
    mul_one = λ a. equal _ _ (rw (N.counts 1) (mul-mod_second (value a) 1 p))
        ∙ ap element (let o : value a * 1 ≡ value a = omega arith in o) ∙ of_value a;
    mul_add = λ a b c. equal _ _
        (rw (N.counts (value b + value c), N.counts (value a * value b), N.counts (value a * value c))
        (mul-mod_second (value a) (value b + value c) p
        ∙ ap (λ x. x % p) (omega arith)
        ∙ add-mod (value a * value b) (value a * value c) p));
  }

  pub residue_positive : (x : E) → x ≢ element 0 → 0 < value x
  residue_positive x h =
      let s : (0 < value x) ⊎ (value x ≡ 0) = grind arith in
      elim s [ inl l ↦ l | inr e ↦ absurd (h (sym (of_value x) ∙ ap element e)) ]

  -- elements of different numbers differ
  pub residues_apart : (m n : ℕ) → m < p → n < p → m ≢ n → element m ≢ element n
  residues_apart m n l k h e =
      h (sym (mod-eq_of_lt l) ∙ sym (N.counts m) ∙ ap value e ∙ N.counts n ∙ mod-eq_of_lt k)

  pub residue_eq : (x y : E) → IsTrue (value x == value y) ↔ (x ≡ y)
  residue_eq x y = (
    λ t. N.same x y ((Decides-eqb (value x) (value y)).0 t),
    λ e. (Decides-eqb (value x) (value y)).1 (ap value e),
  )

  residue_decided : (x y : E) → Dec (x ≡ y)
  residue_decided x y =
      elim (eqb_tells (value x) (value y))
      [ inl t ↦ yes (N.same x y t.1) | inr n ↦ no (λ e. n.1 (ap value e)) ]

  -- sums of two numbers
  pub sum_is : (m n : ℕ) → element (m + n) ≡ (modulo p N).add (element m) (element n)
  sum_is m n = equal _ _ (rw (N.counts m, N.counts n) (add-mod m n p))

  pub product_is : (m n : ℕ) → element (m * n) ≡ (modulo p N).mul (element m) (element n)
  product_is m n = equal _ _ (rw (N.counts m, N.counts n)
      (sym (mul-mod_first m (n % p) p ∙ mul-mod_second m n p)))

  pub residue_two : element 2 ≡ (modulo p N).add (element 1) (element 1)
  residue_two = sum_is 1 1

  pub residue_field : IsPrime p → 2 < p → IsField (modulo p N)
  residue_field prime above = record {
    ring = residue_ring;
    one_not_zero = residues_apart 1 0 (omega (arith, above)) (omega (arith, above)) (λ e. omega (arith, e));
    two_not_zero = λ e. residues_apart 2 0 above (omega (arith, above)) (λ e. omega (arith, e)) (residue_two ∙ e);
    mul_inv = λ a h. equal _ _ (rw (N.counts (inverse_modulo p (value a) (value a)))
        (mul-mod_second (value a) (inverse_modulo p (value a) (value a)) p
        ∙ inverse_modulo-mul p prime (value a) (value a) (residue_positive a h) (N.canonical a)
        (omega arith) ∙ sym (mod-eq_of_lt (omega (arith, above)))));
    decided = residue_decided;
  }

  -- multiples of one are the elements of their numbers
  pub multiple_is : (n : ℕ) → multiple (modulo p N) n ≡ element n
  unfolding multiple
  multiple_is zero = refl
  multiple_is (suc n) =
      ap (λ x. element (value x + value (element 1))) (multiple_is n) ∙ sym (sum_is n 1)
      ∙ ap element (omega arith)

  pub value_of_multiple : (n : ℕ) → value (multiple (modulo p N) n) ≡ n % p
  value_of_multiple n = ap value (multiple_is n) ∙ N.counts n

  pub multiple_of_value : (x : E) → multiple (modulo p N) (value x) ≡ x
  multiple_of_value x = multiple_is (value x) ∙ of_value x

  -- powers of numbers
  pub pow_is : (w n : ℕ) → pow (modulo p N) (element w) n ≡ element (w ^ n)
  unfolding pow
  pow_is w zero = ap element (sym (pow-zero w))
  pow_is w (suc n) =
      ap (λ x. (modulo p N).mul (element w) x) (pow_is w n) ∙ sym (product_is w (w ^ n))
      ∙ ap element (sym (pow-succ' w n))

  -- a power that is known of a variable, so that nothing computes it outright
  pub known_power : (w n m : ℕ) → ((v : ℕ) → v ≡ w → v ^ n % p ≡ m % p)
      → pow (modulo p N) (element w) n ≡ element m
  known_power w n m known = pow_is w n ∙ equal (w ^ n) m (known w refl)

  pub residue_inverse : IsPrime p → 2 < p → (x y : E) → x ≢ element 0
      → (value x * value y) % p ≡ 1 → y ≡ (modulo p N).inv x
  residue_inverse prime above x y h e =
      inverse_unique (modulo p N) (residue_field prime above) x y h
      (equal _ _ (e ∙ sym (mod-eq_of_lt (omega (arith, above)))))
