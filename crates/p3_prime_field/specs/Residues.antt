-- Prime fields as the numbers below their order, whatever type holds these.
use Rattle.std.specs.Prelude.{ℕ, ◌+◌, ◌-◌, ◌*◌, ◌%◌, ◌<◌, ◌≡◌}
use Rattle.algebra.specs.Field.{FieldOps}
use Rattle.algebra.specs.Primes.{inverse_modulo}

-- how the type `E` holds the numbers below `p`: an element has a number, each number counts as the
-- element of what it leaves modulo `p`, and an element is known by its number
pub record Residues (p : ℕ) (E : Type 0) : Type 0 where
  pub value : E → ℕ
  pub element : ℕ → E
  pub canonical : (x : E) → value x < p
  pub counts : (n : ℕ) → value (element n) ≡ n % p
  pub same : (x y : E) → value x ≡ value y → x ≡ y

-- the operations modulo `p`
abbrev pub modulo : {E : Type 0} (p : ℕ) → Residues p E → FieldOps E
modulo p N = record {
  zero = N.element 0;
  one = N.element 1;
  add = λ a b. N.element (N.value a + N.value b);
  mul = λ a b. N.element (N.value a * N.value b);
  neg = λ a. N.element (p - N.value a);
  inv = λ a. N.element (inverse_modulo p (N.value a) (N.value a));
}
