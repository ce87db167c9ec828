-- The value of a periodic column at a point of a domain as large as its rows, or larger, depends on
-- the point's index modulo the period's share of the domain alone.
use Rattle.std.proofs.Common.{◌≡◌, ℕ, ◌+◌, ◌-◌, ◌*◌, ◌/◌, ◌%◌, ◌^◌, ◌≤◌, List}
use Rattle.std.proofs.Common.{sym, ap, ◌∙◌, arith, mul_comm, pow_pos}
use Rattle.std.proofs.lemmas.Nat.{mod-pow-add, mod-mul-add}
use Rattle.std.proofs.Math.Nat.{div-add-mod, mod-lt}
use Rattle.algebra.specs.Field.{FieldOps, IsField, pow}
use Rattle.algebra.specs.Polynomial.{val}
use Rattle.algebra.specs.TwoAdic.{AreRoots}
use Rattle.algebra.specs.Periodic.{column_polynomial, periodic_value}
use Rattle.algebra.proofs.RingLaws.{one_mul}
use Rattle.algebra.proofs.Powers.{pow-add, pow-mul, pow-times, pow-one_base}
use Rattle.algebra.proofs.Points.{full_turn, root-power}

module _ {A : Type 0} (F : FieldOps A) (L : IsField F) (top : ℕ) (w : ℕ → A)
    (W : AreRoots F top w) where
  infixl 70 ◌⊗◌
  open F use {one as 𝟙, mul as ◌⊗◌}

  -- the powers of a root repeat
  power_repeats : (k i : ℕ) → k ≤ top → pow F (w k) i ≡ pow F (w k) (i % 2 ^ k)
  power_repeats k i b =
      ap (λ n. pow F (w k) n)
      (sym (div-add-mod i (2 ^ k)) ∙ ap (λ n. n + i % 2 ^ k) (mul_comm (2 ^ k) (i / 2 ^ k)))
      ∙ pow-add F L.ring (w k) (i / 2 ^ k * 2 ^ k) (i % 2 ^ k)
      ∙ ap (λ x. x ⊗ pow F (w k) (i % 2 ^ k))
      (pow-mul F L.ring (w k) (i / 2 ^ k) (2 ^ k)
      ∙ ap (λ x. pow F x (i / 2 ^ k)) (full_turn F L top w W k b)
      ∙ pow-one_base F L.ring (i / 2 ^ k))
      ∙ one_mul F L.ring (pow F (w k) (i % 2 ^ k))

  -- a `2^m`-th power of a point of a larger domain
  point_power : (k m i : ℕ) (shift : A) → k + m ≤ top
      → pow F (shift ⊗ pow F (w (k + m)) i) (2 ^ m) ≡ pow F shift (2 ^ m) ⊗ pow F (w k) (i % 2 ^ k)
  point_power k m i shift b =
      sym (pow-times F L.ring shift (pow F (w (k + m)) i) (2 ^ m))
      ∙ ap (λ x. pow F shift (2 ^ m) ⊗ x)
      (sym (pow-mul F L.ring (w (k + m)) (2 ^ m) i)
      ∙ ap (λ n. pow F (w (k + m)) n) (mul_comm (2 ^ m) i)
      ∙ pow-mul F L.ring (w (k + m)) i (2 ^ m)
      ∙ ap (λ x. pow F x i) (root-power F L top w W m k b) ∙ power_repeats k i (omega (arith, b)))

  -- The value at the `i`-th point of a domain of `2^(n + b)` points is that of the column's
  -- polynomial at the point of index `i` modulo `2^(a + b)` of the domain of as many points.
  pub periodic_value_at_point : (a n b i : ℕ) (shift : A) (column : List A) → a ≤ n → n + b ≤ top
      → periodic_value F w a n column (shift ⊗ pow F (w (n + b)) i)
      ≡ val F (column_polynomial F w a column)
      (pow F shift (2 ^ (n - a)) ⊗ pow F (w (a + b)) (i % 2 ^ (a + b)))
  unfolding periodic_value
  periodic_value_at_point a n b i shift column l t =
      ap (λ x. val F (column_polynomial F w a column) x)
      (ap (λ k. pow F (shift ⊗ pow F (w k) i) (2 ^ (n - a)))
      (let e : n + b ≡ a + b + (n - a) = omega (arith, l) in e)
      ∙ point_power (a + b) (n - a) i shift (omega (arith, l, t)))

  -- so it repeats, after that many points and after any larger power of two of them
  pub periodic_value_repeats : (a n b q i : ℕ) (shift : A) (column : List A) → a ≤ q → q ≤ n
      → n + b ≤ top
      → periodic_value F w a n column (shift ⊗ pow F (w (n + b)) i)
      ≡ periodic_value F w a n column (shift ⊗ pow F (w (n + b)) (i % 2 ^ (q + b)))
  periodic_value_repeats a n b q i shift column l m t =
      periodic_value_at_point a n b i shift column (omega (arith, l, m)) t
      ∙ ap (λ j. val F (column_polynomial F w a column)
      (pow F shift (2 ^ (n - a)) ⊗ pow F (w (a + b)) j)) (sym same)
      ∙ sym (periodic_value_at_point a n b (i % 2 ^ (q + b)) shift column (omega (arith, l, m)) t)
    where
      same : i % 2 ^ (q + b) % 2 ^ (a + b) ≡ i % 2 ^ (a + b)
      same =
          ap (λ k. i % 2 ^ k % 2 ^ (a + b))
          (let e : q + b ≡ q - a + (a + b) = omega (arith, l) in e)
          ∙ ap (λ r. r % 2 ^ (a + b)) (mod-pow-add i (q - a) (a + b))
          ∙ mod-mul-add (i / 2 ^ (a + b) % 2 ^ (q - a)) (2 ^ (a + b)) (i % 2 ^ (a + b))
          (mod-lt i (pow_pos (a + b)))
