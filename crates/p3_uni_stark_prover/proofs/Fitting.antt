-- Whether a trace fits the field.
use Rattle.std.proofs.Common.{◌≡◌, ◌↔◌, ℕ, ◌+◌, ◌^◌, ◌≤◌, Bool, true, false, IsTrue, sym, subst, ◌∙◌}
use Rattle.std.proofs.Common.{arith, ap}
use Rattle.std.specs.Int.{IsPowerOfTwo, is_power_of_two}
use Rattle.p3_field_core.proofs.IndexPowers.{exponent_at_most, IsPowerOfTwo_test}
use Rattle.p3_air.specs.declared.air.Air.{Air}
use Rattle.p3_uni_stark_verifier.specs.Chunks.{hiding_bits, NeedsChunks}
use Rattle.p3_uni_stark_prover.specs.Provable.{FitsField}

pub same_power : (j k n : ℕ) → n ≡ 2 ^ j → n ≡ 2 ^ k → j ≡ k
same_power j k n a b =
    let up = exponent_at_most j k (omega (arith, a, b)) in
    let down = exponent_at_most k j (omega (arith, a, b)) in
    omega (arith, up, down)

-- constraints need one number of chunks
same_chunks : {V : Type 0} (zk : Bool) (air : Air V) (a b : ℕ) → NeedsChunks zk air a
    → NeedsChunks zk air b → a ≡ b
same_chunks zk air a b f g =
    let up = f.least.least b g.least.enough in
    let down = g.least.least a f.least.enough in
    omega (arith, up, down)

pub power_tested : (n : ℕ) (b : Bool) → b ≡ is_power_of_two n → IsTrue b ↔ IsPowerOfTwo n
power_tested n b is = (
  (λ t. (IsPowerOfTwo_test n).0 (sym is ∙ t)),
  (λ power. is ∙ (IsPowerOfTwo_test n).1 power),
)

-- what a bound's other name is
pub bound_named : (b : Bool) (n top most : ℕ) → top ≡ most → (IsTrue b ↔ (n ≤ top))
    → IsTrue b ↔ (n ≤ most)
bound_named b n top most e h = subst (λ m. IsTrue b ↔ (n ≤ m)) e h

never : (P : Type 0) → ¬ P → IsTrue false ↔ P
never P n = ((λ e. cc), (λ p. absurd (n p)))

module _ {V : Type 0} (top log_blowup : ℕ) (zk : Bool) (air : Air V) (n : ℕ) where
  pub no_power : ¬ IsPowerOfTwo n → IsTrue false ↔ FitsField top log_blowup zk air n
  no_power fails = never (FitsField top log_blowup zk air n) (λ f. fails (f.log_height, f.height))

  module _ (k : ℕ) (power : n ≡ 2 ^ k) where
    pub no_trace : (rows : ℕ) → rows ≡ k + hiding_bits zk → ¬ (rows + log_blowup ≤ top)
        → IsTrue false ↔ FitsField top log_blowup zk air n
    no_trace rows are fails = never (FitsField top log_blowup zk air n) (λ f.
        let same = same_power f.log_height k n f.height power in
        fails (subst (λ m. m + log_blowup ≤ top) (sym are)
        (subst (λ m. m + hiding_bits zk + log_blowup ≤ top) same f.trace)))

    pub fits_exactly : (rows log chunks : ℕ) → rows ≡ k + hiding_bits zk
        → rows + log_blowup ≤ top → NeedsChunks zk air log → chunks ≡ log + hiding_bits zk
        → (b : Bool) → (IsTrue b ↔ (k + chunks ≤ top))
        → IsTrue b ↔ FitsField top log_blowup zk air n
    fits_exactly rows log chunks are within needs counted b test = (
      (λ e. record {
        log_height = k;
        height = power;
        trace = subst (λ m. m + log_blowup ≤ top) are within;
        quotient = λ other others. subst (λ m. k + (m + hiding_bits zk) ≤ top)
            (same_chunks zk air log other needs others)
            (subst (λ m. k + m ≤ top) counted (test.0 e));
      }),
      (λ f. test.1 (subst (λ m. k + m ≤ top) (sym counted)
          (subst (λ m. m + (log + hiding_bits zk) ≤ top)
          (same_power f.log_height k n f.height power) (f.quotient log needs)))),
    )
