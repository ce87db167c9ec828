-- Preprocessed columns beside a trace that fits the field.
use Rattle.std.proofs.Common.{◌≡◌, ◌≤◌, ◌+◌, ◌^◌, ℕ, Bool, true, false, subst, arith}
use Rattle.p3_air.specs.declared.air.Air.{Air}
use Rattle.p3_uni_stark_verifier.specs.Chunks.{hiding_bits}
use Rattle.p3_uni_stark_prover.specs.Provable.{FitsField}
use Rattle.p3_uni_stark_prover.proofs.Fitting.{same_power}

-- by whatever name the height's logarithm has
pub fits_trace : {V : Type 0} (top log_blowup : ℕ) (zk : Bool) (air : Air V) (n k : ℕ)
    → FitsField top log_blowup zk air n → n ≡ 2 ^ k → k + hiding_bits zk + log_blowup ≤ top
fits_trace top log_blowup zk air n k fits is =
    subst (λ j. j + hiding_bits zk + log_blowup ≤ top)
    (same_power fits.log_height k n fits.height is) fits.trace

-- a trace of 32 rows fits the field of BabyBear, with and without rows that hide it
pub small_hiding : (zk : Bool) → 5 + (0 + hiding_bits zk) ≤ 27
small_hiding true = omega arith
small_hiding false = omega arith

pub small_word : (zk : Bool) → 5 + hiding_bits zk + 1 ≤ 27
small_word true = omega arith
small_word false = omega arith
