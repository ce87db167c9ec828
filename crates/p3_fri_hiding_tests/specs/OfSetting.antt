-- What a scheme has of a setting.
use Rattle.std.specs.Prelude.{◌≡◌, ◌<◌, ◌≤◌, ℕ}
use Rattle.std.proofs.Common.{sym, subst}

-- a blowup of 4, and so many random codewords; it opens where there are queries, and verifies where
-- the final polynomial is short
pub record IsOfSetting (log_blowup codewords : ℕ) (InProverRange InVerifierRange : Type 0)
    (num_random_codewords num_queries log_final_poly_len : ℕ) : Type 0 where
  pub blowup : log_blowup ≡ 2
  pub as_many : codewords ≡ num_random_codewords
  pub prover : 0 < num_queries → InProverRange
  pub verifier : log_final_poly_len ≤ 31 → InVerifierRange

-- a scheme of which only the generator moves on is still of the setting
pub kept : {S : Type 0} → (changed new : S) → new ≡ changed → (IsOf : S → Type 0) → IsOf changed
    → IsOf new
kept changed new same IsOf is = subst IsOf (sym same) is
