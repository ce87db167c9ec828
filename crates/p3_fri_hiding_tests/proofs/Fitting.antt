-- A matrix on a domain of as many points is a word.
use Rattle.std.proofs.Common.{◌≡◌, ◌+◌, ◌-◌, ◌^◌, ℕ, length, ap, ◌∙◌, arith}
use Rattle.p3_matrix.specs.declared.dense.RowMajorMatrix.{RowMajorMatrix}
use Rattle.p3_matrix.specs.Matrix.{rows}
use Rattle.p3_fri_two_adic.specs.Ldes.{HasLdeHeight}
use Rattle.p3_fri_hiding_tests.specs.Fits.{Fits}

pub word : {A : Type 0} (b : ℕ) → b ≡ 2 → (m : RowMajorMatrix A) (l : ℕ) → Fits 1 l m
    → HasLdeHeight 27 b m
word b is m l fits =
    let back : l ≡ (l - b) + b = omega (arith, fits.least, is) in
    let size : length (rows m) ≡ 2 ^ l = omega (arith, fits.scaled) in
    record {
      log_size = l - b;
      height = size ∙ ap (λ n. 2 ^ n) back;
      within = omega (arith, fits.least, fits.most, is);
    }
