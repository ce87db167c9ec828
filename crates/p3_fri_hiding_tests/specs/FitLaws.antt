-- What may be committed to with a blowup of 4: matrices beside domains of so many times as many
-- points, and random polynomials on small domains.
use Rattle.std.specs.Prelude.{◌≡◌, ◌≤◌, ◌+◌, ℕ, List, [], ◌∷◌, map, All}
use Rattle.std.proofs.Common.{arith}
use Rattle.std.proofs.lemmas.List.Elements.{All-map, All-cons, All-nil}
use Rattle.p3_matrix.specs.declared.dense.RowMajorMatrix.{RowMajorMatrix}
use Rattle.p3_fri_extensions.specs.Extension.{FitsDomain}
use Rattle.p3_fri_hiding.specs.Trace.{FitsMasked}
use Rattle.p3_fri_hiding_tests.specs.Fits.{Fits}

module _ {D : Type 0} (log_size : D → ℕ) where
  -- the domains of matrices are small
  pub few : {A : Type 0} (es : List (D × RowMajorMatrix A))
      → All (λ e. Fits 2 (log_size e.0) e.1) es → All (λ d. log_size d ≤ 8) (map (λ e. e.0) es)
  few {A = A} es all = All-map (λ d. log_size d ≤ 8) (λ (e : D × RowMajorMatrix A). e.0) es
      (λ k d below. (all k d below).most)

  module _ (b : ℕ) (is : b ≡ 2) where
    pub domains : (ds : List D) → All (λ d. log_size d ≤ 8) ds
        → All (λ d. log_size d + b ≤ 27) ds
    domains ds all = λ k d below. let small = all k d below in omega (arith, small, is)

    module _ {A : Type 0} where
      pub masked : (es : List (D × RowMajorMatrix A)) → All (λ e. Fits 2 (log_size e.0) e.1) es
          → All (λ e. FitsMasked 27 b (log_size e.0) e.1) es
      masked es all = λ k d below.
          let fits = all k d below in
          record { twice = fits.scaled; within = omega (arith, fits.most, is) }

      pub one_masked : (e : D × RowMajorMatrix A) → Fits 2 (log_size e.0) e.1
          → All (λ e. FitsMasked 27 b (log_size e.0) e.1) (e ∷ [])
      one_masked e fits = All-cons (λ e. FitsMasked 27 b (log_size e.0) e.1) e []
          (record { twice = fits.scaled; within = omega (arith, fits.most, is) })
          (All-nil (λ e. FitsMasked 27 b (log_size e.0) e.1))

      pub one_plain : (e : D × RowMajorMatrix A) → Fits 1 (log_size e.0) e.1
          → All (λ e. FitsDomain 27 b (log_size e.0) e.1) (e ∷ [])
      one_plain e fits = All-cons (λ e. FitsDomain 27 b (log_size e.0) e.1) e []
          (record { height = omega (arith, fits.scaled); within = omega (arith, fits.most, is) })
          (All-nil (λ e. FitsDomain 27 b (log_size e.0) e.1))
