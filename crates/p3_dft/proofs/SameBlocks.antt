-- What layers make of blocks of the same entries, with the same twiddles.
use Rattle.std.proofs.Common.{◌≡◌, ℕ, ◌+◌, ◌<◌, refl, ap, ap₂, ◌∙◌, arith}
use Rattle.algebra.specs.Field.{FieldOps, sub}
use Rattle.p3_dft.specs.Butterflies.{sum_at, difference_at, sum_of_sums, difference_of_sums}
use Rattle.p3_dft.specs.Butterflies.{sum_of_differences, difference_of_differences}

module _ {A : Type 0} (F : FieldOps A) (x y : ℕ → A) (t u : A) (twiddle : t ≡ u) where
  module _ (h : ℕ) (same : (i : ℕ) → i < h + h → x i ≡ y i) (n j : ℕ) (e : n ≡ h) (l : j < h) where
    products : F.mul (x (j + h)) t ≡ F.mul (y (j + h)) u
    products = ap₂ (λ a b. F.mul a b) (same (j + h) (omega (arith, l))) twiddle

    pub same_sum : sum_at F x t n j ≡ sum_at F y u h j
    same_sum =
        ap (λ n. sum_at F x t n j) e
        ∙ ap₂ (λ a b. F.add a b) (same j (omega (arith, l))) products

    pub same_difference : difference_at F x t n j ≡ difference_at F y u h j
    same_difference =
        ap (λ n. difference_at F x t n j) e
        ∙ ap₂ (λ a b. sub F a b) (same j (omega (arith, l))) products

module _ {A : Type 0} (F : FieldOps A) (x y : ℕ → A) (t u : A) (twiddle : t ≡ u)
    (q : ℕ) (same : (i : ℕ) → i < q + q + (q + q) → x i ≡ y i)
    (v w : A) (next : v ≡ w) (n j : ℕ) (e : n ≡ q) (l : j < q) where
  sums : (i : ℕ) → i < q + q → sum_at F x t (q + q) i ≡ sum_at F y u (q + q) i
  sums i b = same_sum F x y t u twiddle (q + q) same (q + q) i refl b

  differences : (i : ℕ) → i < q + q → difference_at F x t (q + q) i ≡ difference_at F y u (q + q) i
  differences i b = same_difference F x y t u twiddle (q + q) same (q + q) i refl b

  pub same_sum_of_sums : sum_of_sums F x t v n j ≡ sum_of_sums F y u w q j
  same_sum_of_sums =
      ap (λ n. sum_of_sums F x t v n j) e
      ∙ same_sum F (sum_at F x t (q + q)) (sum_at F y u (q + q)) v w next q sums q j refl l

  pub same_difference_of_sums : difference_of_sums F x t v n j ≡ difference_of_sums F y u w q j
  same_difference_of_sums =
      ap (λ n. difference_of_sums F x t v n j) e
      ∙ same_difference F (sum_at F x t (q + q)) (sum_at F y u (q + q)) v w next q sums q j refl l

  pub same_sum_of_differences : sum_of_differences F x t v n j ≡ sum_of_differences F y u w q j
  same_sum_of_differences =
      ap (λ n. sum_of_differences F x t v n j) e
      ∙ same_sum F (difference_at F x t (q + q)) (difference_at F y u (q + q)) v w next
      q differences q j refl l

  pub same_difference_of_differences :
      difference_of_differences F x t v n j ≡ difference_of_differences F y u w q j
  same_difference_of_differences =
      ap (λ n. difference_of_differences F x t v n j) e
      ∙ same_difference F (difference_at F x t (q + q)) (difference_at F y u (q + q)) v w next
      q differences q j refl l
