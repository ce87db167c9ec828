-- The extension by a square root of `w` is a field where `w` is no square.
use Rattle.std.specs.Prelude.{ℕ, ◌==◌, ◌&&◌, ◌↔◌, IsTrue, length, slice_index_or}
use Rattle.std.proofs.Common.{◌≡◌, List, [], ◌∷◌, refl, ap, ◌∙◌, arith}
use Rattle.std.proofs.lemmas.Bool.Decides.{Decides-eqb, Decides-and}
use Rattle.algebra.specs.Field.{FieldOps, IsRing, IsField, IsHomomorphism}
use Rattle.algebra.specs.Polynomial.{sum_below}
use Rattle.algebra.proofs.Ring.{Expr, var, ◌:+◌, ◌:*◌, ◌:-◌, ◌:=◌, norm, eval, solve, ring}
use Rattle.algebra.proofs.Ring.{terms, o, :1, minus}
use Rattle.algebra.proofs.Combine.{sub-eq, cancel_zero}
use Rattle.p3_field_core.specs.Basis.{unit_vector}
use Rattle.p3_prime_field.specs.Residues.{Residues}
use Rattle.p3_binomial_extension.specs.Quadratic.{Quadratic, quadratic, quadratic_mul}
use Rattle.p3_binomial_extension.specs.Quadratic.{quadratic_norm, quadratic_coefficients}
use Rattle.p3_binomial_extension.specs.Quadratic.{quadratic_of_list}

-- the element of two coefficients
abbrev pub two : {A : Type 0} → A → A → Quadratic A
two a b = record { constant = a; linear = b }

pub quadratic_equal : {A : Type 0} {a b : Quadratic A} → a.constant ≡ b.constant
    → a.linear ≡ b.linear → a ≡ b
quadratic_equal p q = λ i. record { constant = p i; linear = q i }

-- the ring of terms, in which `w` is the first variable, and elements of variables
abbrev Q : FieldOps (Quadratic Expr)
Q = quadratic terms (var 0)

abbrev pub first : Quadratic Expr
first = two (var 1) (var 2)

abbrev pub second : Quadratic Expr
second = two (var 3) (var 4)

abbrev third : Quadratic Expr
third = two (var 5) (var 6)

module _ {A : Type 0} (F : FieldOps A) (R : IsRing F) where
  abbrev evaluated : List A → Quadratic Expr → Quadratic A
  evaluated xs a = two (eval F xs a.constant) (eval F xs a.linear)

  -- an identity of elements, coefficient by coefficient
  quadratic_solve : (xs : List A) (a b : Quadratic Expr) → norm a.constant ≡ norm b.constant
      → norm a.linear ≡ norm b.linear → evaluated xs a ≡ evaluated xs b
  quadratic_solve xs a b p q =
      quadratic_equal (solve F R xs a.constant b.constant p) (solve F R xs a.linear b.linear q)

module _ {A : Type 0} (F : FieldOps A) (R : IsRing F) (w : A) where
  infixl 65 ◌⊕◌
  infixl 70 ◌⊗◌
  open F use {zero as 𝟘, one as 𝟙, add as ◌⊕◌, mul as ◌⊗◌, neg}

  -- the values of the variables
  abbrev pub quadratic_values : Quadratic A → Quadratic A → Quadratic A → List A
  quadratic_values a b c =
      w ∷ a.constant ∷ a.linear ∷ b.constant ∷ b.linear ∷ c.constant ∷ c.linear ∷ []

  quadratic_ring : IsRing (quadratic F w)
  quadratic_ring = record {
    add_assoc = λ a b c. quadratic_solve F R (quadratic_values a b c)
        (Q.add (Q.add first second) third) (Q.add first (Q.add second third)) refl refl;
    add_comm = λ a b. quadratic_solve F R (quadratic_values a b a)
        (Q.add first second) (Q.add second first) refl refl;
    add_zero = λ a. quadratic_solve F R (quadratic_values a a a) (Q.add first Q.zero) first refl refl;
    add_neg = λ a. quadratic_solve F R (quadratic_values a a a)
        (Q.add first (Q.neg first)) Q.zero refl refl;
    mul_assoc = λ a b c. quadratic_solve F R (quadratic_values a b c)
        (Q.mul (Q.mul first second) third) (Q.mul first (Q.mul second third)) refl refl;
    mul_comm = λ a b. quadratic_solve F R (quadratic_values a b a)
        (Q.mul first second) (Q.mul second first) refl refl;
    mul_one = λ a. quadratic_solve F R (quadratic_values a a a) (Q.mul first Q.one) first refl refl;
    mul_add = λ a b c. quadratic_solve F R (quadratic_values a b c)
        (Q.mul first (Q.add second third)) (Q.add (Q.mul first second) (Q.mul first third)) refl refl;
  }

  -- constant polynomials are a copy of the field
  pub quadratic_constants : IsHomomorphism F (quadratic F w) (λ x. two x 𝟘)
  quadratic_constants = record {
    zero = refl;
    one = refl;
    add = λ x y. quadratic_solve F R (w ∷ x ∷ y ∷ []) (two (var 1 :+ var 2) o)
        (Q.add (two (var 1) o) (two (var 2) o)) refl refl;
    mul = λ x y. quadratic_solve F R (w ∷ x ∷ y ∷ []) (two (var 1 :* var 2) o)
        (Q.mul (two (var 1) o) (two (var 2) o)) refl refl;
  }

  -- to multiply by one of them scales each coefficient
  pub quadratic_mul-constant : (a : Quadratic A) (k : A)
      → quadratic_mul F w a (two k 𝟘) ≡ two (a.constant ⊗ k) (a.linear ⊗ k)
  quadratic_mul-constant a k = quadratic_solve F R (quadratic_values a (two k k) a)
      (Q.mul first (two (var 3) o)) (two (var 1 :* var 3) (var 2 :* var 3)) refl refl

  -- an element times what its norm makes an inverse of
  times_conjugate : (a : Quadratic A) (i : A)
      → quadratic_mul F w a (two (a.constant ⊗ i) (neg (a.linear ⊗ i)))
      ≡ two (quadratic_norm F w a ⊗ i) 𝟘
  times_conjugate a i = quadratic_solve F R (quadratic_values a (two i i) a)
      (Q.mul first (two (var 1 :* var 3) (minus (var 2 :* var 3))))
      (two ((var 1 :* var 1 :- var 0 :* (var 2 :* var 2)) :* var 3) o) refl refl

module _ {A : Type 0} (F : FieldOps A) (L : IsField F) where
  infixl 65 ◌⊕◌
  infixl 70 ◌⊗◌
  open F use {zero as 𝟘, one as 𝟙, add as ◌⊕◌, mul as ◌⊗◌, neg, inv}

  -- the square of a quotient
  quotient_square : (w x y : A) → ¬ (y ≡ 𝟘) → x ⊗ x ≡ w ⊗ (y ⊗ y)
      → (x ⊗ inv y) ⊗ (x ⊗ inv y) ≡ w
  quotient_square w x y n e =
      ring F L.ring 2 (λ x j. (x :* j) :* (x :* j) := (x :* x) :* (j :* j)) refl x (inv y)
      ∙ ap (λ t. t ⊗ (inv y ⊗ inv y)) e
      ∙ ring F L.ring 3 (λ w y j. (w :* (y :* y)) :* (j :* j) := w :* ((y :* j) :* (y :* j))) refl
      w y (inv y)
      ∙ ap (λ t. w ⊗ (t ⊗ t)) (L.mul_inv y n)
      ∙ ring F L.ring 1 (λ w. w :* (:1 :* :1) := w) refl w

  module _ (w : A) (no_square : (s : A) → ¬ (s ⊗ s ≡ w)) where
    norm_zero : (a : Quadratic A) → quadratic_norm F w a ≡ 𝟘 → a ≡ (quadratic F w).zero
    norm_zero a e =
        let squares = sub-eq F L.ring e in
        elim (L.decided a.linear 𝟘) [
          | yes z ↦ quadratic_equal (square_zero a.constant (squares
              ∙ ap (λ t. w ⊗ (t ⊗ t)) z ∙ ring F L.ring 1 (λ w. w :* (o :* o) := o) refl w)) z
          | no n ↦ absurd (no_square (a.constant ⊗ inv a.linear)
              (quotient_square w a.constant a.linear n squares))
        ]
      where
        square_zero : (x : A) → x ⊗ x ≡ 𝟘 → x ≡ 𝟘
        square_zero x e = elim (L.decided x 𝟘) [ yes z ↦ z | no n ↦ cancel_zero F L x x n e ]

    pub quadratic_norm_not_zero : (a : Quadratic A) → ¬ (a ≡ (quadratic F w).zero)
        → ¬ (quadratic_norm F w a ≡ 𝟘)
    quadratic_norm_not_zero a n e = n (norm_zero a e)

    decided_quadratic : (a b : Quadratic A) → Dec (a ≡ b)
    decided_quadratic a b =
        elim (L.decided a.constant b.constant) [
          | no n ↦ no (λ e. n (ap (λ (t : Quadratic A). t.constant) e))
          | yes p ↦ elim (L.decided a.linear b.linear) [
            | no n ↦ no (λ e. n (ap (λ (t : Quadratic A). t.linear) e))
            | yes q ↦ yes (quadratic_equal p q)
          ]
        ]

    pub quadratic_field : IsField (quadratic F w)
    quadratic_field = record {
      ring = quadratic_ring F L.ring w;
      one_not_zero = λ e. L.one_not_zero (ap (λ (t : Quadratic A). t.constant) e);
      two_not_zero = λ e. L.two_not_zero (ap (λ (t : Quadratic A). t.constant) e);
      mul_inv = λ a n. times_conjugate F L.ring w a (inv (quadratic_norm F w a))
          ∙ ap (λ t. two t 𝟘) (L.mul_inv (quadratic_norm F w a) (quadratic_norm_not_zero a n));
      decided = decided_quadratic;
    }

pub quadratic_injective : {A : Type 0} (x y : Quadratic A)
    → quadratic_coefficients x ≡ quadratic_coefficients y → x ≡ y
quadratic_injective x y e = quadratic_equal (cc) (cc)

pub quadratic_of_list_law : {A : Type 0} (F : FieldOps A) (xs : List A) → length xs ≡ 2
    → quadratic_coefficients (quadratic_of_list F xs) ≡ xs
quadratic_of_list_law F [] e = absurd (omega (arith, e))
quadratic_of_list_law F (a ∷ []) e = absurd (omega (arith, e))
quadratic_of_list_law F (a ∷ b ∷ []) e = refl
quadratic_of_list_law F (a ∷ b ∷ x ∷ xs) e = absurd (omega (arith, e))

-- the elements are told by the numbers of their coefficients
pub quadratic_eq : {A : Type 0} (p : ℕ) (N : Residues p A) (x y : Quadratic A)
    → IsTrue (N.value x.constant == N.value y.constant && N.value x.linear == N.value y.linear)
    ↔ (x ≡ y)
quadratic_eq {A} p N x y =
    let v = N.value in
    let agree =
    Decides-and _ _ (Decides-eqb (v x.constant) (v y.constant))
    (Decides-eqb (v x.linear) (v y.linear)) in (
      (λ t. let e = agree.0 t in quadratic_equal (N.same _ _ e.0) (N.same _ _ e.1)),
      (λ e. agree.1 (
        ap (λ (z : Quadratic A). v z.constant) e,
        ap (λ (z : Quadratic A). v z.linear) e,
      )),
    )

-- the sum of the coefficients times one and the root, in terms of variables
abbrev basis_sum : Quadratic Expr
basis_sum =
    Q.add (Q.mul (two (var 1) o) (two :1 o)) (Q.add (Q.mul (two (var 2) o) (two o :1)) Q.zero)

-- each element is that sum
pub quadratic_basis : {A : Type 0} (F : FieldOps A) → IsRing F → (w : A) (x : Quadratic A)
    → x ≡ sum_below (quadratic F w) 2 (λ k. quadratic_mul F w
    (two (slice_index_or (quadratic_coefficients x) k F.zero) F.zero)
    (quadratic_of_list F (unit_vector F 2 k)))
unfolding sum_below
quadratic_basis F R w x =
    let xs = quadratic_values F R w x x x in
    quadratic_equal (solve F R xs (var 1) basis_sum.constant refl)
    (solve F R xs (var 2) basis_sum.linear refl)
