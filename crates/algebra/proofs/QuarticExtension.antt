-- The extension by a fourth root of `w` is a field where `w` is no square and -1 is one.
use Rattle.std.proofs.Common.{◌≡◌, List, [], ◌∷◌, ◌++◌, refl, sym, ap, ◌∙◌}
use Rattle.algebra.specs.Field.{FieldOps, IsRing, IsField, IsHomomorphism, sub}
use Rattle.algebra.specs.QuarticExtension.{Quartic, quartic, quartic_mul, conjugate, even_norm}
use Rattle.algebra.specs.QuarticExtension.{base_norm, quartic_inv, quartic_coefficients}
use Rattle.algebra.proofs.Ring.{Expr, var, lit, ◌:+◌, ◌:*◌, ◌:-◌, ◌:=◌, norm, eval, solve, ring}
use Rattle.algebra.proofs.Ring.{terms, o, :1, minus}
use Rattle.algebra.proofs.Combine.{combine2, sub-eq, cancel_zero}

-- the element of four coefficients
abbrev pub four : {A : Type 0} → A → A → A → A → Quartic A
four a b c d = record { constant = a; linear = b; quadratic = c; cubic = d }

pub quartic_equal : {A : Type 0} {a b : Quartic A} → a.constant ≡ b.constant → a.linear ≡ b.linear → a.quadratic ≡ b.quadratic → a.cubic ≡ b.cubic → a ≡ b
quartic_equal p q r s = λ i. record { constant = p i; linear = q i; quadratic = r i; cubic = s i }

-- the ring of terms, in which `w` is the first variable, and elements of variables
abbrev Q : FieldOps (Quartic Expr)
Q = quartic terms (var 0)

abbrev pub first : Quartic Expr
first = four (var 1) (var 2) (var 3) (var 4)

abbrev pub second : Quartic Expr
second = four (var 5) (var 6) (var 7) (var 8)

abbrev third : Quartic Expr
third = four (var 9) (var 10) (var 11) (var 12)

-- the even norm of `first`, the norms of its even and of its odd part, and what the sum of their
-- squares, the second `w` times, is of the coefficients of the even norm
abbrev squared : Quartic Expr
squared = even_norm terms (var 0) first

abbrev even_part : Expr
even_part = var 1 :* var 1 :- var 0 :* (var 3 :* var 3)

abbrev odd_part : Expr
odd_part = var 2 :* var 2 :- var 0 :* (var 4 :* var 4)

abbrev factor : Expr
factor = var 1 :* var 1 :+ var 0 :* (var 3 :* var 3) :+ lit 2 :* (var 0 :* (var 2 :* var 4))

abbrev other_factor : Expr
other_factor = minus (var 0 :* (lit 2 :* (var 1 :* var 3) :+ (var 2 :* var 2 :+ var 0 :* (var 4 :* var 4))))

module _ {A : Type 0} (F : FieldOps A) (R : IsRing F) where
  abbrev evaluated : List A → Quartic Expr → Quartic A
  evaluated xs a = four (eval F xs a.constant) (eval F xs a.linear) (eval F xs a.quadratic) (eval F xs a.cubic)

  -- an identity of elements, coefficient by coefficient
  quartic_solve : (xs : List A) (a b : Quartic Expr) → norm a.constant ≡ norm b.constant → norm a.linear ≡ norm b.linear → norm a.quadratic ≡ norm b.quadratic → norm a.cubic ≡ norm b.cubic → evaluated xs a ≡ evaluated xs b
  quartic_solve xs a b p q r s = quartic_equal (solve F R xs a.constant b.constant p) (solve F R xs a.linear b.linear q) (solve F R xs a.quadratic b.quadratic r) (solve F R xs a.cubic b.cubic s)

module _ {A : Type 0} (F : FieldOps A) (R : IsRing F) (w : A) where
  infixl 65 ◌⊕◌
  infixl 70 ◌⊗◌
  open F use {zero as 𝟘, one as 𝟙, add as ◌⊕◌, mul as ◌⊗◌, neg}

  -- the values of the variables
  abbrev pub values : Quartic A → Quartic A → Quartic A → List A
  values a b c = w ∷ (quartic_coefficients a ++ (quartic_coefficients b ++ quartic_coefficients c))

  pub quartic_ring : IsRing (quartic F w)
  quartic_ring = record {
    add_assoc = λ a b c. quartic_solve F R (values a b c) (Q.add (Q.add first second) third) (Q.add first (Q.add second third)) refl refl refl refl;
    add_comm = λ a b. quartic_solve F R (values a b a) (Q.add first second) (Q.add second first) refl refl refl refl;
    add_zero = λ a. quartic_solve F R (values a a a) (Q.add first Q.zero) first refl refl refl refl;
    add_neg = λ a. quartic_solve F R (values a a a) (Q.add first (Q.neg first)) Q.zero refl refl refl refl;
    mul_assoc = λ a b c. quartic_solve F R (values a b c) (Q.mul (Q.mul first second) third) (Q.mul first (Q.mul second third)) refl refl refl refl;
    mul_comm = λ a b. quartic_solve F R (values a b a) (Q.mul first second) (Q.mul second first) refl refl refl refl;
    mul_one = λ a. quartic_solve F R (values a a a) (Q.mul first Q.one) first refl refl refl refl;
    mul_add = λ a b c. quartic_solve F R (values a b c) (Q.mul first (Q.add second third)) (Q.add (Q.mul first second) (Q.mul first third)) refl refl refl refl;
  }

  -- constant polynomials are a copy of the field
  pub constants_homomorphism : IsHomomorphism F (quartic F w) (λ x. four x 𝟘 𝟘 𝟘)
  constants_homomorphism = record {
    zero = refl;
    one = refl;
    add = λ x y. quartic_solve F R (w ∷ x ∷ y ∷ []) (four (var 1 :+ var 2) o o o) (Q.add (four (var 1) o o o) (four (var 2) o o o)) refl refl refl refl;
    mul = λ x y. quartic_solve F R (w ∷ x ∷ y ∷ []) (four (var 1 :* var 2) o o o) (Q.mul (four (var 1) o o o) (four (var 2) o o o)) refl refl refl refl;
  }

  -- to multiply by one of them scales each coefficient
  pub quartic_mul-constant : (a : Quartic A) (k : A) → quartic_mul F w a (four k 𝟘 𝟘 𝟘) ≡ four (a.constant ⊗ k) (a.linear ⊗ k) (a.quadratic ⊗ k) (a.cubic ⊗ k)
  quartic_mul-constant a k = quartic_solve F R (values a (four k k k k) a) (Q.mul first (four (var 5) o o o)) (four (var 1 :* var 5) (var 2 :* var 5) (var 3 :* var 5) (var 4 :* var 5)) refl refl refl refl

  -- only even powers of `X` are left in the even norm
  even_norm_is : (a : Quartic A) → even_norm F w a ≡ four (even_norm F w a).constant 𝟘 (even_norm F w a).quadratic 𝟘
  even_norm_is a = quartic_solve F R (values a a a) squared (four squared.constant o squared.quadratic o) refl refl refl refl

  -- an even element times its conjugate under `X^2` to `-X^2`, scaled
  even_times : (n m i : A) → quartic_mul F w (four n 𝟘 m 𝟘) (four (n ⊗ i) 𝟘 (neg (m ⊗ i)) 𝟘) ≡ four ((n ⊗ n ⊕ neg (w ⊗ (m ⊗ m))) ⊗ i) 𝟘 𝟘 𝟘
  even_times n m i = quartic_solve F R (w ∷ n ∷ m ∷ i ∷ []) (Q.mul (four (var 1) o (var 2) o) (four (var 1 :* var 3) o (minus (var 2 :* var 3)) o)) (four ((var 1 :* var 1 :- var 0 :* (var 2 :* var 2)) :* var 3) o o o) refl refl refl refl

module _ {A : Type 0} (F : FieldOps A) (L : IsField F) where
  infixl 65 ◌⊕◌
  infixl 70 ◌⊗◌
  open F use {zero as 𝟘, one as 𝟙, add as ◌⊕◌, mul as ◌⊗◌, neg, inv}

  square_zero : (x : A) → x ⊗ x ≡ 𝟘 → x ≡ 𝟘
  square_zero x e = elim (L.decided x 𝟘) [ yes z ↦ z | no n ↦ cancel_zero F L x x n e ]

  -- the square of a quotient
  quotient_square : (w x y : A) → ¬ (y ≡ 𝟘) → x ⊗ x ≡ w ⊗ (y ⊗ y) → (x ⊗ inv y) ⊗ (x ⊗ inv y) ≡ w
  quotient_square w x y n e =
      ring F L.ring 2 (λ x j. (x :* j) :* (x :* j) := (x :* x) :* (j :* j)) refl x (inv y)
      ∙ ap (λ t. t ⊗ (inv y ⊗ inv y)) e
      ∙ ring F L.ring 3 (λ w y j. (w :* (y :* y)) :* (j :* j) := w :* ((y :* j) :* (y :* j))) refl w y (inv y)
      ∙ ap (λ t. w ⊗ (t ⊗ t)) (L.mul_inv y n)
      ∙ ring F L.ring 1 (λ w. w :* (:1 :* :1) := w) refl w

  module _ (w : A) (no_square : (s : A) → ¬ (s ⊗ s ≡ w)) where
    -- a square is `w` times a square only where both are zero
    both_zero : (x y : A) → x ⊗ x ≡ w ⊗ (y ⊗ y) → (x ≡ 𝟘) × (y ≡ 𝟘)
    both_zero x y e =
        elim (L.decided y 𝟘) [
          | yes z ↦ (square_zero x (e ∙ ap (λ t. w ⊗ (t ⊗ t)) z ∙ ring F L.ring 1 (λ w. w :* (o :* o) := o) refl w), z)
          | no n ↦ absurd (no_square (x ⊗ inv y) (quotient_square w x y n e))
        ]

    -- the norm of `x + y * X^2`
    abbrev norm_of : A → A → A
    norm_of x y = sub F (x ⊗ x) (w ⊗ (y ⊗ y))

    module _ (i : A) (minus_one : i ⊗ i ≡ neg 𝟙) where
      -- where the even norm is zero, the norms `n` of `constant + quadratic * X^2` and `m` of
      -- `linear + cubic * X^2` have `n^2 + w * m^2` zero
      even_norm_zero : (a : Quartic A) → (even_norm F w a).constant ≡ 𝟘 → (even_norm F w a).quadratic ≡ 𝟘
          → norm_of a.constant a.quadratic ⊗ norm_of a.constant a.quadratic ⊕ w ⊗ (norm_of a.linear a.cubic ⊗ norm_of a.linear a.cubic) ≡ 𝟘
      even_norm_zero a e h =
          let xs = values F L.ring w a a a in
          combine2 F L.ring {k = eval F xs factor} {k' = eval F xs other_factor} e h
          (solve F L.ring xs (even_part :* even_part :+ var 0 :* (odd_part :* odd_part) :+ (factor :* o :+ other_factor :* o)) (o :+ (factor :* squared.constant :+ other_factor :* squared.quadratic)) refl)

      -- `i` times a number turns its square round
      turned_square : (n m : A) → n ⊗ n ⊕ w ⊗ (m ⊗ m) ≡ 𝟘 → (i ⊗ n) ⊗ (i ⊗ n) ≡ w ⊗ (m ⊗ m)
      turned_square n m e = combine2 F L.ring {k = n ⊗ n} {k' = neg 𝟙} minus_one e
          (ring F L.ring 4 (λ w i n m. (i :* n) :* (i :* n) :+ (n :* n :* minus :1 :+ minus :1 :* o) := w :* (m :* m) :+ (n :* n :* (i :* i) :+ minus :1 :* (n :* n :+ w :* (m :* m)))) refl w i n m)

      turned_zero : (n : A) → i ⊗ n ≡ 𝟘 → n ≡ 𝟘
      turned_zero n e = combine2 F L.ring {k = n} {k' = neg i} minus_one e
          (ring F L.ring 2 (λ i n. n :+ (n :* minus :1 :+ minus i :* o) := o :+ (n :* (i :* i) :+ minus i :* (i :* n))) refl i n)

      -- the norm over the field of `X^2`, and then that over `F`, are zero only at zero
      base_norm_zero : (a : Quartic A) → base_norm F w (even_norm F w a) ≡ 𝟘 → a ≡ (quartic F w).zero
      base_norm_zero a e =
          let even = both_zero (even_norm F w a).constant (even_norm F w a).quadratic (sub-eq F L.ring e) in
          let sum = even_norm_zero a even.0 even.1 in
          let norms = both_zero _ _ (turned_square _ _ sum) in
          let evens = both_zero a.constant a.quadratic (sub-eq F L.ring (turned_zero _ norms.0)) in
          let odds = both_zero a.linear a.cubic (sub-eq F L.ring norms.1) in
          quartic_equal evens.0 odds.0 evens.1 odds.1

      pub base_norm_not_zero : (a : Quartic A) → ¬ (a ≡ (quartic F w).zero) → ¬ (base_norm F w (even_norm F w a) ≡ 𝟘)
      base_norm_not_zero a n e = n (base_norm_zero a e)

      quartic-mul_inv : (a : Quartic A) → ¬ (a ≡ (quartic F w).zero) → quartic_mul F w a (quartic_inv F w a) ≡ (quartic F w).one
      quartic-mul_inv a n =
          let e = even_norm F w a in
          let inverse = inv (base_norm F w e) in
          let scaled = four (e.constant ⊗ inverse) 𝟘 (neg (e.quadratic ⊗ inverse)) 𝟘 in
          sym ((quartic_ring F L.ring w).mul_assoc a (conjugate F a) scaled)
          ∙ ap (λ t. quartic_mul F w t scaled) (even_norm_is F L.ring w a)
          ∙ even_times F L.ring w e.constant e.quadratic inverse
          ∙ ap (λ t. four t 𝟘 𝟘 𝟘) (L.mul_inv (base_norm F w e) (base_norm_not_zero a n))

      decided_quartic : (a b : Quartic A) → Dec (a ≡ b)
      decided_quartic a b =
          elim (L.decided a.constant b.constant) [
            | no n ↦ no (λ e. n (ap (λ (t : Quartic A). t.constant) e))
            | yes p ↦ elim (L.decided a.linear b.linear) [
              | no n ↦ no (λ e. n (ap (λ (t : Quartic A). t.linear) e))
              | yes q ↦ elim (L.decided a.quadratic b.quadratic) [
                | no n ↦ no (λ e. n (ap (λ (t : Quartic A). t.quadratic) e))
                | yes r ↦ elim (L.decided a.cubic b.cubic) [
                  | no n ↦ no (λ e. n (ap (λ (t : Quartic A). t.cubic) e))
                  | yes s ↦ yes (quartic_equal p q r s)
                ]
              ]
            ]
          ]

      pub quartic_field : IsField (quartic F w)
      quartic_field = record {
        ring = quartic_ring F L.ring w;
        one_not_zero = λ e. L.one_not_zero (ap (λ (t : Quartic A). t.constant) e);
        two_not_zero = λ e. L.two_not_zero (ap (λ (t : Quartic A). t.constant) e);
        mul_inv = quartic-mul_inv;
        decided = decided_quartic;
      }
