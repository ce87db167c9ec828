-- Elements of a quartic extension by their coefficients.
use Rattle.std.specs.Prelude.{ℕ, ◌≡◌, ◌==◌, ◌&&◌, ◌↔◌, IsTrue, List, [], ◌∷◌, length}
use Rattle.std.specs.Prelude.{slice_index_or, refl}
use Rattle.std.proofs.Common.{ap, arith}
use Rattle.std.proofs.lemmas.Bool.Decides.{Decides-eqb, Decides-and}
use Rattle.algebra.specs.Field.{FieldOps, IsRing}
use Rattle.algebra.specs.Polynomial.{sum_below}
use Rattle.algebra.specs.QuarticExtension.{Quartic, quartic, quartic_mul, quartic_coefficients}
use Rattle.algebra.proofs.Ring.{Expr, var, solve, terms, o, :1}
use Rattle.algebra.proofs.QuarticExtension.{four, quartic_equal, values}
use Rattle.p3_field_core.specs.Basis.{unit_vector}
use Rattle.p3_prime_field.specs.Residues.{Residues}
use Rattle.p3_binomial_extension.specs.QuarticLists.{quartic_of_list}

pub quartic_injective : {A : Type 0} (x y : Quartic A)
    → quartic_coefficients x ≡ quartic_coefficients y → x ≡ y
quartic_injective x y e = quartic_equal (cc) (cc) (cc) (cc)

pub quartic_of_list_law : {A : Type 0} (F : FieldOps A) (xs : List A) → length xs ≡ 4
    → quartic_coefficients (quartic_of_list F xs) ≡ xs
quartic_of_list_law F [] e = absurd (omega (arith, e))
quartic_of_list_law F (a ∷ []) e = absurd (omega (arith, e))
quartic_of_list_law F (a ∷ b ∷ []) e = absurd (omega (arith, e))
quartic_of_list_law F (a ∷ b ∷ c ∷ []) e = absurd (omega (arith, e))
quartic_of_list_law F (a ∷ b ∷ c ∷ d ∷ []) e = refl
quartic_of_list_law F (a ∷ b ∷ c ∷ d ∷ x ∷ xs) e = absurd (omega (arith, e))

-- the elements are told by the numbers of their coefficients
pub quartic_eq : {A : Type 0} (p : ℕ) (N : Residues p A) (x y : Quartic A)
    → IsTrue (N.value x.constant == N.value y.constant &&
    (N.value x.linear == N.value y.linear &&
    (N.value x.quadratic == N.value y.quadratic && N.value x.cubic == N.value y.cubic)))
    ↔ (x ≡ y)
quartic_eq {A} p N x y =
    let v = N.value in
    let agree =
    Decides-and _ _ (Decides-eqb (v x.constant) (v y.constant))
    (Decides-and _ _ (Decides-eqb (v x.linear) (v y.linear))
    (Decides-and _ _ (Decides-eqb (v x.quadratic) (v y.quadratic))
    (Decides-eqb (v x.cubic) (v y.cubic)))) in (
      (λ t. let e = agree.0 t in
          quartic_equal (N.same _ _ e.0) (N.same _ _ e.1.0) (N.same _ _ e.1.1.0)
          (N.same _ _ e.1.1.1)),
      (λ e. agree.1 (
        ap (λ (z : Quartic A). v z.constant) e,
        (
          ap (λ (z : Quartic A). v z.linear) e,
          (ap (λ (z : Quartic A). v z.quadratic) e, ap (λ (z : Quartic A). v z.cubic) e),
        ),
      )),
    )

-- the sum of the coefficients times the powers of the root, in terms of variables
abbrev Q : FieldOps (Quartic Expr)
Q = quartic terms (var 0)

abbrev basis_sum : Quartic Expr
basis_sum =
    Q.add (Q.mul (four (var 1) o o o) (four :1 o o o))
    (Q.add (Q.mul (four (var 2) o o o) (four o :1 o o))
    (Q.add (Q.mul (four (var 3) o o o) (four o o :1 o))
    (Q.add (Q.mul (four (var 4) o o o) (four o o o :1)) Q.zero)))

-- each element is that sum
pub quartic_basis : {A : Type 0} (F : FieldOps A) → IsRing F → (w : A) (x : Quartic A)
    → x ≡ sum_below (quartic F w) 4 (λ k. quartic_mul F w
    (four (slice_index_or (quartic_coefficients x) k F.zero) F.zero F.zero F.zero)
    (quartic_of_list F (unit_vector F 4 k)))
unfolding sum_below
quartic_basis F R w x =
    let xs = values F R w x x x in
    quartic_equal (solve F R xs (var 1) basis_sum.constant refl)
    (solve F R xs (var 2) basis_sum.linear refl)
    (solve F R xs (var 3) basis_sum.quadratic refl)
    (solve F R xs (var 4) basis_sum.cubic refl)
