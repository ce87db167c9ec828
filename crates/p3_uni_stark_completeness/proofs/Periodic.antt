-- Periodic columns as functions on an extension.
use Rattle.std.proofs.Common.{◌≡◌, ℕ, zero, suc, ◌+◌, ◌-◌, ◌*◌, ◌%◌, ◌^◌, ◌<◌, ◌≤◌, List, [], ◌∷◌}
use Rattle.std.proofs.Common.{length, map, get_or, sym, ap, ap₂, subst, ◌∙◌, arith, pow_pos}
use Rattle.std.proofs.Common.{mod-lt}
use Rattle.std.proofs.lemmas.List.{length-map, get_or-map}
use Rattle.std.proofs.lemmas.Nat.{pow-add}
use Rattle.algebra.specs.Field.{FieldOps, IsRing, IsField, IsHomomorphism, pow}
use Rattle.algebra.specs.Interpolation.{Interpolates}
use Rattle.algebra.specs.Periodic.{column_polynomial, periodic_value}
use Rattle.algebra.specs.Polynomial.{val, tabulate}
use Rattle.algebra.specs.TwoAdic.{AreRoots}
use Rattle.algebra.proofs.Interpolation.{interpolates_unique, interpolant_interpolates}
use Rattle.algebra.proofs.Lists.{Distinct, length-tabulate, get_or-tabulate, map-tabulate}
use Rattle.algebra.proofs.Lists.{distinct-tabulate, tabulate-equal}
use Rattle.algebra.proofs.Periodic.{periodic_value_at_point}
use Rattle.algebra.proofs.Points.{lifted_roots, powers_differ}
use Rattle.algebra.proofs.Powers.{homomorphism-pow, pow-zero, pow-suc_is, pow-one_base}
use Rattle.algebra.proofs.RingLaws.{one_mul}
use Rattle.algebra.proofs.Values.{val-nil, val-cons, homomorphism-val}
use Rattle.stark_algebra.specs.Degrees.{HasDegreeBelow}
use Rattle.stark_algebra.proofs.Degrees.{degree-same, degree-more, degree-constant, degree-zero}
use Rattle.stark_algebra.proofs.Degrees.{degree-add, degree-shift}
use Rattle.p3_field_core.proofs.IndexPowers.{exponents_agree}
use Rattle.p3_periodic.specs.Tables.{exponent_of}
use Rattle.p3_periodic.specs.Values.{IsValueOf}
use Rattle.p3_periodic.proofs.Tabulated.{exponent_of-pow}
use Rattle.p3_uni_stark_completeness.specs.Periodic.{IsFunctionOf}

-- the degree of a polynomial at a power
module _ {A : Type 0} (K : FieldOps A) (R : IsRing K) where
  degree-raised : (m d : ℕ) (f : A → A) → HasDegreeBelow K d f
      → HasDegreeBelow K (m + d) (λ x. K.mul (pow K x m) (f x))
  degree-raised zero d f h = degree-more K R d (0 + d) (λ x. K.mul (pow K x 0) (f x))
      (omega arith) (degree-same K R f (λ x. K.mul (pow K x 0) (f x))
      (λ x. ap (λ p. K.mul p (f x)) (pow-zero K x) ∙ one_mul K R (f x)) h)
  degree-raised (suc m) d f h =
      degree-more K R (suc (m + d)) (suc m + d) (λ x. K.mul (pow K x (suc m)) (f x)) (omega arith)
      (degree-same K R (λ x. K.mul x (K.mul (pow K x m) (f x)))
      (λ x. K.mul (pow K x (suc m)) (f x))
      (λ x. ap (λ p. K.mul p (f x)) (pow-suc_is K x m) ∙ R.mul_assoc x (pow K x m) (f x))
      (degree-shift K R (m + d) (λ x. K.mul (pow K x m) (f x)) (degree-raised m d f h)))

  pub degree-composed : (m : ℕ) → 1 ≤ m → (c : List A)
      → HasDegreeBelow K (length c * m) (λ x. val K c (pow K x m))
  degree-composed m some [] = degree-same K R (λ _. K.zero) (λ x. val K [] (pow K x m))
      (λ x. val-nil K R (pow K x m)) (degree-zero K R (0 * m))
  degree-composed m some (c ∷ cs) =
      degree-same K R (λ x. K.add c (K.mul (pow K x m) (val K cs (pow K x m))))
      (λ x. val K (c ∷ cs) (pow K x m)) (λ x. val-cons K R c cs (pow K x m))
      (degree-add K R (suc (length cs) * m) (λ _. c)
      (λ x. K.mul (pow K x m) (val K cs (pow K x m)))
      (degree-more K R 1 (suc (length cs) * m) (λ _. c) (omega (arith, some))
      (degree-constant K R c))
      (degree-more K R (m + length cs * m) (suc (length cs) * m)
      (λ x. K.mul (pow K x m) (val K cs (pow K x m))) (omega arith)
      (degree-raised m (length cs * m) (λ x. val K cs (pow K x m)) (degree-composed m some cs))))

-- the polynomial of a column has its entries at the powers of a root of one
module _ {A : Type 0} (K : FieldOps A) (M : IsField K) (top : ℕ) (w : ℕ → A) (W : AreRoots K top w)
    (a : ℕ) (t : a ≤ top) where
  abbrev points : List A
  points = tabulate (2 ^ a) (λ i. pow K (w a) i)

  points_differ : Distinct points
  points_differ = distinct-tabulate (2 ^ a) (λ i. pow K (w a) i)
      (λ i j l b e. absurd (omega (arith, l, powers_differ K M top w W a i j t (omega (arith, l, b)) b e)))

  pub column_interpolates : (column : List A) → length column ≡ 2 ^ a
      → Interpolates K points column (column_polynomial K w a column)
  column_interpolates column size = interpolant_interpolates K M points column
      (length-tabulate (2 ^ a) (λ i. pow K (w a) i) ∙ sym size) points_differ

  pub column_only : (column c : List A) → length column ≡ 2 ^ a → Interpolates K points column c
      → c ≡ column_polynomial K w a column
  column_only column c size h = interpolates_unique K M points column c
      (column_polynomial K w a column) points_differ h (column_interpolates column size)

  pub column_entry : (column : List A) → length column ≡ 2 ^ a → (i : ℕ) → i < 2 ^ a
      → val K (column_polynomial K w a column) (pow K (w a) i) ≡ get_or column i K.zero
  column_entry column size i l =
      let h = column_interpolates column size in
      let c = column_polynomial K w a column in
      sym (get_or-tabulate (2 ^ a) (λ i. val K c (pow K (w a) i)) i K.zero l)
      ∙ ap (λ ys. get_or ys i K.zero)
      (sym (map-tabulate (λ x. val K c x) (2 ^ a) (λ i. pow K (w a) i)) ∙ h.values)

module _ {V A : Type 0} (F : FieldOps V) (L : IsField F) (K : FieldOps A) (M : IsField K)
    (lift : V → A) (H : IsHomomorphism F K lift) (top : ℕ) (w : ℕ → V) (W : AreRoots F top w)
    (k : ℕ) (t : k ≤ top) (few : top < 64) where
  abbrev lifted : ℕ → A
  lifted j = lift (w j)

  above : AreRoots K top lifted
  above = lifted_roots F K lift L M H top w W

  -- a periodic column along `2^k` rows, as a function on the extension
  abbrev pub periodic_function : List V → A → A
  periodic_function column z =
      periodic_value K lifted (exponent_of (length column)) k (map lift column) z

  module _ (column : List V) (a : ℕ) (size : length column ≡ 2 ^ a) (within : a ≤ k) where
    exponent : exponent_of (length column) ≡ a
    exponent = ap exponent_of size ∙ exponent_of-pow a (omega (arith, within, t, few))

    lifted_size : length (map lift column) ≡ 2 ^ a
    lifted_size = length-map column lift ∙ size

    function_is : (z : A) → periodic_function column z
        ≡ val K (column_polynomial K lifted a (map lift column)) (pow K z (2 ^ (k - a)))
    unfolding periodic_value
    function_is z = ap (λ n. periodic_value K lifted n k (map lift column) z) exponent

    pub periodic_degree : HasDegreeBelow K (2 ^ k) (periodic_function column)
    periodic_degree =
        let c = column_polynomial K lifted a (map lift column) in
        let h = column_interpolates K M top lifted above a (omega (arith, within, t))
        (map lift column) lifted_size in
        let many : length c ≡ 2 ^ a =
        h.count ∙ length-tabulate (2 ^ a) (λ i. pow K (lifted a) i) in
        degree-same K M.ring (λ z. val K c (pow K z (2 ^ (k - a)))) (periodic_function column)
        function_is
        (subst (λ n. HasDegreeBelow K n (λ z. val K c (pow K z (2 ^ (k - a)))))
        (ap (λ n. n * 2 ^ (k - a)) many ∙ sym (pow-add 2 a (k - a))
        ∙ ap (λ n. 2 ^ n) (let e : a + (k - a) ≡ k = omega (arith, within) in e))
        (degree-composed K M.ring (2 ^ (k - a)) (pow_pos (k - a)) c))

    pub periodic_row : (i : ℕ) → periodic_function column (pow K (lift (w k)) i)
        ≡ lift (get_or column (i % length column) F.zero)
    periodic_row i =
        let c = column_polynomial K lifted a (map lift column) in
        let ta : a ≤ top = omega (arith, within, t) in
        ap (λ n. periodic_value K lifted n k (map lift column) (pow K (lift (w k)) i)) exponent
        ∙ ap (λ x. periodic_value K lifted a k (map lift column) x)
        (sym (one_mul K M.ring (pow K (lifted k) i))
        ∙ ap (λ n. K.mul K.one (pow K (lifted n) i)) (let e : k ≡ k + 0 = omega arith in e))
        ∙ periodic_value_at_point K M top lifted above a k 0 i K.one (map lift column) within
        (omega (arith, t))
        ∙ ap (λ x. val K c x)
        (ap (λ p. K.mul p (pow K (lifted (a + 0)) (i % 2 ^ (a + 0))))
        (pow-one_base K M.ring (2 ^ (k - a)))
        ∙ one_mul K M.ring (pow K (lifted (a + 0)) (i % 2 ^ (a + 0)))
        ∙ ap (λ n. pow K (lifted n) (i % 2 ^ n)) (let e : a + 0 ≡ a = omega arith in e))
        ∙ column_entry K M top lifted above a ta (map lift column) lifted_size (i % 2 ^ a)
        (mod-lt i (pow_pos a))
        ∙ get_or-map lift column (i % 2 ^ a) F.zero K.zero
        (let b : i % 2 ^ a < 2 ^ a = mod-lt i (pow_pos a) in omega (arith, b, size))
        ∙ ap (λ n. lift (get_or column (i % n) F.zero)) (sym size)

    -- the polynomial over the extension is the one over the base field
    lifted_polynomial : map lift (column_polynomial F w a column)
        ≡ column_polynomial K lifted a (map lift column)
    lifted_polynomial =
        let ta : a ≤ top = omega (arith, within, t) in
        let c = column_polynomial F w a column in
        let h = column_interpolates F L top w W a ta column size in
        column_only K M top lifted above a ta (map lift column) (map lift c) lifted_size (record {
          count = length-map c lift ∙ h.count ∙ length-tabulate (2 ^ a) (λ i. pow F (w a) i)
              ∙ sym (length-tabulate (2 ^ a) (λ i. pow K (lifted a) i));
          values =
              map-tabulate (λ x. val K (map lift c) x) (2 ^ a) (λ i. pow K (lifted a) i)
              ∙ tabulate-equal (2 ^ a) (λ i. val K (map lift c) (pow K (lifted a) i))
              (λ i. lift (val F c (pow F (w a) i)))
              (λ i l. ap (λ x. val K (map lift c) x) (sym (homomorphism-pow F K lift H (w a) i))
              ∙ sym (homomorphism-val F K lift L.ring M.ring H c (pow F (w a) i)))
              ∙ sym (map-tabulate lift (2 ^ a) (λ i. val F c (pow F (w a) i)))
              ∙ ap (λ ys. map lift ys)
              (sym (map-tabulate (λ x. val F c x) (2 ^ a) (λ i. pow F (w a) i)) ∙ h.values);
        })

    -- a value over the base field is the function's
    pub periodic_lifted : (x v : V) → IsValueOf F w k x column v
        → lift v ≡ periodic_function column (lift x)
    unfolding periodic_value IsValueOf
    periodic_lifted x v h =
        let c = column_polynomial F w a column in
        ap lift (h a size)
        ∙ homomorphism-val F K lift L.ring M.ring H c (pow F x (2 ^ (k - a)))
        ∙ ap₂ (λ d y. val K d y) lifted_polynomial (homomorphism-pow F K lift H x (2 ^ (k - a)))
        ∙ sym (function_is (lift x))

    -- and the function's values are those of the column
    pub periodic_values : (z : A)
        → IsValueOf K lifted k z (map lift column) (periodic_function column z)
    unfolding IsValueOf
    periodic_values z j e =
        ap (λ n. periodic_value K lifted n k (map lift column) z)
        (exponent ∙ exponents_agree a j (sym lifted_size ∙ e))

    pub function_of : IsFunctionOf F K lift w k column (periodic_function column)
    function_of = record {
      degree = periodic_degree;
      rows_there = periodic_row;
      values_below = periodic_lifted;
      values = periodic_values;
    }
