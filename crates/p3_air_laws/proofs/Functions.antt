-- Nodes over the polynomials of columns are polynomials, of the degrees that the nodes have.
use Rattle.std.proofs.Common.{◌≡◌, ℕ, zero, suc, ◌+◌, ◌*◌, ◌≤◌, max, List, [], ◌∷◌, length, map}
use Rattle.std.proofs.Common.{get_or, refl, ap, ap₂, arith}
use Rattle.std.proofs.Math.Nat.{mul-le-mul_right}
use Rattle.std.proofs.lemmas.List.{length-map}
use Rattle.algebra.specs.Field.{FieldOps, IsField, sub}
use Rattle.algebra.specs.Polynomial.{val}
use Rattle.algebra.specs.Quotients.{values_at}
use Rattle.algebra.proofs.Lists.{Each}
use Rattle.stark_algebra.specs.Degrees.{HasDegreeBelow}
use Rattle.stark_algebra.proofs.Degrees.{degree-more, degree-constant, degree-zero, degree-add}
use Rattle.stark_algebra.proofs.Degrees.{degree-sub, degree-neg, degree-mul, degree-stretched}
use Rattle.p3_air.specs.declared.air.Air.{Air}
use Rattle.p3_air.specs.Degrees.{node_degrees}
use Rattle.p3_air.specs.Nodes.{Meaning, Entries, meanings, values_in, degrees_in}
use Rattle.p3_air_laws.specs.Columns.{Columns, entries_over}
use Rattle.p3_air_laws.proofs.Related.{related}

module _ {V A : Type 0} (F : FieldOps V) (K : FieldOps A) (M : IsField K) (lift : V → A) (g : A)
    (public_values : List V) (columns : Columns V A) (air : Air V) where
  -- what constraints see at `z`
  abbrev pub seen : A → Entries V A
  seen z = entries_over F K lift columns public_values z (K.mul g z)

  -- nodes as functions of the point
  abbrev pub functions : Meaning V (A → A)
  functions = record {
    constant = λ v z. lift v;
    local = λ i z. get_or (values_at F K lift columns.trace z) i K.zero;
    next = λ i z. get_or (values_at F K lift columns.trace (K.mul g z)) i K.zero;
    preprocessed = λ i z. get_or (values_at F K lift columns.preprocessed z) i K.zero;
    preprocessed_next = λ i z.
        get_or (values_at F K lift columns.preprocessed (K.mul g z)) i K.zero;
    public_value = λ i z. lift (get_or public_values i F.zero);
    periodic = λ i z. get_or (map (λ f. f z) columns.periodic) i K.zero;
    add = λ a b z. K.add (a z) (b z);
    sub = λ a b z. sub K (a z) (b z);
    mul = λ a b z. K.mul (a z) (b z);
    neg = λ a z. K.neg (a z);
    none = λ z. K.zero;
  }

  -- the function of a node
  abbrev pub node_function : (i : ℕ) (z : A) → A
  node_function i z = get_or (meanings functions air.nodes.items) i (λ z. K.zero) z

  pub node_function_value : (i : ℕ) (z : A) → node_function i z
      ≡ get_or (meanings (values_in K lift F.zero (seen z)) air.nodes.items) i K.zero
  node_function_value i z =
      related functions (values_in K lift F.zero (seen z)) (λ f a. f z ≡ a)
      (record {
        constant = λ v. refl;
        local = λ i. refl;
        next = λ i. refl;
        preprocessed = λ i. refl;
        preprocessed_next = λ i. refl;
        public_value = λ i. refl;
        periodic = λ i. refl;
        add = λ a b c d e h. ap₂ K.add e h;
        sub = λ a b c d e h. ap₂ (λ x y. sub K x y) e h;
        mul = λ a b c d e h. ap₂ K.mul e h;
        neg = λ a c e. ap K.neg e;
        none = refl;
      }) air.nodes.items i

  -- a column's polynomial, or zero past the last
  column_degree : (n : ℕ) (cs : List (List V)) → Each (λ c. length c ≤ n) cs → (i : ℕ)
      → HasDegreeBelow K n (λ z. get_or (values_at F K lift cs z) i K.zero)
  column_degree n [] e i = degree-zero K M.ring n
  column_degree n (c ∷ cs) e zero = degree-more K M.ring (length c) n (λ z. val K (map lift c) z)
      e.0 (record { polynomial = map lift c; degree = length-map c lift; values = λ x. refl })
  column_degree n (c ∷ cs) e (suc i) = column_degree n cs e.1 i

  periodic_degree : (n : ℕ) (fs : List (A → A)) → Each (λ f. HasDegreeBelow K n f) fs → (i : ℕ)
      → HasDegreeBelow K n (λ z. get_or (map (λ f. f z) fs) i K.zero)
  periodic_degree n [] e i = degree-zero K M.ring n
  periodic_degree n (f ∷ fs) e zero = e.0
  periodic_degree n (f ∷ fs) e (suc i) = periodic_degree n fs e.1 i

  module _ (m : ℕ) (trace : Each (λ c. length c ≤ suc m) columns.trace)
      (preprocessed : Each (λ c. length c ≤ suc m) columns.preprocessed)
      (periodic : Each (λ f. HasDegreeBelow K (suc m) f) columns.periodic) where
    at_most : (a b : ℕ) → a ≤ b → suc (a * m) ≤ suc (b * m)
    at_most a b l = let h : a * m ≤ b * m = mul-le-mul_right m l in omega (arith, h)

    -- a polynomial counts one, a constant none
    one : (f : A → A) → HasDegreeBelow K (suc m) f → HasDegreeBelow K (suc (1 * m)) f
    one f h = degree-more K M.ring (suc m) (suc (1 * m)) f (omega arith) h

    none_of : (a : A) → HasDegreeBelow K (suc (0 * m)) (λ _. a)
    none_of a =
        degree-more K M.ring 1 (suc (0 * m)) (λ _. a) (omega arith) (degree-constant K M.ring a)

    sum : (a b : ℕ) → suc (a * m + b * m) ≤ suc ((a + b) * m)
    sum a b = omega arith

    pub node_function_degree : (i : ℕ)
        → HasDegreeBelow K (suc (get_or (node_degrees air) i 0 * m)) (λ z. node_function i z)
    node_function_degree i =
        related degrees_in functions (λ d f. HasDegreeBelow K (suc (d * m)) f)
        (record {
          constant = λ v. none_of (lift v);
          local = λ i. one (λ z. get_or (values_at F K lift columns.trace z) i K.zero)
              (column_degree (suc m) columns.trace trace i);
          next = λ i. one (λ z. get_or (values_at F K lift columns.trace (K.mul g z)) i K.zero)
              (degree-stretched K M.ring (suc m) g
              (λ z. get_or (values_at F K lift columns.trace z) i K.zero)
              (column_degree (suc m) columns.trace trace i));
          preprocessed = λ i.
              one (λ z. get_or (values_at F K lift columns.preprocessed z) i K.zero)
              (column_degree (suc m) columns.preprocessed preprocessed i);
          preprocessed_next = λ i.
              one (λ z. get_or (values_at F K lift columns.preprocessed (K.mul g z)) i K.zero)
              (degree-stretched K M.ring (suc m) g
              (λ z. get_or (values_at F K lift columns.preprocessed z) i K.zero)
              (column_degree (suc m) columns.preprocessed preprocessed i));
          public_value = λ i. none_of (lift (get_or public_values i F.zero));
          periodic = λ i. one (λ z. get_or (map (λ f. f z) columns.periodic) i K.zero)
              (periodic_degree (suc m) columns.periodic periodic i);
          add = λ a b c d e h. degree-add K M.ring (suc (max a b * m)) c d
              (degree-more K M.ring (suc (a * m)) (suc (max a b * m)) c
              (at_most a (max a b) (omega arith)) e)
              (degree-more K M.ring (suc (b * m)) (suc (max a b * m)) d
              (at_most b (max a b) (omega arith)) h);
          sub = λ a b c d e h. degree-sub K M.ring (suc (max a b * m)) c d
              (degree-more K M.ring (suc (a * m)) (suc (max a b * m)) c
              (at_most a (max a b) (omega arith)) e)
              (degree-more K M.ring (suc (b * m)) (suc (max a b * m)) d
              (at_most b (max a b) (omega arith)) h);
          mul = λ a b c d e h.
              degree-more K M.ring (suc (a * m + b * m)) (suc ((a + b) * m))
              (λ z. K.mul (c z) (d z)) (sum a b) (degree-mul K M.ring (a * m) (b * m) c d e h);
          neg = λ a c e. degree-neg K M.ring (suc (a * m)) c e;
          none = degree-zero K M.ring (suc (0 * m));
        }) air.nodes.items i
