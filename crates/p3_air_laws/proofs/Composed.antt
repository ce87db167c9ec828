-- Constraints hold on a trace exactly where their sums have a quotient.
use Rattle.std.proofs.Common.{◌≡◌, ◌≢◌, ℕ, suc, pred, ◌+◌, ◌*◌, ◌^◌, ◌<◌, ◌≤◌, List, [], ◌∷◌}
use Rattle.std.proofs.Common.{length, get_or, reverse, All, sym, ap, ap₂, subst, ◌∙◌, arith}
use Rattle.algebra.specs.Field.{FieldOps, IsField, IsHomomorphism, pow}
use Rattle.algebra.specs.Polynomial.{val}
use Rattle.algebra.specs.Interpolation.{AreDistinct}
use Rattle.algebra.specs.TwoAdic.{AreRoots}
use Rattle.algebra.proofs.Lifting.{homomorphism-zero}
use Rattle.algebra.proofs.Lists.{Each, each_from_All, All_from_each, distinct_from_AllPairs, map-agree}
use Rattle.algebra.proofs.Points.{lifted_roots}
use Rattle.algebra.proofs.RingLaws.{zero_mul}
use Rattle.stark_algebra.specs.Degrees.{HasDegreeBelow}
use Rattle.stark_algebra.specs.Laws.{IsMultiple}
use Rattle.stark_algebra.specs.Selectors.{zerofier}
use Rattle.stark_algebra.proofs.Degrees.{degree-more, degree-equal}
use Rattle.stark_algebra.proofs.Vanishing.{points-zero, vanishes_exactly}
use Rattle.p3_air.specs.declared.air.Air.{Air}
use Rattle.p3_air.specs.declared.air.Constraint.{Constraint}
use Rattle.p3_air.specs.Degrees.{node_degrees}
use Rattle.p3_air.specs.Satisfied.{Assigned, HasShape, HoldsOn, IsAmong, IsSatisfied, node_values}
use Rattle.p3_air_laws.specs.Columns.{Columns, AreColumnsOf}
use Rattle.p3_air_laws.specs.Composition.{polynomial_degree, selected, folded}
use Rattle.p3_air_laws.specs.Composition.{HoldsAt, IsShown, HasQuotient}
use Rattle.p3_air_laws.specs.Laws.{Fits}
use Rattle.p3_air_laws.proofs.Folded.{each-reverse, each-weaker, fold-zero, terms-zero}
use Rattle.p3_air_laws.proofs.Functions.{seen, node_function, node_function_value}
use Rattle.p3_air_laws.proofs.Functions.{node_function_degree}
use Rattle.p3_air_laws.proofs.Lifted.{value_there}
use Rattle.p3_air_laws.proofs.Quotients.{selected-degree, product-degree, multiplied, divided_by}
use Rattle.p3_air_laws.proofs.Quotients.{selected_function, sum_function, to_row, from_row}
use Rattle.p3_air_laws.proofs.Quotients.{sum_degree}
use Rattle.p3_air_laws.proofs.Rows.{selector-agrees}

module _ {V A : Type 0} (F : FieldOps V) (L : IsField F) (K : FieldOps A) (M : IsField K)
    (lift : V → A) (H : IsHomomorphism F K lift) (top : ℕ) (v : ℕ → V) (T : AreRoots F top v)
    (k : ℕ) (b : k ≤ top) (air : Air V) (given : Assigned V) (l m : ℕ) (columns : Columns V A)
    (has : AreColumnsOf F K lift (v k) (2 ^ k) l given columns) (fits : Fits l (2 ^ k) m air) where
  abbrev w : ℕ → A
  w j = lift (v j)

  W : AreRoots K top (λ j. lift (v j))
  W = lifted_roots F K lift L M H top v T

  abbrev constraints : List Constraint
  constraints = air.constraints.items

  -- the value of a constraint's node at a point
  abbrev value : Constraint → A → A
  value c z = node_function F K M lift (w k) given.public_values columns air c.node z

  abbrev product : Constraint → A → A
  product c z = selected_function K M top w W k b value c z

  abbrev sum : A → A → A
  sum alpha z = sum_function K M top w W k b value constraints alpha z

  sum_agrees : (alpha z : A) → zerofier K (2 ^ k) z ≢ K.zero
      → folded K lift F.zero air (w k) (2 ^ k)
      (seen F K M lift (w k) given.public_values columns air z) alpha z ≡ sum alpha z
  sum_agrees alpha z off = ap (λ xs. val K xs alpha)
      (map-agree (selected K lift F.zero air (w k) (2 ^ k)
      (seen F K M lift (w k) given.public_values columns air z) z) (λ c. product c z)
      (λ c. ap₂ K.mul (selector-agrees K M top w W k b c.rows z off)
      (sym (node_function_value F K M lift (w k) given.public_values columns air c.node z)))
      (reverse constraints))

  -- at row `i` the value is the lifted one of the trace
  value_at_row : (c : Constraint) (i : ℕ) → i < 2 ^ k
      → value c (pow K (w k) i) ≡ lift (get_or (node_values F air given i) c.node F.zero)
  value_at_row c i below =
      node_function_value F K M lift (w k) given.public_values columns air c.node (pow K (w k) i)
      ∙ value_there F L K M lift H top v T k b l given columns has air c.node i below

  -- the product is zero at each row exactly where the constraint holds on its rows
  abbrev Vanishes : Constraint → Type 0
  Vanishes c = (i : ℕ) → i < 2 ^ k → product c (pow K (w k) i) ≡ K.zero

  abbrev Holds : Constraint → Type 0
  Holds c = (i : ℕ) → i < 2 ^ k → HoldsOn F (length given.trace) i (node_values F air given i) c

  to_trace : (c : Constraint) → Vanishes c → Holds c
  to_trace c h i below among = homomorphism-zero F K lift L M H
      (get_or (node_values F air given i) c.node F.zero)
      (sym (value_at_row c i below)
      ∙ to_row K M top w W k b value c i below (h i below)
      (subst (λ n. IsAmong n i c.rows) has.height among))

  from_trace : (c : Constraint) → Holds c → Vanishes c
  from_trace c h i below = from_row K M top w W k b value c i below (λ among.
      value_at_row c i below
      ∙ ap lift (h i below (subst (λ n. IsAmong n i c.rows) (sym has.height) among)) ∙ H.zero)

  abbrev bound : ℕ
  bound = suc m * 2 ^ k

  one_degree : (c : Constraint) → polynomial_degree l (2 ^ k) air c < bound
      → HasDegreeBelow K bound (product c)
  one_degree c within =
      let size : (n : ℕ) → n ≤ l → n ≤ suc (pred l) =
      λ n h. omega (arith, h, has.some_coefficient) in
      selected-degree K M top w W k b c.rows (get_or (node_degrees air) c.node 0 * pred l) bound
      (λ z. value c z) within
      (node_function_degree F K M lift (w k) given.public_values columns air (pred l)
      (each-weaker (λ c. length c ≤ l) (λ c. length c ≤ suc (pred l)) (λ c h. size (length c) h)
      columns.trace (each_from_All (λ c. length c ≤ l) columns.trace has.trace_degrees))
      (each-weaker (λ c. length c ≤ l) (λ c. length c ≤ suc (pred l)) (λ c h. size (length c) h)
      columns.preprocessed
      (each_from_All (λ c. length c ≤ l) columns.preprocessed has.preprocessed_degrees))
      (each-weaker (λ f. HasDegreeBelow K l f) (λ f. HasDegreeBelow K (suc (pred l)) f)
      (λ f h. degree-more K M.ring l (suc (pred l)) f (size l (omega arith)) h) columns.periodic
      (each_from_All (λ f. HasDegreeBelow K l f) columns.periodic has.periodic_degrees))
      c.node)

  whole_degree : (alpha : A) → HasDegreeBelow K bound (λ z. sum alpha z)
  whole_degree alpha = sum_degree K M top w W k b value bound constraints alpha
      (each-weaker (λ c. polynomial_degree l (2 ^ k) air c < bound)
      (λ c. HasDegreeBelow K bound (product c)) one_degree constraints
      (each_from_All (λ c. polynomial_degree l (2 ^ k) air c < bound) constraints fits.degrees))

  abbrev Shown : A → Type 0
  Shown alpha = IsShown F K lift air columns given.public_values (w k) (2 ^ k) m alpha

  abbrev At : A → (A → A) → A → Type 0
  At alpha q z = HoldsAt F K lift air columns given.public_values (w k) (2 ^ k) alpha q z

  -- the sum is a multiple of the vanishing polynomial, so zero on the domain
  sum_zero : (alpha : A) → Shown alpha → (i : ℕ) → sum alpha (pow K (w k) i) ≡ K.zero
  sum_zero alpha s i =
      degree-equal K M bound (λ z. sum alpha z) (λ z. K.mul (zerofier K (2 ^ k) z) (s.quotient z))
      (whole_degree alpha)
      (product-degree K M top w W k b m s.quotient fits.some_chunk s.degree) s.points
      (distinct_from_AllPairs s.points s.distinct) s.count
      (each-weaker (At alpha s.quotient)
      (λ z. sum alpha z ≡ K.mul (zerofier K (2 ^ k) z) (s.quotient z))
      (λ z h. multiplied K M top w W k b (sum alpha z) (zerofier K (2 ^ k) z) (s.quotient z) h.off
      (ap (λ x. K.mul x (K.inv (zerofier K (2 ^ k) z))) (sym (sum_agrees alpha z h.off))
      ∙ h.identity))
      s.points (each_from_All (At alpha s.quotient) s.points s.holds))
      (pow K (w k) i)
      ∙ ap (λ x. K.mul x (s.quotient (pow K (w k) i))) (points-zero K M top w W k b i)
      ∙ zero_mul K M.ring (s.quotient (pow K (w k) i))

  each_swap : (cs : List Constraint)
      → ((i : ℕ) → i < 2 ^ k → Each (λ c. product c (pow K (w k) i) ≡ K.zero) cs)
      → Each Vanishes cs
  each_swap [] h = tt
  each_swap (c ∷ cs) h = ((λ i below. (h i below).0), each_swap cs (λ i below. (h i below).1))

  pub shown_is_satisfied : HasShape air.layout given → (alphas : List A) → AreDistinct alphas
      → length constraints ≤ length alphas → All Shown alphas → IsSatisfied F air given
  shown_is_satisfied shape alphas distinct enough shown =
      let all : Each Vanishes constraints = each_swap constraints (λ i below.
      terms-zero K M product (pow K (w k) i) constraints alphas
      (distinct_from_AllPairs alphas distinct) enough
      (each-weaker Shown (λ alpha. sum alpha (pow K (w k) i) ≡ K.zero)
      (λ alpha s. sum_zero alpha s i) alphas (each_from_All Shown alphas shown))) in
      let holds : All Holds constraints =
      All_from_each Holds constraints (each-weaker Vanishes Holds to_trace constraints all) in
      record {
        shape = shape;
        rows_hold = λ i below n d there. holds n d there i (omega (arith, below, has.height));
      }

  pub satisfied_is_shown : IsSatisfied F air given → (alpha : A)
      → HasQuotient F K lift air columns given.public_values (w k) (2 ^ k) m alpha
  satisfied_is_shown satisfied alpha =
      let holds : All Holds constraints = λ n d there i below.
      satisfied.rows_hold i (omega (arith, below, has.height)) n d there in
      let each : Each Vanishes constraints = each-weaker Holds Vanishes from_trace constraints
      (each_from_All Holds constraints holds) in
      let exactly = vanishes_exactly K M top w W k b (m * 2 ^ k) (λ z. sum alpha z)
      (degree-more K M.ring bound (m * 2 ^ k + 2 ^ k) (λ z. sum alpha z) (total (2 ^ k))
      (whole_degree alpha)) in
      with_multiple (exactly.0 (λ i below.
      fold-zero K M product alpha (pow K (w k) i) (reverse constraints)
      (each-reverse (λ c. product c (pow K (w k) i) ≡ K.zero) constraints
      (each-weaker Vanishes (λ c. product c (pow K (w k) i) ≡ K.zero) (λ c h. h i below)
      constraints each))))
    where
      total : (n : ℕ) → suc m * n ≤ m * n + n
      total n = omega arith

      with_multiple : IsMultiple K (2 ^ k) (m * 2 ^ k) (λ z. sum alpha z)
          → HasQuotient F K lift air columns given.public_values (w k) (2 ^ k) m alpha
      with_multiple h = record {
        quotient = h.quotient;
        degree = h.degree;
        holds = λ z off. record {
          off = off;
          identity = ap (λ x. K.mul x (K.inv (zerofier K (2 ^ k) z))) (sum_agrees alpha z off)
              ∙ divided_by K M top w W k b (sum alpha z) (zerofier K (2 ^ k) z) (h.quotient z) off
              (h.product z);
        };
      }
