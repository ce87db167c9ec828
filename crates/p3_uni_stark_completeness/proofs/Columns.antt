-- Columns by their polynomials: entries at points of the trace's field, and periodic ones as
-- functions.
use Rattle.std.proofs.Common.{◌≡◌, ℕ, ◌+◌, ◌*◌, ◌%◌, ◌^◌, ◌<◌, ◌≤◌, List, [], ◌∷◌, length, map}
use Rattle.std.proofs.Common.{refl, sym, ap, ap₂, ◌∙◌, arith, mul_comm}
use Rattle.std.specs.List.{AllZip}
use Rattle.std.specs.declared.vec.Vec.{Vec}
use Rattle.algebra.specs.Field.{FieldOps, IsField, IsHomomorphism, sub, pow}
use Rattle.algebra.specs.Nested.{lists}
use Rattle.algebra.specs.Polynomial.{val}
use Rattle.algebra.specs.Quotients.{values_at}
use Rattle.algebra.specs.TwoAdic.{AreRoots}
use Rattle.algebra.proofs.Combine.{sub-eq, sub-self}
use Rattle.algebra.proofs.Lifting.{homomorphism-sub, homomorphism-zero}
use Rattle.algebra.proofs.Lists.{Each, head_eq, tail_eq, map-map, map-agree}
use Rattle.algebra.proofs.Points.{root-power}
use Rattle.algebra.proofs.Powers.{pow-mul}
use Rattle.algebra.proofs.RingLaws.{one_mul}
use Rattle.algebra.proofs.Values.{homomorphism-val}
use Rattle.p3_field_core.specs.Coset.{coset_point}
use Rattle.stark_algebra.specs.Degrees.{HasDegreeBelow}
use Rattle.stark_algebra.proofs.Degrees.{degree-more}
use Rattle.p3_air.specs.Satisfied.{periodic_at}
use Rattle.p3_periodic.specs.Columns.{HasPeriod}
use Rattle.p3_periodic.specs.Values.{IsValueAt, IsColumnValue}
use Rattle.p3_periodic.proofs.Periods.{exponent_within}
use Rattle.p3_uni_stark_completeness.proofs.Periodic.{periodic_function, periodic_degree}
use Rattle.p3_uni_stark_completeness.proofs.Periodic.{periodic_row, periodic_lifted}
use Rattle.p3_uni_stark_completeness.proofs.Periodic.{periodic_values}

module _ {V A : Type 0} (F : FieldOps V) (L : IsField F) (K : FieldOps A) (M : IsField K)
    (lift : V → A) (H : IsHomomorphism F K lift) where
  -- different elements are different in the extension
  pub lift_injective : (x y : V) → lift x ≡ lift y → x ≡ y
  lift_injective x y e = sub-eq F L.ring (homomorphism-zero F K lift L M H (sub F x y)
      (homomorphism-sub F K lift L.ring M.ring H x y ∙ ap (λ a. sub K a (lift y)) e
      ∙ sub-self K M.ring (lift y)))

  pub lifts_injective : (xs ys : List V) → map lift xs ≡ map lift ys → xs ≡ ys
  lifts_injective [] [] e = refl
  lifts_injective [] (y ∷ ys) e = absurd (let l = ap length e in omega (arith, l))
  lifts_injective (x ∷ xs) [] e = absurd (let l = ap length e in omega (arith, l))
  lifts_injective (x ∷ xs) (y ∷ ys) e = ap₂ (λ a b. a ∷ b)
      (lift_injective x y (head_eq e)) (lifts_injective xs ys (tail_eq e))

  -- the values at a point of the trace's field
  pub values_below : (columns : List (List V)) (x : V)
      → values_at F K lift columns (lift x) ≡ map lift (map (λ c. val F c x) columns)
  values_below columns x =
      map-agree (λ c. val K (map lift c) (lift x)) (λ c. lift (val F c x))
      (λ c. sym (homomorphism-val F K lift L.ring M.ring H c x)) columns
      ∙ sym (map-map lift (λ c. val F c x) columns)

  -- so a row that is lifted to them is that of the columns
  pub row_below : (columns : List (List V)) (x : V) (row : List V)
      → values_at F K lift columns (lift x) ≡ map lift row → row ≡ map (λ c. val F c x) columns
  row_below columns x row e = lifts_injective row (map (λ c. val F c x) columns)
      (sym e ∙ values_below columns x)

  module _ (top : ℕ) (w : ℕ → V) (W : AreRoots F top w) where
    -- every second point of a subgroup that is twice as large
    pub every_second : (k i : ℕ) → k + 1 ≤ top
        → coset_point F (w (k + 1)) F.one (2 * i) ≡ pow F (w k) i
    every_second k i b =
        one_mul F L.ring (pow F (w (k + 1)) (2 * i))
        ∙ ap (λ n. pow F (w (k + 1)) n) (mul_comm 2 i)
        ∙ pow-mul F L.ring (w (k + 1)) i 2
        ∙ ap (λ x. pow F x i) (root-power F L top w W 1 k b)

    pub every_one : (k i : ℕ) → coset_point F (w (k + 0)) F.one (1 * i) ≡ pow F (w k) i
    every_one k i =
        one_mul F L.ring (pow F (w (k + 0)) (1 * i))
        ∙ ap₂ (λ m n. pow F (w m) n) (let e : k + 0 ≡ k = omega arith in e)
        (let e : 1 * i ≡ i = omega arith in e)

    module _ (k : ℕ) (t : k ≤ top) (few : top < 64) {B : Type 0} where
      abbrev pub functions : List (Vec V B) → List (A → A)
      functions columns = map (periodic_function F L K M lift H top w W k t few) (lists columns)

      -- what is known of a column with a period
      module _ (column : Vec V B) (h : HasPeriod (2 ^ k) column) where
        abbrev exponent : ℕ
        exponent = h.power_of_two.0

        size : length column.items ≡ 2 ^ exponent
        size = sym column.ok.0 ∙ h.power_of_two.1

        within : exponent ≤ k
        within = exponent_within k exponent
            (ap (λ n. 2 ^ k % n) (sym h.power_of_two.1) ∙ h.divides)

      pub functions_degrees : (l : ℕ) → 2 ^ k ≤ l → (columns : List (Vec V B))
          → Each (HasPeriod (2 ^ k)) columns → Each (λ f. HasDegreeBelow K l f) (functions columns)
      functions_degrees l b [] h = tt
      functions_degrees l b (c ∷ cs) h = (
        degree-more K M.ring (2 ^ k) l (periodic_function F L K M lift H top w W k t few c.items) b
            (periodic_degree F L K M lift H top w W k t few c.items (exponent c h.0) (size c h.0)
            (within c h.0)),
        functions_degrees l b cs h.1,
      )

      pub functions_rows : (i : ℕ) (columns : List (Vec V B)) → Each (HasPeriod (2 ^ k)) columns
          → map lift (periodic_at F (lists columns) i)
          ≡ map (λ f. f (pow K (lift (w k)) i)) (functions columns)
      functions_rows i [] h = refl
      functions_rows i (c ∷ cs) h = ap₂ (λ a b. a ∷ b)
          (sym (periodic_row F L K M lift H top w W k t few c.items (exponent c h.0) (size c h.0)
          (within c h.0) i)) (functions_rows i cs h.1)

      pub functions_on : (x : V) (columns : List (Vec V B)) (row : List V)
          → Each (HasPeriod (2 ^ k)) columns → AllZip (IsColumnValue F w k x) columns row
          → map lift row ≡ map (λ f. f (lift x)) (functions columns)
      functions_on x [] [] h v = refl
      functions_on x [] (y ∷ row) h v = absurd v
      functions_on x (c ∷ cs) [] h v = absurd v
      functions_on x (c ∷ cs) (y ∷ row) h v = ap₂ (λ a b. a ∷ b)
          (periodic_lifted F L K M lift H top w W k t few c.items (exponent c h.0) (size c h.0)
          (within c h.0) x y v.0) (functions_on x cs row h.1 v.1)

      pub functions_values : (z : A) (columns : List (Vec V B)) → Each (HasPeriod (2 ^ k)) columns
          → AllZip (IsValueAt K (λ j. lift (w j)) k z lift) columns
          (map (λ f. f z) (functions columns))
      functions_values z [] h = tt
      functions_values z (c ∷ cs) h = (
        periodic_values F L K M lift H top w W k t few c.items (exponent c h.0) (size c h.0)
            (within c h.0) z,
        functions_values z cs h.1,
      )
