-- Rows of columns' polynomials, and cosets that meet no subgroup.
use Rattle.std.proofs.Common.{◌≡◌, ◌≢◌, ℕ, ◌+◌, ◌-◌, ◌*◌, ◌/◌, ◌%◌, ◌^◌, ◌<◌, ◌≤◌, length, map}
use Rattle.std.proofs.Common.{sym, ap, ◌∙◌, arith, mul_comm, pow_pos, mod-lt}
use Rattle.std.proofs.Math.Nat.{div-add-mod}
use Rattle.std.proofs.lemmas.Nat.{pow-add}
use Rattle.algebra.specs.Field.{FieldOps, IsField, IsHomomorphism, pow}
use Rattle.algebra.specs.Quotients.{values_at}
use Rattle.algebra.specs.TwoAdic.{AreRoots}
use Rattle.algebra.proofs.Combine.{sub-eq}
use Rattle.algebra.proofs.Points.{full_turn, root-power}
use Rattle.algebra.proofs.Powers.{pow-add as power-add, pow-mul, pow-times, pow-one_base}
use Rattle.algebra.proofs.RingLaws.{one_mul}
use Rattle.p3_field_core.specs.Coset.{coset_point}
use Rattle.stark_algebra.specs.Selectors.{zerofier}
use Rattle.p3_air.specs.declared.air.Air.{Air}
use Rattle.p3_air.specs.Satisfied.{row_at}
use Rattle.p3_air_laws.specs.Columns.{Columns, entries_over}
use Rattle.p3_air_laws.specs.Composition.{folded}
use Rattle.p3_uni_stark_identity.specs.Laws.{IsOffSubgroup, quotient_value}
use Rattle.p3_uni_stark_quotient.specs.Given.{OnCoset, entries_on}
use Rattle.p3_uni_stark_quotient.specs.Quotient.{quotient_on_row, lifted_entries}
use Rattle.p3_uni_stark_quotient.specs.Laws.{AreEvaluations}
use Rattle.p3_uni_stark_quotient.proofs.Entries.{entries_same_in}

module _ {V : Type 0} (F : FieldOps V) (L : IsField F) (top : ℕ) (w : ℕ → V) (W : AreRoots F top w)
  where
    infixl 70 ◌⊗◌
    open F use {one as 𝟙, mul as ◌⊗◌}

    -- powers of a root go round
    power_mod : (m : ℕ) → m ≤ top → (j : ℕ) → pow F (w m) (j % 2 ^ m) ≡ pow F (w m) j
    power_mod m b j =
        sym (ap (λ n. pow F (w m) n)
        (sym (div-add-mod j (2 ^ m)) ∙ ap (λ n. n + j % 2 ^ m) (mul_comm (2 ^ m) (j / 2 ^ m)))
        ∙ power-add F L.ring (w m) (j / 2 ^ m * 2 ^ m) (j % 2 ^ m)
        ∙ ap (λ p. p ⊗ pow F (w m) (j % 2 ^ m))
        (pow-mul F L.ring (w m) (j / 2 ^ m) (2 ^ m)
        ∙ ap (λ p. pow F p (j / 2 ^ m)) (full_turn F L top w W m b)
        ∙ pow-one_base F L.ring (j / 2 ^ m))
        ∙ one_mul F L.ring (pow F (w m) (j % 2 ^ m)))

    -- the point of the next row
    pub next_on_coset : (k d : ℕ) → k + d ≤ top → (shift : V) (i : ℕ)
        → coset_point F (w (k + d)) shift ((i + 2 ^ d) % 2 ^ (k + d))
        ≡ w k ⊗ coset_point F (w (k + d)) shift i
    next_on_coset k d b shift i =
        ap (λ p. shift ⊗ p)
        (power_mod (k + d) b (i + 2 ^ d)
        ∙ power-add F L.ring (w (k + d)) i (2 ^ d)
        ∙ ap (λ p. pow F (w (k + d)) i ⊗ p) (root-power F L top w W d k b))
        ∙ sym (L.mul_assoc shift (pow F (w (k + d)) i) (w k))
        ∙ L.mul_comm (shift ⊗ pow F (w (k + d)) i) (w k)

    -- what to a power of two is one, is one to a greater power
    one_further : (x : V) (k : ℕ) → k ≤ top → pow F x (2 ^ k) ≡ 𝟙 → pow F x (2 ^ top) ≡ 𝟙
    one_further x k b e =
        ap (λ n. pow F x n)
        (ap (λ n. 2 ^ n) (let s : top ≡ (top - k) + k = omega (arith, b) in s)
        ∙ pow-add 2 (top - k) k)
        ∙ pow-mul F L.ring x (2 ^ (top - k)) (2 ^ k)
        ∙ ap (λ p. pow F p (2 ^ (top - k))) e ∙ pow-one_base F L.ring (2 ^ (top - k))

    pub cosets_off : (shift : V) → pow F shift (2 ^ top) ≢ 𝟙 → (k m : ℕ) → k ≤ top → m ≤ top
        → IsOffSubgroup F (w m) shift k
    cosets_off shift other k m b c i zero =
        let x = coset_point F (w m) shift i in
        let turned : pow F (pow F (w m) i) (2 ^ top) ≡ 𝟙 =
        sym (pow-mul F L.ring (w m) (2 ^ top) i) ∙ ap (λ n. pow F (w m) n) (mul_comm (2 ^ top) i)
        ∙ pow-mul F L.ring (w m) i (2 ^ top)
        ∙ ap (λ p. pow F p i) (one_further (w m) m c (full_turn F L top w W m c))
        ∙ pow-one_base F L.ring i in
        other (sym (L.mul_one (pow F shift (2 ^ top)))
        ∙ ap (λ p. pow F shift (2 ^ top) ⊗ p) (sym turned)
        ∙ pow-times F L.ring shift (pow F (w m) i) (2 ^ top)
        ∙ one_further x k b (sub-eq F L.ring zero))

    module _ {A : Type 0} (K : FieldOps A) (lift : V → A) (H : IsHomomorphism F K lift) (k d : ℕ)
        (b : k + d ≤ top) (shift : V) (columns : Columns V A) (given : OnCoset V)
        (are : AreEvaluations F K lift (coset_point F (w (k + d)) shift) (2 ^ (k + d)) columns given)
      where
        abbrev point : ℕ → V
        point i = coset_point F (w (k + d)) shift i

        after_is : (i : ℕ) → (i + 2 ^ d) % length given.trace ≡ (i + 2 ^ d) % 2 ^ (k + d)
        after_is i = ap (λ n. (i + 2 ^ d) % n) are.height

        next_is : (i : ℕ) → lift (point ((i + 2 ^ d) % 2 ^ (k + d))) ≡ K.mul (lift (w k)) (lift (point i))
        next_is i = ap lift (next_on_coset k d b shift i) ∙ H.mul (w k) (point i)

        inside : (i : ℕ) → (i + 2 ^ d) % 2 ^ (k + d) < 2 ^ (k + d)
        inside i = mod-lt (i + 2 ^ d) (pow_pos (k + d))

        seen : (i : ℕ) → i < 2 ^ (k + d)
            → lifted_entries lift (entries_on given (2 ^ d) i)
            ≡ entries_over F K lift columns given.public_values (lift (point i))
            (K.mul (lift (w k)) (lift (point i)))
        seen i l =
            let y = K.mul (lift (w k)) (lift (point i)) in
            entries_same_in given.public_values
            (map lift (row_at given.trace i)) (values_at F K lift columns.trace (lift (point i)))
            (map lift (row_at given.trace ((i + 2 ^ d) % length given.trace)))
            (values_at F K lift columns.trace y)
            (map lift (row_at given.preprocessed i))
            (values_at F K lift columns.preprocessed (lift (point i)))
            (map lift (row_at given.preprocessed ((i + 2 ^ d) % length given.trace)))
            (values_at F K lift columns.preprocessed y)
            (map lift (row_at given.periodic (i % length given.periodic)))
            (map (λ f. f (lift (point i))) columns.periodic)
            (are.trace i l)
            (ap (λ n. map lift (row_at given.trace n)) (after_is i)
            ∙ are.trace ((i + 2 ^ d) % 2 ^ (k + d)) (inside i)
            ∙ ap (λ x. values_at F K lift columns.trace x) (next_is i))
            (are.preprocessed i l)
            (ap (λ n. map lift (row_at given.preprocessed n)) (after_is i)
            ∙ are.preprocessed ((i + 2 ^ d) % 2 ^ (k + d)) (inside i)
            ∙ ap (λ x. values_at F K lift columns.preprocessed x) (next_is i))
            (are.periodic i l)

        pub values_are : (air : Air V) (alpha : A) (i : ℕ) → i < 2 ^ (k + d)
            → quotient_on_row F K lift air (w k) (2 ^ k) alpha (entries_on given (2 ^ d) i) (point i)
            ≡ quotient_value F K lift air columns given.public_values (lift (w k)) (2 ^ k) alpha
            (lift (point i))
        values_are air alpha i l =
            ap (λ e. K.mul (folded K lift F.zero air (lift (w k)) (2 ^ k) e alpha (lift (point i)))
            (K.inv (zerofier K (2 ^ k) (lift (point i))))) (seen i l)
