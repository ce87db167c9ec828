-- Chunks of the quotient of constraints that hold agree with the columns.
use Rattle.std.proofs.Common.{◌≡◌, ◌≢◌, ℕ, ◌+◌, ◌*◌, ◌^◌, ◌<◌, ◌≤◌, List, [], length, map, get_or}
use Rattle.std.proofs.Common.{refl, sym, ap, ap₂, subst, ◌∙◌, arith, pow_pos}
use Rattle.std.proofs.lemmas.List.{length-map, get_or-map}
use Rattle.algebra.specs.Field.{FieldOps, IsField, IsHomomorphism, sub, pow}
use Rattle.algebra.specs.Polynomial.{val, tabulate, sum_below}
use Rattle.algebra.specs.Quotients.{values_at}
use Rattle.algebra.specs.RecombinedQuotients.{recombined, recombined_columns}
use Rattle.algebra.specs.TwoAdic.{AreRoots}
use Rattle.algebra.proofs.Lifting.{homomorphism-sub, homomorphism-nonzero}
use Rattle.algebra.proofs.Lists.{length-tabulate, get_or-tabulate}
use Rattle.algebra.proofs.PolynomialProduct.{sum_below-equal}
use Rattle.algebra.proofs.Powers.{homomorphism-pow}
use Rattle.p3_field_core.specs.Coset.{coset_point}
use Rattle.stark_algebra.specs.Laws.{HasBasis, IsSplit}
use Rattle.stark_algebra.specs.Degrees.{HasDegreeBelow}
use Rattle.stark_algebra.specs.Selectors.{zerofier}
use Rattle.stark_algebra.proofs.Columns.{given_columns_recombine}
use Rattle.stark_algebra.proofs.Recombined.{cosets_split}
use Rattle.p3_air.specs.declared.air.Air.{Air}
use Rattle.p3_air.specs.Satisfied.{Assigned, IsSatisfied}
use Rattle.p3_air_laws.specs.Columns.{Columns, AreColumnsOf}
use Rattle.p3_air_laws.specs.Composition.{HoldsAt, HasQuotient}
use Rattle.p3_air_laws.specs.Laws.{Fits}
use Rattle.p3_air_laws.proofs.Composed.{satisfied_is_shown}
use Rattle.p3_uni_stark_identity.specs.Chunks.{chunk_shifts, quotient_at}
use Rattle.p3_uni_stark_identity.specs.Laws.{IsOffSubgroup, quotient_value, chunk_point}
use Rattle.p3_uni_stark_identity.specs.Laws.{AreQuotientChunks}
use Rattle.p3_uni_stark_identity.proofs.Recombination.{recombined_same}

module _ {V A : Type 0} (F : FieldOps V) (L : IsField F) (K : FieldOps A) (M : IsField K)
    (lift : V → A) (H : IsHomomorphism F K lift) where
  -- a point off the subgroup is off it in the extension
  pub off_lifted : (n : ℕ) (x : V) → zerofier F n x ≢ F.zero → zerofier K n (lift x) ≢ K.zero
  off_lifted n x off e = homomorphism-nonzero F K lift L M H (zerofier F n x) off
      (homomorphism-sub F K lift L.ring M.ring H (pow F x n) F.one
      ∙ ap₂ (λ a b. sub K a b) (homomorphism-pow F K lift H x n) H.one ∙ e)

  module _ (top : ℕ) (w : ℕ → V) (W : AreRoots F top w) (k d : ℕ) (b : k + d ≤ top) (shift : V)
      (n : shift ≢ F.zero) (off : IsOffSubgroup F (w (k + d)) shift k)
      (dimension : ℕ) (basis : ℕ → A) (coefficient : A → ℕ → V)
      (has : HasBasis K lift dimension basis coefficient) where
    abbrev shifts : List A
    shifts = map lift (chunk_shifts F w shift k d)

    abbrev split : IsSplit F w shift k d
    split = cosets_split F L top w W shift n k d b

    shifts_many : length shifts ≡ 2 ^ d
    shifts_many = length-map (chunk_shifts F w shift k d) lift
        ∙ length-tabulate (2 ^ d) (coset_point F (w (k + d)) shift)

    shift_is : (i : ℕ) → i < 2 ^ d
        → get_or shifts i K.zero ≡ lift (coset_point F (w (k + d)) shift i)
    shift_is i l =
        get_or-map lift (chunk_shifts F w shift k d) i F.zero K.zero
        (omega (arith, l, length-tabulate (2 ^ d) (coset_point F (w (k + d)) shift)))
        ∙ ap lift (get_or-tabulate (2 ^ d) (coset_point F (w (k + d)) shift) i F.zero l)

    -- the points of the chunks are those of the whole coset, so off the subgroup
    points_off : (i j : ℕ) → zerofier K (2 ^ k) (lift (chunk_point F w shift k d i j)) ≢ K.zero
    points_off i j = let h = split in off_lifted (2 ^ k) (chunk_point F w shift k d i j)
        (λ e. off (i + j * 2 ^ d) (ap (λ x. zerofier F (2 ^ k) x) (sym (h.points i j)) ∙ e))

    module _ (chunks : List (List (List V))) (z : A) where
      abbrev rows : List (List A)
      rows = map (λ chunk. values_at F K lift chunk z) chunks

      abbrev column : (i e : ℕ) → List V
      column i e = get_or (get_or chunks i []) e []

      row_is : (i : ℕ) → i < length chunks
          → get_or rows i [] ≡ values_at F K lift (get_or chunks i []) z
      row_is i l = get_or-map (λ chunk. values_at F K lift chunk z) chunks i [] [] l

      module _ (value : A → A) (are : AreQuotientChunks F lift w shift k d dimension coefficient
          value chunks) where
        width : (i : ℕ) → i < 2 ^ d → length (get_or rows i []) ≡ dimension
        width i l = ap length (row_is i (omega (arith, l, are.count)))
            ∙ length-map (get_or chunks i []) (λ c. val K (map lift c) z) ∙ are.widths i l

        entry : (i e : ℕ) → i < 2 ^ d → e < dimension
            → get_or (get_or rows i []) e K.zero ≡ val K (map lift (column i e)) z
        entry i e l b =
            ap (λ row. get_or row e K.zero) (row_is i (omega (arith, l, are.count)))
            ∙ get_or-map (λ c. val K (map lift c) z) (get_or chunks i []) e [] K.zero
            (omega (arith, b, are.widths i l))

        recombined_entry : (e : ℕ) → e < dimension
            → get_or (recombined_columns K k shifts rows z) e K.zero
            ≡ recombined K (2 ^ d) k (λ i. lift (coset_point F (w (k + d)) shift i))
            (λ i. val K (map lift (column i e)) z) z
        recombined_entry e b =
            get_or-tabulate (length (get_or rows 0 []))
            (λ j. recombined K (length shifts) k (λ i. get_or shifts i K.zero)
            (λ i. get_or (get_or rows i []) j K.zero) z) e K.zero
            (omega (arith, b, width 0 (pow_pos d)))
            ∙ ap (λ m. recombined K m k (λ i. get_or shifts i K.zero)
            (λ i. get_or (get_or rows i []) e K.zero) z) shifts_many
            ∙ recombined_same K M.ring (2 ^ d) k (λ i. get_or shifts i K.zero)
            (λ i. lift (coset_point F (w (k + d)) shift i))
            (λ i. get_or (get_or rows i []) e K.zero)
            (λ i. val K (map lift (column i e)) z) z shift_is (λ i l. entry i e l b)

        -- of the values of a polynomial of bounded degree the quotient is its value
        pub quotient_found : (q : A → A) → HasDegreeBelow K (2 ^ d * 2 ^ k) q
            → ((x : A) → zerofier K (2 ^ k) x ≢ K.zero → value x ≡ q x)
            → quotient_at K dimension basis k shifts rows z ≡ q z
        quotient_found q degree same =
            sum_below-equal K dimension
            (λ e. K.mul (basis e) (get_or (recombined_columns K k shifts rows z) e K.zero))
            (λ e. K.mul (basis e) (recombined K (2 ^ d) k
            (λ i. lift (coset_point F (w (k + d)) shift i))
            (λ i. val K (map lift (column i e)) z) z))
            (λ e b. ap (λ x. K.mul (basis e) x) (recombined_entry e b))
            ∙ given_columns_recombine F L K M lift H top w W k (omega (arith, b)) (2 ^ d)
            (coset_point F (w (k + d)) shift) (λ i l. let h = split in h.nonzero i)
            (let h = split in h.apart) dimension basis coefficient has q degree column are.degrees
            (λ i j e li lj le. are.values i j e li lj le
            ∙ ap (λ x. coefficient x e)
            (same (lift (chunk_point F w shift k d i j)) (points_off i j))) z

    pub chunks_agree : (air : Air V) (given : Assigned V) (l : ℕ) (columns : Columns V A)
        → AreColumnsOf F K lift (w k) (2 ^ k) l given columns → Fits l (2 ^ k) (2 ^ d) air
        → IsSatisfied F air given → (alpha : A) (chunks : List (List (List V)))
        → AreQuotientChunks F lift w shift k d dimension coefficient
        (quotient_value F K lift air columns given.public_values (lift (w k)) (2 ^ k) alpha) chunks
        → (z : A) → zerofier K (2 ^ k) z ≢ K.zero
        → quotient_value F K lift air columns given.public_values (lift (w k)) (2 ^ k) alpha z
        ≡ quotient_at K dimension basis k shifts (map (λ chunk. values_at F K lift chunk z) chunks) z
    chunks_agree air given l columns are fits satisfied alpha chunks these z off_z =
        agree (satisfied_is_shown F L K M lift H top w W k (omega (arith, b)) air given l (2 ^ d)
        columns are fits satisfied alpha)
      where
        agree : HasQuotient F K lift air columns given.public_values (lift (w k)) (2 ^ k) (2 ^ d)
            alpha
            → quotient_value F K lift air columns given.public_values (lift (w k)) (2 ^ k) alpha z
            ≡ quotient_at K dimension basis k shifts
            (map (λ chunk. values_at F K lift chunk z) chunks) z
        agree h =
            HoldsAt.identity (h.holds z off_z)
            ∙ sym (quotient_found chunks z
            (quotient_value F K lift air columns given.public_values (lift (w k)) (2 ^ k) alpha)
            these h.quotient h.degree (λ x off_x. HoldsAt.identity (h.holds x off_x)))
