-- The statements of the law functions.
use Rattle.std.specs.Prelude.{◌≡◌, ◌≢◌, ◌≤◌, ◌<◌, ℕ, ◌+◌, ◌%◌, ◌^◌, length, map}
use Rattle.algebra.specs.Field.{FieldOps, IsField, IsHomomorphism, pow}
use Rattle.algebra.specs.Quotients.{values_at}
use Rattle.algebra.specs.TwoAdic.{AreRoots}
use Rattle.p3_field_core.specs.Coset.{coset_point}
use Rattle.p3_air.specs.declared.air.Air.{Air}
use Rattle.p3_air.specs.Satisfied.{row_at}
use Rattle.p3_air_laws.specs.Columns.{Columns}
use Rattle.p3_uni_stark_identity.specs.Laws.{IsOffSubgroup, quotient_value}
use Rattle.p3_uni_stark_quotient.specs.Given.{OnCoset, entries_on}
use Rattle.p3_uni_stark_quotient.specs.Quotient.{quotient_on_row}

-- the rows are the values of the columns' polynomials at the points of a coset, of which there are
-- `size`
pub record AreEvaluations {V A : Type 0} (F : FieldOps V) (K : FieldOps A) (lift : V → A)
    (point : ℕ → V) (size : ℕ) (columns : Columns V A) (given : OnCoset V) : Type 0 where
  pub height : length given.trace ≡ size
  pub trace : (i : ℕ) → i < size
      → map lift (row_at given.trace i) ≡ values_at F K lift columns.trace (lift (point i))
  pub preprocessed : (i : ℕ) → i < size → map lift (row_at given.preprocessed i)
      ≡ values_at F K lift columns.preprocessed (lift (point i))
  pub periodic : (i : ℕ) → i < size → map lift (row_at given.periodic (i % length given.periodic))
      ≡ map (λ f. f (lift (point i))) columns.periodic

-- of such rows the prover's values are the quotient's at the points of the coset
abbrev pub QuotientOfColumns : Type 0 → Type 0 → Type 0
QuotientOfColumns V A = (F : FieldOps V) → IsField F → (K : FieldOps A) → (lift : V → A)
    → IsHomomorphism F K lift → (top : ℕ) (w : ℕ → V) → AreRoots F top w
    → (k d : ℕ) → k + d ≤ top → (shift : V) (columns : Columns V A) (given : OnCoset V)
    → AreEvaluations F K lift (coset_point F (w (k + d)) shift) (2 ^ (k + d)) columns given
    → (air : Air V) (alpha : A) (i : ℕ) → i < 2 ^ (k + d)
    → quotient_on_row F K lift air (w k) (2 ^ k) alpha (entries_on given (2 ^ d) i)
    (coset_point F (w (k + d)) shift i)
    ≡ quotient_value F K lift air columns given.public_values (lift (w k)) (2 ^ k) alpha
    (lift (coset_point F (w (k + d)) shift i))

-- a coset meets no subgroup of order up to `2^top`, where its shift to that power isn't one
abbrev pub CosetsAreOff : Type 0 → Type 0
CosetsAreOff V = (F : FieldOps V) → IsField F → (top : ℕ) (w : ℕ → V) → AreRoots F top w
    → (shift : V) → pow F shift (2 ^ top) ≢ F.one → (k m : ℕ) → k ≤ top → m ≤ top
    → IsOffSubgroup F (w m) shift k
