-- The statements of the law functions.
use Rattle.std.specs.Prelude.{◌≡◌, ◌≢◌, ◌≤◌, ◌<◌, ℕ, ◌+◌, ◌^◌, List, length, map}
use Rattle.std.specs.Prelude.{slice_index_or}
use Rattle.algebra.specs.Field.{FieldOps, IsField, IsHomomorphism}
use Rattle.algebra.specs.Quotients.{values_at}
use Rattle.algebra.specs.TwoAdic.{AreRoots}
use Rattle.p3_field_core.specs.Coset.{coset_point}
use Rattle.stark_algebra.specs.Laws.{HasBasis}
use Rattle.stark_algebra.specs.Selectors.{zerofier}
use Rattle.p3_air.specs.declared.air.Air.{Air}
use Rattle.p3_air.specs.Satisfied.{Assigned, IsSatisfied}
use Rattle.p3_air_laws.specs.Columns.{Columns, AreColumnsOf, entries_over}
use Rattle.p3_air_laws.specs.Laws.{Fits}
use Rattle.p3_uni_stark_identity.specs.Chunks.{chunk_shifts, quotient_at}
use Rattle.p3_uni_stark_identity.specs.Identity.{IsQuotientOf}
use Rattle.p3_uni_stark_identity.specs.Laws.{IsOffSubgroup}
use Rattle.p3_uni_stark_quotient.specs.Given.{OnCoset}
use Rattle.p3_uni_stark_quotient.specs.Laws.{AreEvaluations}
use Rattle.p3_uni_stark_quotient.specs.Quotient.{quotient_on_coset}
use Rattle.p3_uni_stark_completeness.specs.Chunks.{AreChunkColumns}
use Rattle.p3_uni_stark_completeness.specs.Periodic.{IsFunctionOf}

-- Of a trace that satisfies its constraints: where a prover computes the quotient's values on a
-- coset by the columns' values there, and the chunks are the polynomials that have the coefficients
-- of these values on their cosets, they agree at each point off the trace's domain with what the
-- constraints see of the columns there.
abbrev pub HonestChunksAgree : Type 0 → Type 0 → Type 0
HonestChunksAgree V A = (F : FieldOps V) → IsField F → (K : FieldOps A) → IsField K
    → (lift : V → A) → IsHomomorphism F K lift → (top : ℕ) (w : ℕ → V) → AreRoots F top w
    → (k d : ℕ) → k + d ≤ top → (shift : V) → shift ≢ F.zero
    → IsOffSubgroup F (w (k + d)) shift k
    → (dimension : ℕ) (basis : ℕ → A) (coefficients : A → List V)
    → HasBasis K lift dimension basis (λ x e. slice_index_or (coefficients x) e F.zero)
    → (air : Air V) (given : Assigned V) (l : ℕ) (columns : Columns V A)
    → AreColumnsOf F K lift (w k) (2 ^ k) l given columns → Fits l (2 ^ k) (2 ^ d) air
    → IsSatisfied F air given → (alpha : A) (on : OnCoset V)
    → AreEvaluations F K lift (coset_point F (w (k + d)) shift) (2 ^ (k + d)) columns on
    → on.public_values ≡ given.public_values → (values : List A)
    → values ≡ quotient_on_coset F K lift air (w k) (2 ^ k) alpha on (w (k + d)) shift (2 ^ d)
    (k + d)
    → (chunks : List (List (List V)))
    → AreChunkColumns F K.zero w shift k d dimension coefficients values chunks
    → (z : A) → zerofier K (2 ^ k) z ≢ K.zero
    → IsQuotientOf K lift F.zero air (lift (w k)) (2 ^ k)
    (entries_over F K lift columns given.public_values z (K.mul (lift (w k)) z)) alpha z
    (quotient_at K dimension basis k (map lift (chunk_shifts F w shift k d))
    (map (λ chunk. values_at F K lift chunk z) chunks) z)

-- each periodic column, of a length that divides the trace's height, has its function
abbrev pub PeriodicColumnsExtend : Type 0 → Type 0 → Type 0
PeriodicColumnsExtend V A = (F : FieldOps V) → IsField F → (K : FieldOps A) → IsField K
    → (lift : V → A) → IsHomomorphism F K lift → (top : ℕ) (w : ℕ → V) → AreRoots F top w
    → top < 64 → (k : ℕ) → k ≤ top → (column : List V) (a : ℕ) → length column ≡ 2 ^ a → a ≤ k
    → (f : A → A) × IsFunctionOf F K lift w k column f
