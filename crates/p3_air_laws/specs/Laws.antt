-- The statements of the law functions.
use Rattle.std.specs.Prelude.{◌≡◌, ◌≤◌, ◌<◌, ℕ, suc, ◌*◌, ◌^◌, List, length, All}
use Rattle.std.specs.Prelude.{slice_index_or}
use Rattle.algebra.specs.Field.{FieldOps, IsField, IsHomomorphism, pow}
use Rattle.algebra.specs.Interpolation.{AreDistinct}
use Rattle.algebra.specs.TwoAdic.{AreRoots}
use Rattle.p3_air.specs.declared.air.Air.{Air}
use Rattle.p3_air.specs.Nodes.{meanings, values_in}
use Rattle.p3_air.specs.Satisfied.{Assigned, HasShape, IsSatisfied, node_values}
use Rattle.p3_air_laws.specs.Columns.{Columns, AreColumnsOf, entries_over}
use Rattle.p3_air_laws.specs.Composition.{polynomial_degree, IsShown, HasQuotient}

-- over the columns' polynomials, at the point of a row, each node has its value at that row
abbrev pub RowsAreLifted : Type 0 → Type 0 → Type 0
RowsAreLifted V A = (F : FieldOps V) → IsField F → (K : FieldOps A) → IsField K
    → (lift : V → A) → IsHomomorphism F K lift → (top : ℕ) (w : ℕ → V) → AreRoots F top w
    → (k : ℕ) → k ≤ top → (air : Air V) (given : Assigned V) → (l : ℕ) (columns : Columns V A)
    → AreColumnsOf F K lift (w k) (2 ^ k) l given columns → (node i : ℕ) → i < 2 ^ k
    → slice_index_or (meanings (values_in K lift F.zero (entries_over F K lift columns
    given.public_values (pow K (lift (w k)) i) (K.mul (lift (w k)) (pow K (lift (w k)) i))))
    air.nodes.items) node K.zero
    ≡ lift (slice_index_or (node_values F air given i) node F.zero)

-- with columns of `l` coefficients over a domain of `n` points each constraint, times its selector,
-- has a degree below that of the vanishing polynomial times `m` chunks of `n` coefficients
pub record Fits {V : Type 0} (l n m : ℕ) (air : Air V) : Type 0 where
  pub some_chunk : 1 ≤ m
  pub degrees : All (λ c. polynomial_degree l n air c < suc m * n) air.constraints.items

-- at most one challenge fewer than there are constraints can be shown of what doesn't satisfy them
abbrev pub ShownIsSatisfied : Type 0 → Type 0 → Type 0
ShownIsSatisfied V A = (F : FieldOps V) → IsField F → (K : FieldOps A) → IsField K
    → (lift : V → A) → IsHomomorphism F K lift → (top : ℕ) (w : ℕ → V) → AreRoots F top w
    → (k : ℕ) → k ≤ top → (air : Air V) (given : Assigned V) → HasShape air.layout given
    → (l m : ℕ) (columns : Columns V A) → AreColumnsOf F K lift (w k) (2 ^ k) l given columns
    → Fits l (2 ^ k) m air
    → (alphas : List A) → AreDistinct alphas → length air.constraints.items ≤ length alphas
    → All (λ alpha.
    IsShown F K lift air columns given.public_values (lift (w k)) (2 ^ k) m alpha) alphas
    → IsSatisfied F air given

-- and of what satisfies them each can
abbrev pub SatisfiedIsShown : Type 0 → Type 0 → Type 0
SatisfiedIsShown V A = (F : FieldOps V) → IsField F → (K : FieldOps A) → IsField K
    → (lift : V → A) → IsHomomorphism F K lift → (top : ℕ) (w : ℕ → V) → AreRoots F top w
    → (k : ℕ) → k ≤ top → (air : Air V) (given : Assigned V) → (l m : ℕ)
    → (columns : Columns V A) → AreColumnsOf F K lift (w k) (2 ^ k) l given columns
    → Fits l (2 ^ k) m air → IsSatisfied F air given → (alpha : A)
    → HasQuotient F K lift air columns given.public_values (lift (w k)) (2 ^ k) m alpha
