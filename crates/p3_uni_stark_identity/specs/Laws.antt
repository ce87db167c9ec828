-- The statements of the law functions.
use Rattle.std.specs.Prelude.{◌≡◌, ◌≢◌, ◌≤◌, ◌<◌, ℕ, ◌+◌, ◌^◌, List, [], length, map}
use Rattle.std.specs.Prelude.{slice_index_or}
use Rattle.algebra.specs.Field.{FieldOps, IsField, IsHomomorphism, pow}
use Rattle.algebra.specs.Polynomial.{val}
use Rattle.algebra.specs.Quotients.{values_at}
use Rattle.algebra.specs.TwoAdic.{AreRoots}
use Rattle.p3_field_core.specs.Coset.{coset_point}
use Rattle.stark_algebra.specs.Laws.{HasBasis}
use Rattle.stark_algebra.specs.Selectors.{zerofier}
use Rattle.p3_air.specs.declared.air.Air.{Air}
use Rattle.p3_air.specs.Satisfied.{Assigned, IsSatisfied}
use Rattle.p3_air_laws.specs.Columns.{Columns, AreColumnsOf, entries_over}
use Rattle.p3_air_laws.specs.Composition.{folded}
use Rattle.p3_air_laws.specs.Laws.{Fits}
use Rattle.p3_uni_stark_identity.specs.Chunks.{chunk_shifts, quotient_at}
use Rattle.p3_uni_stark_identity.specs.Identity.{IsQuotientOf}

-- a coset's points are off the subgroup of `2^k` points: at none is `X^(2^k) - 1` zero
abbrev pub IsOffSubgroup : {A : Type 0} (F : FieldOps A) (w shift : A) (k : ℕ) → Type 0
IsOffSubgroup F w shift k = (i : ℕ) → zerofier F (2 ^ k) (coset_point F w shift i) ≢ F.zero

-- where columns are these polynomials: the constraints' sum at `z`, over the value of the
-- polynomial that vanishes on the powers of `g`, of which there are `n`
abbrev pub quotient_value : {V A : Type 0} (F : FieldOps V) (K : FieldOps A) (lift : V → A)
    (air : Air V) (columns : Columns V A) (public_values : List V) (g : A) (n : ℕ) (alpha z : A) → A
quotient_value F K lift air columns public_values g n alpha z = K.mul
    (folded K lift F.zero air g n (entries_over F K lift columns public_values z (K.mul g z))
    alpha z) (K.inv (zerofier K n z))

-- point `j` of the coset of chunk `i`
abbrev pub chunk_point : {V : Type 0} (F : FieldOps V) (w : ℕ → V) (shift : V) (k d i j : ℕ) → V
chunk_point F w shift k d i j = F.mul (coset_point F (w (k + d)) shift i) (pow F (w k) j)

module _ {V A : Type 0} (F : FieldOps V) (lift : V → A) (w : ℕ → V) (shift : V) (k d : ℕ)
    (dimension : ℕ) (coefficient : A → ℕ → V) (value : A → A) where
  -- polynomials of `2^k` coefficients, `dimension` to each of `2^d` chunks, that have on the coset
  -- of their chunk the coefficients of the values there
  pub record AreQuotientChunks (chunks : List (List (List V))) : Type 0 where
    pub count : length chunks ≡ 2 ^ d
    pub widths : (i : ℕ) → i < 2 ^ d → length (slice_index_or chunks i []) ≡ dimension
    pub degrees : (i e : ℕ) → i < 2 ^ d → e < dimension
        → length (slice_index_or (slice_index_or chunks i []) e []) ≡ 2 ^ k
    pub values : (i j e : ℕ) → i < 2 ^ d → j < 2 ^ k → e < dimension
        → val F (slice_index_or (slice_index_or chunks i []) e [])
        (chunk_point F w shift k d i j)
        ≡ coefficient (value (lift (chunk_point F w shift k d i j))) e

-- Of a trace that satisfies its constraints: chunks of the coefficients of the quotient's values,
-- on the cosets into which one is split that is off the trace's domain, agree at each point off
-- that domain with what the constraints see of the columns there.
abbrev pub QuotientChunksAgree : Type 0 → Type 0 → Type 0
QuotientChunksAgree V A = (F : FieldOps V) → IsField F → (K : FieldOps A) → IsField K
    → (lift : V → A) → IsHomomorphism F K lift → (top : ℕ) (w : ℕ → V) → AreRoots F top w
    → (k d : ℕ) → k + d ≤ top → (shift : V) → shift ≢ F.zero
    → IsOffSubgroup F (w (k + d)) shift k
    → (dimension : ℕ) (basis : ℕ → A) (coefficient : A → ℕ → V)
    → HasBasis K lift dimension basis coefficient
    → (air : Air V) (given : Assigned V) (l : ℕ) (columns : Columns V A)
    → AreColumnsOf F K lift (w k) (2 ^ k) l given columns → Fits l (2 ^ k) (2 ^ d) air
    → IsSatisfied F air given → (alpha : A) (chunks : List (List (List V)))
    → AreQuotientChunks F lift w shift k d dimension coefficient
    (quotient_value F K lift air columns given.public_values (lift (w k)) (2 ^ k) alpha) chunks
    → (z : A) → zerofier K (2 ^ k) z ≢ K.zero
    → IsQuotientOf K lift F.zero air (lift (w k)) (2 ^ k)
    (entries_over F K lift columns given.public_values z (K.mul (lift (w k)) z)) alpha z
    (quotient_at K dimension basis k (map lift (chunk_shifts F w shift k d))
    (map (λ chunk. values_at F K lift chunk z) chunks) z)
