-- Constraints over the polynomials of columns, put together by powers of a challenge.
use Rattle.std.specs.Prelude.{◌≡◌, ◌≢◌, ◌≤◌, ℕ, suc, pred, ◌+◌, ◌*◌, List, length, map, reverse}
use Rattle.std.specs.Prelude.{slice_index_or, All}
use Rattle.algebra.specs.Field.{FieldOps}
use Rattle.algebra.specs.Interpolation.{AreDistinct}
use Rattle.algebra.specs.Polynomial.{val}
use Rattle.stark_algebra.specs.Degrees.{HasDegreeBelow}
use Rattle.stark_algebra.specs.Selectors.{zerofier, point_selector, others_selector}
use Rattle.p3_air.specs.declared.air.Air.{Air}
use Rattle.p3_air.specs.declared.air.Rows.{Rows}
use Rattle.p3_air.specs.declared.air.Rows.TheVariants as rows
use Rattle.p3_air.specs.declared.air.Constraint.{Constraint}
use Rattle.p3_air.specs.Degrees.{node_degrees}
use Rattle.p3_air.specs.Nodes.{Entries, meanings, values_in}
use Rattle.p3_air_laws.specs.Columns.{Columns, entries_over}

-- the degree of the rows' selector, of a domain of `n` points
abbrev pub selector_degree : (n : ℕ) → Rows → ℕ
selector_degree n rows.All = 0
selector_degree n rows.First = pred n
selector_degree n rows.Last = pred n
selector_degree n rows.Transition = 1

-- the degree of a constraint with its selector, where columns have `l` coefficients
abbrev pub polynomial_degree : {V : Type 0} → (l n : ℕ) → Air V → Constraint → ℕ
polynomial_degree l n air c =
    slice_index_or (node_degrees air) c.node 0 * pred l + selector_degree n c.rows

-- the value at `z` of what selects these rows among the powers of `g`, of which there are `n`
abbrev pub selector : {A : Type 0} → (K : FieldOps A) → (g : A) → (n : ℕ) → Rows → (z : A) → A
selector K g n rows.All z = K.one
selector K g n rows.First z = point_selector K n K.one z
selector K g n rows.Last z = point_selector K n (K.inv g) z
selector K g n rows.Transition z = others_selector K (K.inv g) z

module _ {V A : Type 0} (K : FieldOps A) (lift : V → A) (nothing : V) (air : Air V) (g : A)
    (n : ℕ) where
  -- a constraint's value where this is seen, times its selector's at `z`
  abbrev pub selected : (entries : Entries V A) (z : A) → Constraint → A
  selected entries z c = K.mul (selector K g n c.rows z)
      (slice_index_or (meanings (values_in K lift nothing entries) air.nodes.items) c.node K.zero)

  -- all of them by powers of `alpha`, the last one times one
  abbrev pub folded : (entries : Entries V A) (alpha z : A) → A
  folded entries alpha z = val K (map (selected entries z) (reverse air.constraints.items)) alpha

module _ {V A : Type 0} (F : FieldOps V) (K : FieldOps A) (lift : V → A) (air : Air V)
    (columns : Columns V A) (public_values : List V) (g : A) (n : ℕ) where
  -- off the domain, the constraints' sum is the vanishing polynomial times `q`
  pub record HoldsAt (alpha : A) (q : A → A) (z : A) : Type 0 where
    pub off : zerofier K n z ≢ K.zero
    pub identity : K.mul (folded K lift F.zero air g n
        (entries_over F K lift columns public_values z (K.mul g z)) alpha z)
        (K.inv (zerofier K n z)) ≡ q z

  -- it is at more points than the degrees allow, for a polynomial `q` of `m` chunks
  pub record IsShown (m : ℕ) (alpha : A) : Type 0 where
    pub quotient : A → A
    pub degree : HasDegreeBelow K (m * n) quotient
    pub points : List A
    pub distinct : AreDistinct points
    pub count : suc m * n ≤ length points
    pub holds : All (HoldsAt alpha quotient) points

  -- it is at all points off the domain
  pub record HasQuotient (m : ℕ) (alpha : A) : Type 0 where
    pub quotient : A → A
    pub degree : HasDegreeBelow K (m * n) quotient
    pub holds : (z : A) → zerofier K n z ≢ K.zero → HoldsAt alpha quotient z
