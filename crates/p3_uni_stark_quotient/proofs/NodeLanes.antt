-- The value of a node in one lane, by what was read for its kind.
use Rattle.std.proofs.Common.{◌≡◌, ℕ, ◌<◌, List, length, get_or, map, sym, subst, ap, ap₂, ◌∙◌}
use Rattle.std.proofs.lemmas.List.{get_or-map}
use Rattle.p3_air.specs.declared.air.AirLayout.{AirLayout}
use Rattle.p3_air.specs.declared.air.Node.{Node}
use Rattle.p3_air.specs.declared.air.Node.TheVariants.{Add, Sub, Mul, Neg}
use Rattle.p3_air.specs.Nodes.{Meaning, node_meaning}
use Rattle.p3_air.specs.WellFormed.{IsGrounded}

-- an element at a place, in one lane
pub in_place : {P V : Type 0} (at : P → V) (xs : List P) (a : ℕ) (x : P) (d : V) → a < length xs
    → x ≡ get_or xs a x → at x ≡ get_or (map at xs) a d
in_place at xs a x d l is = ap at is ∙ sym (get_or-map at xs a x d l)

module _ {P V W : Type 0} (at : P → V) (m : Meaning W V) (layout : AirLayout) (earlier : List P)
    (node : Node W) (grounded : IsGrounded layout (length earlier) node) where
  -- what a node of this kind means
  pub value_of_kind : (kind : Node W) (value : V) → node ≡ kind
      → value ≡ node_meaning m (map at earlier) kind → value ≡ node_meaning m (map at earlier) node
  value_of_kind kind value is h =
      subst (λ n. value ≡ node_meaning m (map at earlier) n) (sym is) h

  -- two earlier values, put together
  of_two : (op : V → V → V) (a b : ℕ) (x y : P) (value : V)
      → (a < length earlier) × (b < length earlier) → x ≡ get_or earlier a x
      → y ≡ get_or earlier b y → value ≡ op (at x) (at y)
      → value ≡ op (get_or (map at earlier) a m.none) (get_or (map at earlier) b m.none)
  of_two op a b x y value known x_is y_is made =
      made ∙ ap₂ op (in_place at earlier a x m.none known.0 x_is)
      (in_place at earlier b y m.none known.1 y_is)

  pub value_of_sum : (a b : ℕ) (x y : P) (value : V) → node ≡ Add a b → x ≡ get_or earlier a x
      → y ≡ get_or earlier b y → value ≡ m.add (at x) (at y)
      → value ≡ node_meaning m (map at earlier) node
  value_of_sum a b x y value is x_is y_is made =
      value_of_kind (Add a b) value is (of_two m.add a b x y value
      (subst (IsGrounded layout (length earlier)) is grounded) x_is y_is made)

  pub value_of_difference : (a b : ℕ) (x y : P) (value : V) → node ≡ Sub a b
      → x ≡ get_or earlier a x → y ≡ get_or earlier b y → value ≡ m.sub (at x) (at y)
      → value ≡ node_meaning m (map at earlier) node
  value_of_difference a b x y value is x_is y_is made =
      value_of_kind (Sub a b) value is (of_two m.sub a b x y value
      (subst (IsGrounded layout (length earlier)) is grounded) x_is y_is made)

  pub value_of_product : (a b : ℕ) (x y : P) (value : V) → node ≡ Mul a b
      → x ≡ get_or earlier a x → y ≡ get_or earlier b y → value ≡ m.mul (at x) (at y)
      → value ≡ node_meaning m (map at earlier) node
  value_of_product a b x y value is x_is y_is made =
      value_of_kind (Mul a b) value is (of_two m.mul a b x y value
      (subst (IsGrounded layout (length earlier)) is grounded) x_is y_is made)

  pub value_of_negative : (a : ℕ) (x : P) (value : V) → node ≡ Neg a → x ≡ get_or earlier a x
      → value ≡ m.neg (at x) → value ≡ node_meaning m (map at earlier) node
  value_of_negative a x value is x_is made =
      value_of_kind (Neg a) value is (made ∙ ap m.neg (in_place at earlier a x m.none
      (subst (IsGrounded layout (length earlier)) is grounded) x_is))
