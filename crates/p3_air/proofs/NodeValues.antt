-- The value of a node, by what was read for its kind.
use Rattle.std.proofs.Common.{◌≡◌, ℕ, ◌<◌, List, length, get_or, sym, subst, ap, ap₂, ◌∙◌}
use Rattle.std.proofs.lemmas.List.{get_or_read}
use Rattle.p3_air.specs.declared.air.AirLayout.{AirLayout}
use Rattle.p3_air.specs.declared.air.Node.{Node}
use Rattle.p3_air.specs.declared.air.Node.TheVariants.{Add, Sub, Mul}
use Rattle.p3_air.specs.Nodes.{Meaning, node_meaning}
use Rattle.p3_air.specs.WellFormed.{IsGrounded}

module _ {V B : Type 0} (m : Meaning V B) (layout : AirLayout) (earlier : List B) (node : Node V)
    (grounded : IsGrounded layout (length earlier) node) where
  -- what a node of this kind means
  pub value_of_kind : (kind : Node V) (value : B) → node ≡ kind
      → value ≡ node_meaning m earlier kind → value ≡ node_meaning m earlier node
  value_of_kind kind value is h = subst (λ n. value ≡ node_meaning m earlier n) (sym is) h

  -- two earlier values, put together
  of_two : (op : B → B → B) (a b : ℕ) (x y value : B) → (a < length earlier) × (b < length earlier)
      → x ≡ get_or earlier a x → y ≡ get_or earlier b y → value ≡ op x y
      → value ≡ op (get_or earlier a m.none) (get_or earlier b m.none)
  of_two op a b x y value known x_is y_is made =
      made ∙ ap₂ op (get_or_read earlier a x known.0 x_is m.none)
      (get_or_read earlier b y known.1 y_is m.none)

  pub value_of_sum : (a b : ℕ) (x y value : B) → node ≡ Add a b → x ≡ get_or earlier a x
      → y ≡ get_or earlier b y → value ≡ m.add x y → value ≡ node_meaning m earlier node
  value_of_sum a b x y value is x_is y_is made =
      value_of_kind (Add a b) value is (of_two m.add a b x y value
      (subst (IsGrounded layout (length earlier)) is grounded) x_is y_is made)

  pub value_of_difference : (a b : ℕ) (x y value : B) → node ≡ Sub a b → x ≡ get_or earlier a x
      → y ≡ get_or earlier b y → value ≡ m.sub x y → value ≡ node_meaning m earlier node
  value_of_difference a b x y value is x_is y_is made =
      value_of_kind (Sub a b) value is (of_two m.sub a b x y value
      (subst (IsGrounded layout (length earlier)) is grounded) x_is y_is made)

  pub value_of_product : (a b : ℕ) (x y value : B) → node ≡ Mul a b → x ≡ get_or earlier a x
      → y ≡ get_or earlier b y → value ≡ m.mul x y → value ≡ node_meaning m earlier node
  value_of_product a b x y value is x_is y_is made =
      value_of_kind (Mul a b) value is (of_two m.mul a b x y value
      (subst (IsGrounded layout (length earlier)) is grounded) x_is y_is made)
