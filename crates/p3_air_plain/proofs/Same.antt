-- A plain form is that of one system at most.
use Rattle.std.proofs.Common.{◌≡◌, ℕ, List, [], ◌∷◌, map, refl, sym, ap, ap₂, ◌∙◌}
use Rattle.algebra.proofs.Lists.{head_eq, tail_eq}
use Rattle.p3_air.specs.Built.{IsSame}
use Rattle.p3_air.specs.declared.air.Air.{Air}
use Rattle.p3_air.specs.declared.air.AirLayout.{AirLayout}
use Rattle.p3_air.specs.declared.air.Constraint.{Constraint}
use Rattle.p3_air.specs.declared.air.Node.{Node}
use Rattle.p3_air.specs.declared.air.Node.TheVariants as node
use Rattle.p3_air.specs.declared.air.Rows.{Rows}
use Rattle.p3_air.specs.declared.air.Rows.TheVariants as rows
use Rattle.p3_air_plain.specs.declared.forms.PlainAir.{PlainAir}
use Rattle.p3_air_plain.specs.declared.forms.PlainConstraint.{PlainConstraint}
use Rattle.p3_air_plain.specs.declared.forms.PlainLayout.{PlainLayout}
use Rattle.p3_air_plain.specs.Forms.{layout_form, rows_form, constraint_form, node_form, IsFormOf}

-- where a function tells entries apart, it tells lists apart, entry by entry
map_apart : {A B : Type 0} (f : A → B) → ((a b : A) → f a ≡ f b → a ≡ b)
    → (xs ys : List A) → map f xs ≡ map f ys → xs ≡ ys
map_apart f apart [] [] e = refl
map_apart f apart [] (y ∷ ys) e = absurd cc
map_apart f apart (x ∷ xs) [] e = absurd cc
map_apart f apart (x ∷ xs) (y ∷ ys) e =
    ap₂ (λ z zs. z ∷ zs) (apart x y (head_eq e)) (map_apart f apart xs ys (tail_eq e))

same_layout : (a b : AirLayout) → layout_form a ≡ layout_form b → a ≡ b
same_layout a b e = λ i. record {
  width = ap (λ (l : PlainLayout). l.width) e i;
  preprocessed_width = ap (λ (l : PlainLayout). l.preprocessed_width) e i;
  num_public_values = ap (λ (l : PlainLayout). l.num_public_values) e i;
  num_periodic_columns = ap (λ (l : PlainLayout). l.num_periodic_columns) e i;
}

same_rows : (a b : Rows) → rows_form a ≡ rows_form b → a ≡ b
same_rows rows.All rows.All e = refl
same_rows rows.First rows.First e = refl
same_rows rows.Last rows.Last e = refl
same_rows rows.Transition rows.Transition e = refl
same_rows a b e = absurd cc

same_constraint : (a b : Constraint) → constraint_form a ≡ constraint_form b → a ≡ b
same_constraint a b e = λ i. record {
  rows = same_rows a.rows b.rows (ap (λ (c : PlainConstraint). c.rows) e) i;
  node = ap (λ (c : PlainConstraint). c.node) e i;
}

module _ {V : Type 0} (canonical : V → ℕ) (apart : (x y : V) → canonical x ≡ canonical y → x ≡ y) where
  same_node : (a b : Node V) → node_form canonical a ≡ node_form canonical b → a ≡ b
  same_node (node.Constant x) (node.Constant y) e =
      let same : canonical x ≡ canonical y = cc in ap node.Constant (apart x y same)
  same_node (node.Local x) (node.Local y) e = cc
  same_node (node.Next x) (node.Next y) e = cc
  same_node (node.Preprocessed x) (node.Preprocessed y) e = cc
  same_node (node.PreprocessedNext x) (node.PreprocessedNext y) e = cc
  same_node (node.Public x) (node.Public y) e = cc
  same_node (node.Periodic x) (node.Periodic y) e = cc
  same_node (node.Add x y) (node.Add z w) e = cc
  same_node (node.Sub x y) (node.Sub z w) e = cc
  same_node (node.Mul x y) (node.Mul z w) e = cc
  same_node (node.Neg x) (node.Neg y) e = cc
  same_node a b e = absurd cc

  pub same_air : (form : PlainAir) (a b : Air V) → IsFormOf canonical a form
      → IsFormOf canonical b form → IsSame a b
  same_air form a b p q = record {
    layout = same_layout b.layout a.layout (q.layout ∙ sym p.layout);
    nodes = map_apart (node_form canonical) same_node b.nodes.items a.nodes.items
        (q.nodes ∙ sym p.nodes);
    constraints = map_apart constraint_form same_constraint b.constraints.items
        a.constraints.items (q.constraints ∙ sym p.constraints);
  }
