-- Which plain form is a constraint system's.
use Rattle.std.specs.Prelude.{◌≡◌, ℕ, map}
use Rattle.p3_air.specs.declared.air.Air.{Air}
use Rattle.p3_air.specs.declared.air.AirLayout.{AirLayout}
use Rattle.p3_air.specs.declared.air.Constraint.{Constraint}
use Rattle.p3_air.specs.declared.air.Node.{Node}
use Rattle.p3_air.specs.declared.air.Node.TheVariants as node
use Rattle.p3_air.specs.declared.air.Rows.{Rows}
use Rattle.p3_air.specs.declared.air.Rows.TheVariants as rows
use Rattle.p3_air_plain.specs.declared.forms.PlainAir.{PlainAir}
use Rattle.p3_air_plain.specs.declared.forms.PlainConstraint.{PlainConstraint}
use Rattle.p3_air_plain.specs.declared.forms.PlainLayout.{PlainLayout}
use Rattle.p3_air_plain.specs.declared.forms.PlainNode.{PlainNode}
use Rattle.p3_air_plain.specs.declared.forms.PlainNode.TheVariants as plain
use Rattle.p3_air_plain.specs.declared.forms.PlainRows.{PlainRows}
use Rattle.p3_air_plain.specs.declared.forms.PlainRows.TheVariants as plain_rows

abbrev pub layout_form : AirLayout → PlainLayout
layout_form layout = record {
  width = layout.width;
  preprocessed_width = layout.preprocessed_width;
  num_public_values = layout.num_public_values;
  num_periodic_columns = layout.num_periodic_columns;
}

abbrev pub rows_form : Rows → PlainRows
rows_form rows.All = plain_rows.All
rows_form rows.First = plain_rows.First
rows_form rows.Last = plain_rows.Last
rows_form rows.Transition = plain_rows.Transition

abbrev pub constraint_form : Constraint → PlainConstraint
constraint_form c = record { rows = rows_form c.rows; node = c.node }

module _ {V : Type 0} (canonical : V → ℕ) where
  -- a constant by its number; whatever else a node names, as it is
  abbrev pub node_form : Node V → PlainNode
  node_form (node.Constant value) = plain.Constant (canonical value)
  node_form (node.Local column) = plain.Local column
  node_form (node.Next column) = plain.Next column
  node_form (node.Preprocessed column) = plain.Preprocessed column
  node_form (node.PreprocessedNext column) = plain.PreprocessedNext column
  node_form (node.Public index) = plain.Public index
  node_form (node.Periodic column) = plain.Periodic column
  node_form (node.Add a b) = plain.Add a b
  node_form (node.Sub a b) = plain.Sub a b
  node_form (node.Mul a b) = plain.Mul a b
  node_form (node.Neg a) = plain.Neg a

  -- the form is the system's, part by part
  pub record IsFormOf (air : Air V) (form : PlainAir) : Type 0 where
    pub layout : layout_form air.layout ≡ form.layout
    pub nodes : map node_form air.nodes.items ≡ form.nodes.items
    pub constraints : map constraint_form air.constraints.items ≡ form.constraints.items
