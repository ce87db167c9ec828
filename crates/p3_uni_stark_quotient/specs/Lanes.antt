-- Elements packed to lanes, lane by lane.
use Rattle.std.specs.Prelude.{ℕ, List, map, slice_index_or}
use Rattle.algebra.specs.Field.{FieldOps}
use Rattle.algebra.specs.Polynomial.{tabulate}
use Rattle.p3_air.specs.declared.air.Constraint.{Constraint}
use Rattle.p3_air.specs.Nodes.{Entries}
use Rattle.p3_uni_stark_identity.specs.declared.selectors.LagrangeSelectors.{LagrangeSelectors}
use Rattle.p3_uni_stark_identity.specs.Folding.{selected_by}
use Rattle.p3_uni_stark_quotient.specs.declared.packed.PackedColumns.{PackedColumns}

module _ {V P : Type 0} (lane : P → ℕ → V) (l : ℕ) where
  -- the elements in one lane
  abbrev pub in_lane : (values : List P) → List V
  in_lane values = map (λ v. lane v l) values

  -- what constraints see in one lane
  abbrev pub lane_entries : Entries V P → Entries V V
  lane_entries entries = record {
    local = in_lane entries.local;
    next = in_lane entries.next;
    preprocessed = in_lane entries.preprocessed;
    preprocessed_next = in_lane entries.preprocessed_next;
    public_values = entries.public_values;
    periodic = in_lane entries.periodic;
  }

  -- the selectors in one lane
  abbrev pub selectors_in_lane : LagrangeSelectors P → LagrangeSelectors V
  selectors_in_lane selectors = record {
    is_first_row = lane selectors.is_first_row l;
    is_last_row = lane selectors.is_last_row l;
    is_transition = lane selectors.is_transition l;
    inv_vanishing = lane selectors.inv_vanishing l;
  }

-- what constraints see in all lanes
abbrev pub packed_entries : {V P : Type 0} → PackedColumns V P → (public_values : List V)
    → Entries V P
packed_entries columns public_values = record {
  local = columns.local.items;
  next = columns.next.items;
  preprocessed = columns.preprocessed.items;
  preprocessed_next = columns.preprocessed_next.items;
  public_values = public_values;
  periodic = columns.periodic.items;
}

module _ {V P : Type 0} (F : FieldOps V) (lane : P → ℕ → V) (selectors : LagrangeSelectors P)
    (values : List P) where
  -- a constraint's value times its selector in one lane
  abbrev pub selected_in_lane : (l : ℕ) → Constraint → V
  selected_in_lane l constraint = selected_by F (selectors_in_lane lane l selectors) constraint.rows
      (slice_index_or (in_lane lane l values) constraint.node F.zero)

  -- that in each of `width` lanes
  abbrev pub selected_lanes : (width : ℕ) → Constraint → List V
  selected_lanes width constraint = tabulate width (λ l. selected_in_lane l constraint)
