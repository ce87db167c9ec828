-- What contracts see of a builder for some rows.
use Rattle.std.specs.Prelude.{◌≡◌}
use Rattle.std.specs.Borrow.{MutBor}
use Rattle.p3_air.specs.declared.air.Air.{Air}
use Rattle.p3_air.specs.declared.builder.AirBuilder.{AirBuilder}
use Rattle.p3_air.specs.declared.filtered.FilteredAirBuilder.{FilteredAirBuilder}

module _ {V : Type 0} where
  -- the system that is written
  abbrev pub air_of : FilteredAirBuilder V → Air V
  air_of filtered = filtered.builder.now.air

  -- it borrows this builder
  abbrev pub Borrows : MutBor (AirBuilder V) → FilteredAirBuilder V → Type 0
  Borrows builder filtered = filtered.builder.ghost_name ≡ builder.ghost_name

  -- both borrow the same builder
  abbrev pub SameBuilder : (before after : FilteredAirBuilder V) → Type 0
  SameBuilder before after = after.builder.ghost_name ≡ before.builder.ghost_name
