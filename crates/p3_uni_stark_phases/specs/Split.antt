-- The parts of a commitment that there may be.
use Rattle.std.specs.Prelude.{Option, None, Some}
use Rattle.p3_uni_stark_phases.specs.declared.commits.Committed.{Committed}

module _ {Com D : Type 0} where
  abbrev pub commitment_in : Option (Committed Com D) → Option Com
  commitment_in None = None
  commitment_in (Some b) = Some b.commitment

  abbrev pub data_in : Option (Committed Com D) → Option D
  data_in None = None
  data_in (Some b) = Some b.prover_data
