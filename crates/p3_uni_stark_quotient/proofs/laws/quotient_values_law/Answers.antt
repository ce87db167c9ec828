use Rattle.p3_uni_stark_quotient.proofs.Honest.{values_are}
use Rattle.p3_uni_stark_quotient.proofs.laws.quotient_values_law.Goals as goal

pub returns : goal.returns
returns g c F L K lift H top w W k d b shift columns given are air alpha i l =
    values_are F L top w W K lift H k d b shift columns given are air alpha i l
