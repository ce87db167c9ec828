use Rattle.std.proofs.Common.{rules}
use Rattle.p3_fri_masks.proofs.WiderRows.{padded_by_halves}
use Rattle.p3_fri_masks.proofs.padded.pad.Goals as goal

pub returns : goal.returns
returns g c = search (rules, padded_by_halves)
