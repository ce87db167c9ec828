use Rattle.std.proofs.Common.{rules}
use Rattle.p3_fri_masks.proofs.WiderRows.{masked_by_halves}
use Rattle.p3_fri_masks.proofs.masked.mask.Goals as goal

pub returns-clause-masked : goal.returns-clause-masked
returns-clause-masked g c = search (rules, masked_by_halves)
