use Rattle.std.proofs.Common.{◌≡◌, map, take}
use Rattle.p3_pcs.specs.Claims.{claim}
use Rattle.fri_numbers.specs.Claims.{batch_by, batch_listed}
use Rattle.fri_numbers.proofs.claims.claims_in.Given as goal

abbrev pub invariant-loop-index : goal.invariant-loop-index
invariant-loop-index g l = map (batch_by g.N.Numbered.numbers_of g.N.Numbered.shift_of g.N.Numbered.log_size_of) (map claim l.openings.items)
    ≡ map batch_listed (take l.index l.claims)
