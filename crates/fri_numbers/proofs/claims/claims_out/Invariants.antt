use Rattle.std.proofs.Common.{◌≡◌, map, take}
use Rattle.p3_pcs.specs.Claims.{claim}
use Rattle.fri_numbers.specs.Claims.{batch_by, batch_listed}
use Rattle.fri_numbers.proofs.claims.claims_out.Given as goal

abbrev pub invariant-loop-opening : goal.invariant-loop-opening
invariant-loop-opening g l = map batch_listed l.batches.items
    ≡ map (batch_by g.N.Numbered.numbers_of g.N.Numbered.shift_of g.N.Numbered.log_size_of)
    (map claim (take l.opening-index l.claims.items))
