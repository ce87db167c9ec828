use Rattle.std.proofs.Common.{◌≡◌, map, take}
use Rattle.p3_pcs.specs.Claims.{claim}
use Rattle.fri_verification.specs.Bound.{batch_claimed, commitment_stated}
use Rattle.fri_numbers.specs.Claims.{batch_by}
use Rattle.fri_verification.proofs.statement.claims_stated.Given as goal

abbrev pub invariant-loop-opening : goal.invariant-loop-opening
invariant-loop-opening g l = map (commitment_stated g.N.Numbered.numbers_of g.N.Numbered.shift_of g.N.Numbered.log_size_of) l.all.items
    ≡ map (λ c. batch_claimed (batch_by g.N.Numbered.numbers_of g.N.Numbered.shift_of g.N.Numbered.log_size_of (claim c)))
    (take l.opening-index l.claims)
