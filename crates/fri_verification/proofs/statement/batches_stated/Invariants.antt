use Rattle.std.proofs.Common.{◌≡◌, ◌++◌, map, drop}
use Rattle.p3_pcs.specs.Claims.{zip_with}
use Rattle.fri_verification.specs.Bound.{batch_asked, commitment_stated}
use Rattle.fri_verification.proofs.statement.batches_stated.Given as goal

abbrev pub invariant-loop-index : goal.invariant-loop-index
invariant-loop-index g l = map (commitment_stated g.N.Numbered.numbers_of g.N.Numbered.shift_of g.N.Numbered.log_size_of) l.stated.items
    ++ zip_with (batch_asked l.hides) (drop l.index (map (λ k. k.commitment) l.known)) (drop l.index l.batches)
    ≡ zip_with (batch_asked l.hides) (map (λ k. k.commitment) l.known) l.batches
