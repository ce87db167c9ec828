use Rattle.std.proofs.Common.{◌≡◌, false, map, take}
use Rattle.fri_numbers.specs.Listed.{domain_by, domain_committed}
use Rattle.fri_commitments.proofs.naming.name_known.Given as goal

abbrev pub invariant-loop-index : goal.invariant-loop-index
invariant-loop-index g l = map (λ k. map (λ d. domain_by (g.N.Numbered.shift_of d) (g.N.Numbered.log_size_of d)) k.domains.items) (take l.index l.known)
    ≡ map (λ b. map (λ m. domain_committed false m.domain) b.matrices.items) (take l.index l.asked)
