use Rattle.std.proofs.Common.{◌≡◌, false, map, take}
use Rattle.fri_numbers.specs.Listed.{domain_by, domain_committed}
use Rattle.fri_commitments.proofs.naming.name_domains.Given as goal

abbrev pub invariant-loop-index : goal.invariant-loop-index
invariant-loop-index g l = map (λ d. domain_by (g.N.Numbered.shift_of d) (g.N.Numbered.log_size_of d)) (take l.index l.domains)
    ≡ map (λ m. domain_committed false m.domain) (take l.index l.matrices)
