use Rattle.std.proofs.Common.{◌≡◌, ℕ, ◌<◌, map, get_or}
use Rattle.p3_fri_masks.proofs.disjoint.have_one_size.Given as goal

-- the cosets before the index have the size of the first
abbrev pub invariant-loop-domain : goal.invariant-loop-domain
invariant-loop-domain g l = (i : ℕ) → i < l.domain-index
    → get_or (map (λ d. d.log_size) l.domains) i 0 ≡ get_or (map (λ d. d.log_size) l.domains) 0 0
