use Rattle.std.proofs.Common.{◌≡◌, ◌||◌, ℕ, eqb, get_or, take, false}
use Rattle.std.specs.List.{list_any}
use Rattle.p3_fri_verifier.proofs.claimed.mark_sizes.Given as goal

abbrev pub invariant-loop-matrix : goal.invariant-loop-matrix
invariant-loop-matrix g l = (size : ℕ) → get_or l.sizes size false
    ≡ (get_or l.fn.sizes size false || list_any (λ m. eqb m.domain.log_size size) (take l.matrix-index l.matrices))
