use Rattle.std.proofs.Common.{◌≡◌}
use Rattle.fri_opening.specs.Lent.{lent_to, taken_from}
use Rattle.fri_opening.proofs.Swaps.{lent_since, taken_since}
use Rattle.fri_opening.proofs.lending.swap_data.Given as goal

abbrev pub invariant-loop-index : goal.invariant-loop-index
invariant-loop-index g l =
    (taken_since l.index l.requests l.all ≡ taken_from l.fn.requests l.fn.all)
    × (lent_since l.index l.requests l.all ≡ lent_to l.fn.requests l.fn.all)
