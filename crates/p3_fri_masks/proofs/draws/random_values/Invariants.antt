use Rattle.std.proofs.Common.{[]}
use Rattle.p3_matrix.proofs.Words.{AreDrawn}
use Rattle.p3_fri_masks.proofs.draws.random_values.Given as goal

-- the values drawn so far are the first random ones
abbrev pub invariant-loop : goal.invariant-loop
invariant-loop g l = AreDrawn g.T.SampleField.from_word (g.R.Rng.stream l.fn.rng) [] l.counter
    l.values.items (g.R.Rng.stream l.rng)
