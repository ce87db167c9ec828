use Rattle.algebra.specs.Nested.{lists}
use Rattle.p3_fri_masks.proofs.RandomRows.{AreRowsDrawn}
use Rattle.p3_fri_masks.proofs.draws.random_rows.Given as goal

-- the rows drawn so far are the first random ones
abbrev pub invariant-loop : goal.invariant-loop
invariant-loop g l = AreRowsDrawn g.T.SampleField.from_word (g.R.Rng.stream l.fn.rng) l.width
    l.counter (lists l.rows.items) (g.R.Rng.stream l.rng)
