use Rattle.algebra.specs.Nested.{lists}
use Rattle.p3_periodic.specs.Batches.{ArePlaces}
use Rattle.p3_periodic.proofs.batch.places_of_period.Given as goal

abbrev pub invariant-loop-j : goal.invariant-loop-j
invariant-loop-j g l = ArePlaces (lists l.columns) l.j l.period l.places.items
