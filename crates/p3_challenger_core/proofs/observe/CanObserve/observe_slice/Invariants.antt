use Rattle.std.proofs.Common.{◌≡◌, drop}
use Rattle.p3_challenger_core.specs.Run.{observed_all}
use Rattle.p3_challenger_core.proofs.observe.CanObserve.observe_slice.Given as goal

abbrev pub invariant-loop-value : goal.invariant-loop-value
invariant-loop-value g l =
    observed_all g.Self.CanObserve.observed l.self (drop l.value-index l.values)
    ≡ observed_all g.Self.CanObserve.observed l.fn.self l.values
