use Rattle.std.proofs.Common.{All}
use Rattle.p3_fri_two_adic.specs.Ldes.{HasLdeHeight}
use Rattle.p3_fri_hiding_tests.proofs.committable.words.Given as goal

abbrev pub invariant-loop-entries : goal.invariant-loop-entries
invariant-loop-entries g l = All (HasLdeHeight 27 2) l.words.items
