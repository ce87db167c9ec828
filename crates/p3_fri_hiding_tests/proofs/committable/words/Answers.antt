use Rattle.std.proofs.Common.{refl}
use Rattle.p3_fri_two_adic.specs.Ldes.{HasLdeHeight}
use Rattle.p3_fri_hiding_tests.proofs.Each.{pushed}
use Rattle.p3_fri_hiding_tests.proofs.Fitting.{word}
use Rattle.p3_fri_hiding_tests.proofs.committable.words.Goals as goal

pub loop-entries-preserved : goal.loop-entries-preserved
loop-entries-preserved g c =
    pushed (HasLdeHeight 27 2) c.loop-entries.words.items c.push.new.list.items
    c.evaluation-word.result.1 c.push.ensures c.loop-entries.invariant
    (word 2 refl _ _ c.evaluation-word.ensures)
