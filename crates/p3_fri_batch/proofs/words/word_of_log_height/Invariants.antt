use Rattle.std.proofs.Common.{map, take}
use Rattle.p3_fri_batch.specs.Words.{IsSummed}
use Rattle.p3_fri_batch.specs.Rounds.{as_opened}
use Rattle.p3_fri_relation.specs.Setting.{Fields}
use Rattle.p3_fri_batch.proofs.words.word_of_log_height.Given as goal

abbrev pub invariant-loop-opened : goal.invariant-loop-opened
invariant-loop-opened g l =
    let f : Fields g.row.F.Denot g.row.EF.Denot = record {
      base = g.F.Field.ops;
      ext = g.EF.Field.ops;
      lift = g.EF.ExtensionField.lift;
      coefficients = g.EF.ExtensionField.coefficients;
      degree = g.EF.ExtensionField.DIMENSION;
      root = g.F.TwoAdicField.root;
      two_adicity = g.F.TwoAdicField.TWO_ADICITY;
      shift = g.F.Field.GENERATOR;
    } in
    IsSummed f l.ladder.alpha l.log_height (map as_opened (take l.opened-index l.matrices))
    l.word.items l.step
