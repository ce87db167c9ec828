use Rattle.std.proofs.Common.{◌≡◌, ◌++◌, map, suc, ℕ, List}
use Rattle.algebra.specs.Nested.{lists}
use Rattle.p3_fri_batch.specs.Words.{batch_word}
use Rattle.p3_fri_batch.specs.Heights.{heights_below}
use Rattle.p3_fri_batch.specs.Rounds.{as_opened}
use Rattle.p3_fri_relation.specs.Setting.{Fields}
use Rattle.p3_fri_batch.proofs.words.batch_words.Given as goal

abbrev pub invariant-loop-log_height : goal.invariant-loop-log_height
invariant-loop-log_height g l =
    let f : Fields g.row.F.Denot g.row.EF.Denot = record {
      base = g.F.Field.ops;
      ext = g.EF.Field.ops;
      lift = g.EF.ExtensionField.lift;
      coefficients = g.EF.ExtensionField.coefficients;
      degree = g.EF.ExtensionField.DIMENSION;
      root = g.F.TwoAdicField.root;
      two_adicity = g.F.TwoAdicField.TWO_ADICITY;
      shift = g.F.Field.GENERATOR;
    } in
    let ms = map as_opened l.matrices.items in
    let w : ℕ → List g.row.EF.Denot = λ h. batch_word f l.ladder.alpha h ms in
    lists l.words.items ++ map w (heights_below ms l.log_height)
    ≡ map w (heights_below ms (suc g.F.TwoAdicField.TWO_ADICITY))
