use Rattle.std.proofs.Common.{◌≤◌, length, map, take, ap, ◌∙◌, arith}
use Rattle.std.specs.Prelude.{vec_len}
use Rattle.std.proofs.lemmas.List.{take_all}
use Rattle.std.proofs.lemmas.Nat.{one_shl}
use Rattle.algebra.specs.Polynomial.{tabulate}
use Rattle.p3_matrix.specs.Matrix.{matrix_width}
use Rattle.p3_fri_relation.specs.Setting.{Fields}
use Rattle.p3_fri_openings.proofs.First.{at_item}
use Rattle.p3_fri_batch.specs.Rounds.{IsReady, as_opened}
use Rattle.p3_fri_batch.specs.Words.{batch_word}
use Rattle.p3_fri_batch.proofs.Summed.{summed_none, summed_length}
use Rattle.p3_fri_batch.proofs.words.word_of_log_height.Goals as goal

pub loop-opened-init : goal.loop-opened-init
loop-opened-init g c =
    let f : Fields g.row.F.Denot g.row.EF.Denot = record {
      base = g.F.Field.ops;
      ext = g.EF.Field.ops;
      lift = g.EF.ExtensionField.lift;
      coefficients = g.EF.ExtensionField.coefficients;
      degree = g.EF.ExtensionField.DIMENSION;
      root = g.F.TwoAdicField.root;
      two_adicity = g.F.TwoAdicField.TWO_ADICITY;
      shift = g.F.Field.GENERATOR;
    } in
    let h = c.args.log_height in
    let whole = one_shl h 64 (omega
    (arith, c.requires.within_two_adicity, g.met.F.TwoAdicField.two_adicity_law)) in
    summed_none f g.met.EF.Field.laws c.args.ladder.now.alpha h c.in_ok-word.word.items
    c.ONE-step.result
    (c.in_ok-word.ensures ∙ ap (λ n. tabulate n (λ _. g.EF.Field.ops.zero)) whole)
    (c.ONE-step.ensures ∙ g.met.EF.Field.one_law)

pub add_of_log_height-requires-clause-word : goal.add_of_log_height-requires-clause-word
add_of_log_height-requires-clause-word g c =
    let f : Fields g.row.F.Denot g.row.EF.Denot = record {
      base = g.F.Field.ops;
      ext = g.EF.Field.ops;
      lift = g.EF.ExtensionField.lift;
      coefficients = g.EF.ExtensionField.coefficients;
      degree = g.EF.ExtensionField.DIMENSION;
      root = g.F.TwoAdicField.root;
      two_adicity = g.F.TwoAdicField.TWO_ADICITY;
      shift = g.F.Field.GENERATOR;
    } in
    ap length c.deref_mut.ensures.value
    ∙ summed_length f g.met.EF.Field.laws c.args.ladder.now.alpha c.args.log_height
    (map as_opened (take c.loop-opened.opened-index c.args.matrices.now)) c.loop-opened.word.items
    c.loop-opened.step
    c.loop-opened.invariant

pub add_of_log_height-requires-clause-ready : goal.add_of_log_height-requires-clause-ready
add_of_log_height-requires-clause-ready g c =
    at_item (IsReady g.F.TwoAdicField.TWO_ADICITY c.args.table.now) c.args.matrices.now c.loop-opened.opened-index c.opened-item.result
    c.loop-opened-test.true c.opened-item.is c.requires.ready

pub add_of_log_height-requires-clause-ladder : goal.add_of_log_height-requires-clause-ladder
add_of_log_height-requires-clause-ladder g c =
    at_item (λ m. matrix_width m.matrix.now ≤ vec_len c.args.ladder.now.powers) c.args.matrices.now c.loop-opened.opened-index c.opened-item.result
    c.loop-opened-test.true c.opened-item.is c.requires.ladder

pub returns : goal.returns
returns g c =
    let f : Fields g.row.F.Denot g.row.EF.Denot = record {
      base = g.F.Field.ops;
      ext = g.EF.Field.ops;
      lift = g.EF.ExtensionField.lift;
      coefficients = g.EF.ExtensionField.coefficients;
      degree = g.EF.ExtensionField.DIMENSION;
      root = g.F.TwoAdicField.root;
      two_adicity = g.F.TwoAdicField.TWO_ADICITY;
      shift = g.F.Field.GENERATOR;
    } in
    c.loop-opened.invariant.word_is
    ∙ ap (λ ms. batch_word f c.args.ladder.now.alpha c.args.log_height (map as_opened ms))
    (take_all c.loop-opened.opened-index c.args.matrices.now c.loop-opened-test.false)
