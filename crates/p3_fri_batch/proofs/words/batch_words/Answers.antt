use Rattle.std.proofs.Common.{◌≡◌, ◌-◌, ◌++◌, ◌∷◌, [], ℕ, suc, List, cond, map, All, subst, ap, sym}
use Rattle.std.proofs.Common.{◌∙◌, arith}
use Rattle.std.proofs.lemmas.List.{append-nil}
use Rattle.algebra.specs.Nested.{lists}
use Rattle.p3_pcs.specs.Claims.{opened_values}
use Rattle.p3_fri_relation.specs.Setting.{Fields}
use Rattle.p3_fri_batch.specs.Heights.{has_height, heights_below}
use Rattle.p3_fri_batch.specs.Words.{Opened, batch_word}
use Rattle.p3_fri_batch.specs.Rounds.{IsReady, as_opened, opened_of}
use Rattle.p3_fri_batch.proofs.Heights.{words_more}
use Rattle.p3_fri_batch.proofs.words.batch_words.Goals as goal

pub push_word-requires-clause-ready : goal.push_word-requires-clause-ready
push_word-requires-clause-ready g c =
    subst (λ os. All (IsReady g.F.TwoAdicField.TWO_ADICITY c.args.table.now) os)
    (sym c.deref-in-loop-log_height.ensures.value)
    (c.in_ok-matrices.ensures.ready c.args.table.now c.requires.covered)

pub loop-log_height-preserved : goal.loop-log_height-preserved
loop-log_height-preserved g c =
    let f : Fields g.row.F.Denot g.row.EF.Denot = record {
      base = g.F.Field.ops;
      ext = g.EF.Field.ops;
      lift = g.EF.ExtensionField.lift;
      coefficients = g.EF.ExtensionField.coefficients;
      degree = g.EF.ExtensionField.DIMENSION;
      root = g.F.TwoAdicField.root;
      two_adicity = g.F.TwoAdicField.TWO_ADICITY;
      shift = g.F.Field.GENERATOR;
    } in
    let k = c.loop-log_height.log_height in
    let alpha = c.in_ok-ladder.ladder.alpha in
    let ms : List (Opened g.row.F.Denot g.row.EF.Denot) = map as_opened
    c.in_ok-matrices.matrices.items in
    let w : ℕ → List g.row.EF.Denot = λ h. batch_word f alpha h ms in
    words_more ms w k (lists c.loop-log_height.words.items) (lists c.push_word.new.words.items)
    (map w (heights_below ms (suc g.F.TwoAdicField.TWO_ADICITY))) (omega arith)
    (c.in_ok-push_word.ensures
    ∙ ap (λ os. lists c.loop-log_height.words.items ++ map
    (λ h. batch_word f alpha h (map as_opened os))
    (cond (has_height (map as_opened os) (k - 1)) ((k - 1) ∷ []) []))
    c.deref-in-loop-log_height.ensures.value)
    c.loop-log_height.invariant

pub returns : goal.returns
returns g c =
    let f : Fields g.row.F.Denot g.row.EF.Denot = record {
      base = g.F.Field.ops;
      ext = g.EF.Field.ops;
      lift = g.EF.ExtensionField.lift;
      coefficients = g.EF.ExtensionField.coefficients;
      degree = g.EF.ExtensionField.DIMENSION;
      root = g.F.TwoAdicField.root;
      two_adicity = g.F.TwoAdicField.TWO_ADICITY;
      shift = g.F.Field.GENERATOR;
    } in
    let top = suc g.F.TwoAdicField.TWO_ADICITY in
    let alpha = c.in_ok-ladder.ladder.alpha in
    let ms : List (Opened g.row.F.Denot g.row.EF.Denot) = map as_opened
    c.in_ok-matrices.matrices.items in
    let words = lists c.loop-log_height.words.items in
    let last : c.loop-log_height.log_height ≡ 0 = omega arith in
    sym (append-nil words)
    ∙ ap (λ n. words ++ map (λ h. batch_word f alpha h ms) (heights_below ms n)) (sym last)
    ∙ c.loop-log_height.invariant
    ∙ ap (λ ms. map (λ h. batch_word f alpha h ms) (heights_below ms top))
    c.in_ok-matrices.ensures.opened
    ∙ ap (λ a. map (λ h. batch_word f a h
    (opened_of c.args.rounds.now (opened_values c.args.values.now)))
    (heights_below (opened_of c.args.rounds.now (opened_values c.args.values.now)) top))
    c.in_ok-ladder.ensures.alpha
