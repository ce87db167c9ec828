use Rattle.std.proofs.Common.{◌≡◌, ◌^◌, ◌+◌, ◌*◌, length, IsOk, refl, sym, subst, ap, ◌∙◌, arith}
use Rattle.std.proofs.lemmas.Bool.{eqb-true, eq-eqb, false≢true}
use Rattle.std.proofs.lemmas.Result.{IfOk-at_ok}
use Rattle.std.proofs.lemmas.List.{length-map}
use Rattle.std.specs.Prelude.{All}
use Rattle.algebra.specs.Field.{pow}
use Rattle.algebra.specs.Nested.{lists}
use Rattle.algebra.proofs.Lists.{each_from_All}
use Rattle.p3_matrix.specs.Matrix.{rows, matrix_width}
use Rattle.p3_fri_relation.specs.Setting.{Fields}
use Rattle.p3_fri_openings.specs.Denominators.{IsCovered}
use Rattle.p3_fri_openings.specs.Rounds.{log_height}
use Rattle.p3_fri_batch.specs.Rounds.{as_opened}
use Rattle.p3_fri_batch.proofs.Bridge.{height_is}
use Rattle.p3_fri_batch.proofs.Collected.{for_ok}
use Rattle.p3_fri_batch.proofs.Summed.{summed_other, summed_more}
use Rattle.p3_fri_batch.proofs.Terms.{claims_wide, claims_count}
use Rattle.p3_fri_batch.proofs.words.add_of_log_height.Goals as goal

pub returns-then-not-is_of_log_height : goal.returns-then-not-is_of_log_height
returns-then-not-is_of_log_height g c ms so_far =
    let f : Fields g.row.F.Denot g.row.EF.Denot = record {
      base = g.F.Field.ops;
      ext = g.EF.Field.ops;
      lift = g.EF.ExtensionField.lift;
      coefficients = g.EF.ExtensionField.coefficients;
      degree = g.EF.ExtensionField.DIMENSION;
      root = g.F.TwoAdicField.root;
      two_adicity = g.F.TwoAdicField.TWO_ADICITY;
      shift = g.F.Field.GENERATOR;
    } in
    let m = c.args.opened.now.matrix.now in
    let h = c.args.log_height in
    summed_other f g.met.EF.Field.laws c.args.ladder.now.alpha h ms (as_opened c.args.opened.now)
    c.args.word.now c.args.step
    (λ same. false≢true (sym c.if-not-is_of_log_height.true ∙ c.is_of_log_height.ensures
    ∙ eq-eqb (log_height m) h same)) so_far

pub add_matrix-requires-clause-height : goal.add_matrix-requires-clause-height
add_matrix-requires-clause-height g c =
    let m = c.args.opened.now.matrix.now in
    let same : log_height m ≡ c.args.log_height =
    eqb-true (log_height m) c.args.log_height
    (sym c.is_of_log_height.ensures ∙ c.if-not-is_of_log_height.false) in
    c.requires.word ∙ ap (λ n. 2 ^ n) (sym same)
    ∙ sym (height_is g.F.TwoAdicField.TWO_ADICITY m c.requires.ready.coset)

pub add_matrix-requires-clause-covered : goal.add_matrix-requires-clause-covered
add_matrix-requires-clause-covered g c =
    let m = c.args.opened.now.matrix.now in
    let same : log_height m ≡ c.args.log_height =
    eqb-true (log_height m) c.args.log_height
    (sym c.is_of_log_height.ensures ∙ c.if-not-is_of_log_height.false) in
    let size : length (rows m) ≡ length c.args.word.now =
    height_is g.F.TwoAdicField.TWO_ADICITY m c.requires.ready.coset ∙ ap (λ n. 2 ^ n) same
    ∙ sym c.requires.word in
    subst (λ n. All (IsCovered n c.args.table.now) c.args.opened.now.points.now) size
    c.requires.ready.covered

pub returns : goal.returns
returns g c =
    let f : Fields g.row.F.Denot g.row.EF.Denot = record {
      base = g.F.Field.ops;
      ext = g.EF.Field.ops;
      lift = g.EF.ExtensionField.lift;
      coefficients = g.EF.ExtensionField.coefficients;
      degree = g.EF.ExtensionField.DIMENSION;
      root = g.F.TwoAdicField.root;
      two_adicity = g.F.TwoAdicField.TWO_ADICITY;
      shift = g.F.Field.GENERATOR;
    } in
    let K = g.EF.Field.ops in
    let alpha = c.args.ladder.now.alpha in
    let o = c.args.opened.now in
    let m = o.matrix.now in
    let h = c.args.log_height in
    let same : log_height m ≡ h =
    eqb-true (log_height m) h (sym c.is_of_log_height.ensures ∙ c.if-not-is_of_log_height.false) in
    let size : length (rows m) ≡ 2 ^ h =
    height_is g.F.TwoAdicField.TWO_ADICITY m c.requires.ready.coset ∙ ap (λ n. 2 ^ n) same in
    let wide = claims_wide (matrix_width m) o.points.now (lists o.values.now)
    (each_from_All (λ ys. length ys ≡ matrix_width m) (lists o.values.now)
    c.requires.ready.values.widths) in
    for_ok c.add_matrix.result _
    (λ after is ms so_far.
    summed_more f g.met.EF.Field.laws alpha h (as_opened o) same size wide ms c.args.word.now
    c.add_matrix.new.word
    c.args.step after c.requires.word (omega arith)
    (c.add_matrix.ensures.sums (subst (λ r. IsOk r) (sym is) refl))
    (λ n e. IfOk-at_ok (λ after. after ≡ pow K alpha (n + length o.points.now * matrix_width m)) is
    (c.add_matrix.ensures.step n e)
    ∙ ap (λ k. pow K alpha (n + k * matrix_width m))
    (sym (claims_count o.points.now (lists o.values.now) c.requires.ready.values.counts)))
    so_far)

pub add_matrix-requires-clause-counts : goal.add_matrix-requires-clause-counts
add_matrix-requires-clause-counts g c =
    sym (length-map c.args.opened.now.values.now (λ v. v.items)) ∙ c.requires.ready.values.counts
