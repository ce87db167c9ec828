use Rattle.std.proofs.Common.{◌≡◌, ◌≤◌, ◌<◌, ◌+◌, ◌*◌, ◌++◌, length, take, get_or, sym, ap, ◌∙◌}
use Rattle.std.proofs.Common.{length-append, zero-mul, arith}
use Rattle.std.proofs.lemmas.List.{length-map, append-nil, take_all, length-take-le}
use Rattle.algebra.specs.Field.{sub, pow}
use Rattle.algebra.specs.Polynomial.{val}
use Rattle.algebra.specs.Cosets.{coset_pt}
use Rattle.algebra.specs.Nested.{lists}
use Rattle.algebra.proofs.Lists.{each_from_All, get_or-tabulate, map-tabulate, length-tabulate}
use Rattle.algebra.proofs.Lists.{entry_of_map}
use Rattle.p3_matrix.specs.Matrix.{matrix_width}
use Rattle.p3_pcs.proofs.Zipped.{entry_of_zip_with, within_zip_with, length_of_zip_with}
use Rattle.p3_fri_relation.specs.Setting.{Fields}
use Rattle.p3_fri_openings.specs.Log2.{log2}
use Rattle.p3_fri_openings.specs.Committed.{coset_of}
use Rattle.p3_fri_openings.specs.Denominators.{IsCovered}
use Rattle.p3_fri_openings.proofs.First.{at_item}
use Rattle.p3_pcs.specs.Claims.{point_claims}
use Rattle.p3_fri_batch.specs.Words.{claim_at, terms_at}
use Rattle.p3_fri_batch.proofs.Terms.{entry_more, terms_length, claims_wide, claims_taken}
use Rattle.p3_fri_batch.proofs.Terms.{step_more}
use Rattle.p3_fri_batch.proofs.points.add_opened_points.Given.{Over}
use Rattle.p3_fri_batch.proofs.points.add_opened_points.Goals as goal

abbrev fields_of : (g : Over) → Fields g.row.F.Denot g.row.EF.Denot
fields_of g = record {
  base = g.F.Field.ops;
  ext = g.EF.Field.ops;
  lift = g.EF.ExtensionField.lift;
  coefficients = g.EF.ExtensionField.coefficients;
  degree = g.EF.ExtensionField.DIMENSION;
  root = g.F.TwoAdicField.root;
  two_adicity = g.F.TwoAdicField.TWO_ADICITY;
  shift = g.F.Field.GENERATOR;
}

pub loop-point-init : goal.loop-point-init
loop-point-init g c = record {
  sums = λ i d row ts l n co st wo. wo
      ∙ ap (λ us. val g.EF.Field.ops us c.args.ladder.now.alpha) (sym (append-nil ts));
  steps = λ n e. e ∙ ap (λ m. pow g.EF.Field.ops c.args.ladder.now.alpha m)
      (omega (arith, zero-mul (matrix_width c.args.opened.now.matrix.now)));
}

pub combine-claimed-requires : goal.combine-claimed-requires
combine-claimed-requires g c =
    let p = c.loop-point.point in
    let points = c.args.opened.now.points.now in
    let values = c.args.opened.now.values.now in
    let count = length-map values (λ v. v.items) in
    let same = c.requires.counts in
    let one : p < length points = c.loop-point-test.true in
    let two : p < length values = omega (arith, one, same) in
    let three : p < length (lists values) = omega (arith, two, count) in
    let ys = c.index-values-point.result.items in
    let at_values = entry_of_map (λ v. v.items) values p c.index-values-point.result two
    c.index-values-point.is in
    let columns = matrix_width c.args.opened.now.matrix.now in
    let wide : length ys ≡ columns =
    at_item (λ ys. length ys ≡ columns) (lists values) p ys three at_values
    c.requires.widths in
    let s : c.deref.result.now ≡ ys =
    let e = c.deref.ensures.value in let is = c.index-values-point.is in cc in
    omega (arith, ap length s, wide, c.requires.ladder)

pub inverses_at-inverses-requires-clause-covered : goal.inverses_at-inverses-requires-clause-covered
inverses_at-inverses-requires-clause-covered g c =
    at_item (λ z. IsCovered (length c.args.word.now) c.args.table.now z) c.args.opened.now.points.now
    c.loop-point.point c.index-points-point.result c.loop-point-test.true c.index-points-point.is
    c.requires.covered

pub add_quotients-requires-clause-compressed : goal.add_quotients-requires-clause-compressed
add_quotients-requires-clause-compressed g c =
    omega arith

pub add_quotients-requires-clause-inverses : goal.add_quotients-requires-clause-inverses
add_quotients-requires-clause-inverses g c =
    let f = fields_of g in
    let n = length c.args.word.now in
    let z = c.index-points-point.result in
    ap length c.inverses_at-inverses.ensures
    ∙ length-map (coset_of f n) (λ x. f.ext.inv (sub f.ext z (f.lift x)))
    ∙ length-tabulate n (λ i. coset_pt f.base f.root f.shift i (log2 n))
    ∙ sym c.loop-point.auto.word

pub loop-point-preserved : goal.loop-point-preserved
loop-point-preserved g c =
    let f = fields_of g in
    let p = c.loop-point.point in
    let points = c.args.opened.now.points.now in
    let values = c.args.opened.now.values.now in
    let count = length-map values (λ v. v.items) in
    let same = c.requires.counts in
    let one : p < length points = c.loop-point-test.true in
    let two : p < length values = omega (arith, one, same) in
    let three : p < length (lists values) = omega (arith, two, count) in
    let ys = c.index-values-point.result.items in
    let at_values = entry_of_map (λ v. v.items) values p c.index-values-point.result two
    c.index-values-point.is in
    let columns = matrix_width c.args.opened.now.matrix.now in
    let wide : length ys ≡ columns =
    at_item (λ ys. length ys ≡ columns) (lists values) p ys three at_values
    c.requires.widths in
    let s : c.deref.result.now ≡ ys =
    let e = c.deref.ensures.value in let is = c.index-values-point.is in cc in
    let K = g.EF.Field.ops in
    let alpha = c.args.ladder.now.alpha in
    let n = length c.args.word.now in
    let z = c.index-points-point.result in
    let claims = point_claims points (lists values) in
    let within = within_zip_with claim_at points (lists values) p one three in
    let entry = entry_of_zip_with claim_at points (lists values) p z ys one three
    c.index-points-point.is at_values in
    let taken = length-take-le p claims (omega (arith, within)) in
    let all = claims_taken columns p claims (claims_wide columns points (lists values)
    (each_from_All (λ ys. length ys ≡ columns) (lists values) c.requires.widths)) in
    record {
      sums = λ i d row ts l m co st wo.
          let x = f.lift (coset_pt f.base f.root f.shift i (log2 n)) in
          let step : c.loop-point.step ≡ pow K alpha
          (length (ts ++ terms_at K x row (take p claims))) =
          c.loop-point.invariant.steps (length ts) st
          ∙ ap (λ k. pow K alpha k) (sym (length-append ts (terms_at K x row (take p claims))
          ∙ ap (λ k. length ts + k) (terms_length K g.met.EF.Field.laws alpha x row columns
          (take p claims) all m
          ∙ ap (λ k. k * columns) taken))) in
          let inverse : get_or c.inverses_at-inverses.result.now i d ≡ K.inv (sub K z x) =
          ap (λ xs. get_or xs i d) (c.inverses_at-inverses.ensures
          ∙ map-tabulate (λ x. K.inv (sub K z (f.lift x))) n
          (λ i. coset_pt f.base f.root f.shift i (log2 n)))
          ∙ get_or-tabulate n (λ i. K.inv
          (sub K z (f.lift (coset_pt f.base f.root f.shift i (log2 n))))) i d l in
          entry_more K g.met.EF.Field.laws alpha x row claims p z ys ts
          (get_or c.loop-point.word i d)
          (get_or c.add_quotients.new.word i d) c.loop-point.step c.combine-claimed.result
          (get_or c.args.compressed.now i d) (get_or c.inverses_at-inverses.result.now i d)
          within entry (wide ∙ sym m) (c.loop-point.invariant.sums i d row ts l m co st wo) step
          (c.combine-claimed.ensures ∙ ap (λ us. val K us alpha) s) co inverse
          (c.add_quotients.ensures i d (omega (arith, l, c.loop-point.auto.word)));
      steps = λ m e. step_more K g.met.EF.Field.laws.ring alpha c.loop-point.step
          c.step-after.result
          c.mul-step.result m p columns (c.loop-point.invariant.steps m e)
          (c.step-after.ensures ∙ ap (λ k. pow K alpha k) c.width-width.ensures.columns)
          (g.met.EF.Field.mul_law _ _ c.mul-step.result c.mul-step.ensures);
    }

pub returns : goal.returns
returns g c =
    let f = fields_of g in
    let K = g.EF.Field.ops in
    let alpha = c.args.ladder.now.alpha in
    let p = c.loop-point.point in
    let points = c.args.opened.now.points.now in
    let values = c.args.opened.now.values.now in
    let claims = point_claims points (lists values) in
    let last : length points ≤ p = c.loop-point-test.false in
    let short : length claims ≤ p = length_of_zip_with claim_at points (lists values) p
    (omega (arith, last)) in
    let whole : p ≡ length points = omega arith in
    record {
      sums = λ i d row ts l m co st wo. c.loop-point.invariant.sums i d row ts l m co st wo
          ∙ ap (λ cs. val K (ts ++ terms_at K
          (f.lift (coset_pt f.base f.root f.shift i (log2 (length c.args.word.now)))) row cs) alpha)
          (take_all p claims short);
      step = λ m e. c.loop-point.invariant.steps m e
          ∙ ap (λ k. pow K alpha (m + k * matrix_width c.args.opened.now.matrix.now)) whole;
    }

pub mul-step-requires : goal.mul-step-requires
mul-step-requires g c = g.met.EF.Field.can_mul_law _ _
