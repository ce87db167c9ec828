use Rattle.std.proofs.Common.{◌≡◌, ◌++◌, ◌∷◌, [], All, length, sym, ap, subst, ◌∙◌}
use Rattle.std.specs.Int.{IsPowerOfTwo}
use Rattle.std.proofs.lemmas.List.{map-append}
use Rattle.algebra.specs.Nested.{lists}
use Rattle.p3_matrix.specs.Matrix.{rows}
use Rattle.p3_fri_relation.specs.Setting.{Fields}
use Rattle.p3_fri_openings.specs.Committed.{coset_of, inverse_differences, committed_values}
use Rattle.p3_fri_openings.specs.Denominators.{AreInverses, IsCovered}
use Rattle.p3_fri_openings.specs.Refusals.{IsOff}
use Rattle.p3_fri_openings.specs.Rounds.{log_height}
use Rattle.p3_fri_openings.specs.Sums.{StartsWith}
use Rattle.p3_fri_openings.proofs.First.{at_item}
use Rattle.algebra.proofs.Growing.{mapped_next, mapped_end}
use Rattle.p3_fri_openings.proofs.Pushed.{starts_itself}
use Rattle.p3_fri_openings.proofs.opened.values_at_points.Given.{Over}
use Rattle.p3_fri_openings.proofs.opened.values_at_points.Goals as goal

abbrev fields_of : (g : Over) → Fields g.row.F.Denot g.row.EF.Denot
fields_of g = record {
  base = g.F.Field.ops;
  ext = g.EF.Field.ops;
  lift = g.EF.ExtensionField.lift;
  coefficients = g.EF.ExtensionField.coefficients;
  degree = g.EF.ExtensionField.DIMENSION;
  root = g.F.TwoAdicField.root;
  two_adicity = g.F.TwoAdicField.TWO_ADICITY;
  shift = g.F.Field.GENERATOR;
}

pub inverses_at-inverses-requires-clause-power_of_two : goal.inverses_at-inverses-requires-clause-power_of_two
inverses_at-inverses-requires-clause-power_of_two g c =
    subst IsPowerOfTwo (sym c.height.ensures) c.requires.height.power

pub inverses_at-inverses-requires-clause-inverses : goal.inverses_at-inverses-requires-clause-inverses
inverses_at-inverses-requires-clause-inverses g c =
    let f = fields_of g in
    subst (λ es. All (AreInverses f) es)
    (sym c.deref.ensures.value) c.requires.inverses

pub inverses_at-inverses-requires-clause-covered : goal.inverses_at-inverses-requires-clause-covered
inverses_at-inverses-requires-clause-covered g c =
    let matrix = c.args.matrix.now in
    let n = length (rows matrix) in
    let table = c.args.denominators.now.entries.items in
    let covered = at_item
    (IsCovered n table) c.args.points.now c.loop-point.point-index c.point-item.result
    c.loop-point-test.true c.point-item.is c.requires.covered in
    subst (λ es. IsCovered c.height.result es c.point-item.result)
    (sym c.deref.ensures.value)
    (subst (λ m. IsCovered m table c.point-item.result) (sym c.height.ensures) covered)

pub values_at_point-requires-clause-off : goal.values_at_point-requires-clause-off
values_at_point-requires-clause-off g c =
    let f = fields_of g in
    let matrix = c.args.matrix.now in
    let z = c.point-item.result in
    at_item (IsOff f (log_height matrix)) c.args.points.now c.loop-point.point-index z
    c.loop-point-test.true c.point-item.is c.requires.off

pub values_at_point-requires-clause-coset : goal.values_at_point-requires-clause-coset
values_at_point-requires-clause-coset g c =
    let f = fields_of g in
    let matrix = c.args.matrix.now in
    let n = length (rows matrix) in
    subst (λ xs. StartsWith xs (coset_of f n))
    (sym c.deref-in-loop-point.ensures.value) c.requires.coset

pub values_at_point-requires-clause-inverses : goal.values_at_point-requires-clause-inverses
values_at_point-requires-clause-inverses g c =
    let f = fields_of g in
    let matrix = c.args.matrix.now in
    let n = length (rows matrix) in
    let z = c.point-item.result in
    let same : c.inverses_at-inverses.result.now ≡ inverse_differences f z n =
    c.inverses_at-inverses.ensures ∙ ap (λ m. inverse_differences f z m) c.height.ensures in
    subst (λ xs. StartsWith xs (inverse_differences f z n)) (sym same)
    (starts_itself (inverse_differences f z n))

pub loop-point-preserved : goal.loop-point-preserved
loop-point-preserved g c =
    let f = fields_of g in
    let old = c.loop-point.values.items in
    let new = c.in_ok-values_at_point.field-0 in
    mapped_next (committed_values f c.args.log_blowup c.args.matrix.now) c.args.points.now
    c.loop-point.point-index c.point-item.result [] (lists old) (lists c.push.new.self.items)
    c.loop-point-test.true c.point-item.is c.loop-point.invariant
    (ap lists c.in_ok-push.ensures.items ∙ map-append (λ v. v.items) old (new ∷ [])
    ∙ ap (λ v. lists old ++ v ∷ []) c.in_ok-values_at_point.ensures)

pub returns : goal.returns
returns g c =
    let f = fields_of g in
    mapped_end (committed_values f c.args.log_blowup c.args.matrix.now) c.args.points.now
    c.loop-point.point-index [] (lists c.loop-point.values.items) c.loop-point-test.false
    c.loop-point.invariant
