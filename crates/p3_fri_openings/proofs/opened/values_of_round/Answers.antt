use Rattle.std.proofs.Common.{◌<◌, All, length, map, get_or, sym, ap, ap₂, subst, ◌∙◌, arith}
use Rattle.std.proofs.lemmas.List.{length-map}
use Rattle.algebra.specs.Nested.{lists}
use Rattle.p3_matrix.specs.Matrix.{rows}
use Rattle.p3_pcs.proofs.Zipped.{step, done}
use Rattle.p3_fri_relation.specs.Setting.{Fields}
use Rattle.p3_fri_openings.specs.Committed.{committed_values}
use Rattle.p3_fri_openings.specs.Denominators.{IsCovered, HasPointsCovered}
use Rattle.p3_fri_openings.specs.Refusals.{IsOff, HasPointsOff}
use Rattle.p3_fri_openings.specs.Rounds.{log_height}
use Rattle.p3_fri_openings.proofs.AskedPoints.{asked_at}
use Rattle.algebra.proofs.Lists.{entry_of_map}
use Rattle.p3_fri_openings.proofs.opened.values_of_round.Given.{Over}
use Rattle.p3_fri_openings.proofs.opened.values_of_round.Goals as goal

abbrev fields_of : (g : Over) → Fields g.row.F.Denot g.row.EF.Denot
fields_of g = record {
  base = g.F.Field.ops;
  ext = g.EF.Field.ops;
  lift = g.EF.ExtensionField.lift;
  coefficients = g.EF.ExtensionField.coefficients;
  degree = g.EF.ExtensionField.DIMENSION;
  root = g.F.TwoAdicField.root;
  two_adicity = g.F.TwoAdicField.TWO_ADICITY;
  shift = g.F.Field.GENERATOR;
}

pub values_at_points-requires-clause-height : goal.values_at_points-requires-clause-height
values_at_points-requires-clause-height g c =
    let round = c.args.round.now in
    let matrices = round.matrices.now in
    let i = c.loop-index.index in
    let m = c.index-round-index.result in
    let one : i < length matrices = omega arith in
    c.requires.round.cosets i m one

pub values_at_points-requires-clause-off : goal.values_at_points-requires-clause-off
values_at_points-requires-clause-off g c =
    let f = fields_of g in
    let round = c.args.round.now in
    let matrices = round.matrices.now in
    let i = c.loop-index.index in
    let m = c.index-round-index.result in
    let v = c.index-round-index-in-loop-index.result in
    let same = c.requires.round.lists_of_points in
    let one : i < length matrices = omega arith in
    let slice = c.as_slice-points.ensures.value
    ∙ ap (λ v. v.items) (sym c.index-round-index-in-loop-index.is) in
    let off = asked_at (HasPointsOff f) round i m v same one c.index-round-index.is
    c.index-round-index-in-loop-index.is c.requires.off in
    let is = c.index-round-index.is in
    let here = get_or matrices i m in
    subst (λ zs. All (IsOff f (log_height here)) zs) (sym slice)
    (subst (λ m. All (IsOff f (log_height m)) v.items) is off)

pub values_at_points-requires-clause-coset : goal.values_at_points-requires-clause-coset
values_at_points-requires-clause-coset g c =
    let round = c.args.round.now in
    let matrices = round.matrices.now in
    let i = c.loop-index.index in
    let m = c.index-round-index.result in
    let one : i < length matrices = omega arith in
    c.requires.coset i m one

pub values_at_points-requires-clause-covered : goal.values_at_points-requires-clause-covered
values_at_points-requires-clause-covered g c =
    let round = c.args.round.now in
    let matrices = round.matrices.now in
    let i = c.loop-index.index in
    let m = c.index-round-index.result in
    let v = c.index-round-index-in-loop-index.result in
    let d = c.args.denominators.now in
    let same = c.requires.round.lists_of_points in
    let one : i < length matrices = omega arith in
    let slice = c.as_slice-points.ensures.value
    ∙ ap (λ v. v.items) (sym c.index-round-index-in-loop-index.is) in
    let covered = asked_at (HasPointsCovered d.entries.items) round i m v same one
    c.index-round-index.is c.index-round-index-in-loop-index.is c.requires.covered in
    let is = c.index-round-index.is in
    let here = get_or matrices i m in
    subst (λ zs. All (IsCovered (length (rows here)) d.entries.items) zs) (sym slice)
    (subst (λ m. All (IsCovered (length (rows m)) d.entries.items) v.items) is covered)

pub loop-index-preserved : goal.loop-index-preserved
loop-index-preserved g c =
    let f = fields_of g in
    let round = c.args.round.now in
    let matrices = round.matrices.now in
    let i = c.loop-index.index in
    let m = c.index-round-index.result in
    let v = c.index-round-index-in-loop-index.result in
    let b = c.args.log_blowup in
    let n = length-map round.points.now (λ v. v.items) in
    let same = c.requires.round.lists_of_points in
    let one : i < length matrices = omega arith in
    let two : i < length round.points.now = omega arith in
    let three : i < length (lists round.points.now) = omega arith in
    let slice = c.as_slice-points.ensures.value
    ∙ ap (λ v. v.items) (sym c.index-round-index-in-loop-index.is) in
    step (λ matrix points. map (committed_values f b matrix) points) (λ v. lists v.items) matrices
    (lists round.points.now) i m v.items c.loop-index.values.items c.push.new.self.items
    c.in_ok-values_at_points.field-0 one three c.index-round-index.is
    (entry_of_map (λ v. v.items) round.points.now i v two c.index-round-index-in-loop-index.is)
    c.in_ok-push.ensures.items
    (c.in_ok-values_at_points.ensures
    ∙ ap₂ (λ m zs. map (committed_values f b m) zs) (sym c.index-round-index.is) slice)
    c.loop-index.invariant

pub returns : goal.returns
returns g c =
    let f = fields_of g in
    let round = c.args.round.now in
    let n = length-map round.points.now (λ v. v.items) in
    let same = c.requires.round.lists_of_points in
    done (λ matrix points. map (committed_values f c.args.log_blowup matrix) points)
    round.matrices.now
    (lists round.points.now) c.loop-index.index _ (omega arith) c.loop-index.invariant
