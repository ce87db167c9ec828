use Rattle.p3_fri_openings.proofs.First.{first_at, one_more, to_the_end, at_item}
use Rattle.std.proofs.Common.{◌<◌, length, arith, All, refl, sym, ap, subst, ◌∙◌}
use Rattle.std.proofs.lemmas.List.{length-map}
use Rattle.algebra.specs.Nested.{lists}
use Rattle.p3_matrix.specs.Matrix.{rows}
use Rattle.p3_pcs.proofs.Zipped.{entry_of_zip_with, within_zip_with, length_of_zip_with}
use Rattle.p3_fri_relation.specs.Setting.{Fields}
use Rattle.p3_fri_openings.specs.First.{FirstAt}
use Rattle.p3_fri_openings.specs.Refusals.{IsOn, IsOff, HasPointsOff, IsFirstPoint}
use Rattle.p3_fri_openings.specs.Rounds.{ask, asked_in, HasCoset}
use Rattle.p3_fri_openings.proofs.Log2.{log2_is}
use Rattle.algebra.proofs.Lists.{entry_of_map}
use Rattle.p3_fri_openings.proofs.checks.check_round_points.Goals as goal

pub first_in_evaluation_domain-requires : goal.first_in_evaluation_domain-requires
first_in_evaluation_domain-requires g c =
    let is = log2_is _ _ (c.log2_strict_usize-log_height.ensures.power ∙ c.height.ensures
    ∙ ap (λ m. length (rows m)) (sym c.index-round-matrix.is)) in
    let coset = at_item (HasCoset g.F.TwoAdicField.TWO_ADICITY) c.args.round.now.matrices.now _
    c.index-round-matrix.result c.loop-matrix-test.true c.index-round-matrix.is c.requires.round.cosets in
    let within = coset.within in
    record { within_two_adicity = rw is within }

pub returns-in-Some : goal.returns-in-Some
returns-in-Some g c =
    let f : Fields g.row.F.Denot g.row.EF.Denot = record {
      base = g.F.Field.ops;
      ext = g.EF.Field.ops;
      lift = g.EF.ExtensionField.lift;
      coefficients = g.EF.ExtensionField.coefficients;
      degree = g.EF.ExtensionField.DIMENSION;
      root = g.F.TwoAdicField.root;
      two_adicity = g.F.TwoAdicField.TWO_ADICITY;
      shift = g.F.Field.GENERATOR;
    } in
    let n = length-map c.args.round.now.points.now (λ v. v.items) in
    let same = c.requires.round.lists_of_points in
    let one : c.loop-matrix.matrix < length c.args.round.now.matrices.now = omega arith in
    let two : c.loop-matrix.matrix < length c.args.round.now.points.now = omega arith in
    let three : c.loop-matrix.matrix < length (lists c.args.round.now.points.now) = omega arith in
    let within = within_zip_with ask c.args.round.now.matrices.now (lists c.args.round.now.points.now) c.loop-matrix.matrix one three in
    let entry = entry_of_zip_with ask c.args.round.now.matrices.now (lists c.args.round.now.points.now)
    c.loop-matrix.matrix c.index-round-matrix.result c.index-round-matrix-in-loop-matrix.result.items
    one three c.index-round-matrix.is
    (entry_of_map (λ v. v.items) c.args.round.now.points.now c.loop-matrix.matrix
    c.index-round-matrix-in-loop-matrix.result two c.index-round-matrix-in-loop-matrix.is) in
    let is = log2_is _ _ (c.log2_strict_usize-log_height.ensures.power ∙ c.height.ensures
    ∙ ap (λ m. length (rows m)) (sym c.index-round-matrix.is)) in
    let slice = c.as_slice-points.ensures.value
    ∙ ap (λ v. v.items) (sym c.index-round-matrix-in-loop-matrix.is) in
    let here = subst (λ zs. FirstAt (IsOff f c.log2_strict_usize-log_height.result)
    (IsOn f c.log2_strict_usize-log_height.result) zs c.in-Some.point) slice c.in-Some.ensures in (
      refl,
      first_at (HasPointsOff f) (IsFirstPoint f c.in-Some.point) (asked_in c.args.round.now) c.loop-matrix.matrix
          (ask c.index-round-matrix.result c.index-round-matrix-in-loop-matrix.result.items)
          within entry c.loop-matrix.invariant
          (subst (λ h. FirstAt (IsOff f h) (IsOn f h) c.index-round-matrix-in-loop-matrix.result.items c.in-Some.point) is here),
    )

pub loop-matrix-preserved : goal.loop-matrix-preserved
loop-matrix-preserved g c =
    let f : Fields g.row.F.Denot g.row.EF.Denot = record {
      base = g.F.Field.ops;
      ext = g.EF.Field.ops;
      lift = g.EF.ExtensionField.lift;
      coefficients = g.EF.ExtensionField.coefficients;
      degree = g.EF.ExtensionField.DIMENSION;
      root = g.F.TwoAdicField.root;
      two_adicity = g.F.TwoAdicField.TWO_ADICITY;
      shift = g.F.Field.GENERATOR;
    } in
    let n = length-map c.args.round.now.points.now (λ v. v.items) in
    let same = c.requires.round.lists_of_points in
    let one : c.loop-matrix.matrix < length c.args.round.now.matrices.now = omega arith in
    let two : c.loop-matrix.matrix < length c.args.round.now.points.now = omega arith in
    let three : c.loop-matrix.matrix < length (lists c.args.round.now.points.now) = omega arith in
    let within = within_zip_with ask c.args.round.now.matrices.now (lists c.args.round.now.points.now) c.loop-matrix.matrix one three in
    let entry = entry_of_zip_with ask c.args.round.now.matrices.now (lists c.args.round.now.points.now)
    c.loop-matrix.matrix c.index-round-matrix.result c.index-round-matrix-in-loop-matrix.result.items
    one three c.index-round-matrix.is
    (entry_of_map (λ v. v.items) c.args.round.now.points.now c.loop-matrix.matrix
    c.index-round-matrix-in-loop-matrix.result two c.index-round-matrix-in-loop-matrix.is) in
    let is = log2_is _ _ (c.log2_strict_usize-log_height.ensures.power ∙ c.height.ensures
    ∙ ap (λ m. length (rows m)) (sym c.index-round-matrix.is)) in
    let slice = c.as_slice-points.ensures.value
    ∙ ap (λ v. v.items) (sym c.index-round-matrix-in-loop-matrix.is) in
    let here = subst (λ zs. All (IsOff f c.log2_strict_usize-log_height.result) zs) slice c.in_default.ensures in
    one_more (HasPointsOff f) (asked_in c.args.round.now) c.loop-matrix.matrix
    (ask c.index-round-matrix.result c.index-round-matrix-in-loop-matrix.result.items)
    within entry c.loop-matrix.invariant
    (subst (λ h. All (IsOff f h) c.index-round-matrix-in-loop-matrix.result.items) is here)

pub returns : goal.returns
returns g c =
    let f : Fields g.row.F.Denot g.row.EF.Denot = record {
      base = g.F.Field.ops;
      ext = g.EF.Field.ops;
      lift = g.EF.ExtensionField.lift;
      coefficients = g.EF.ExtensionField.coefficients;
      degree = g.EF.ExtensionField.DIMENSION;
      root = g.F.TwoAdicField.root;
      two_adicity = g.F.TwoAdicField.TWO_ADICITY;
      shift = g.F.Field.GENERATOR;
    } in
    let n = length-map c.args.round.now.points.now (λ v. v.items) in
    let same = c.requires.round.lists_of_points in
    to_the_end (HasPointsOff f) (asked_in c.args.round.now) _ (length_of_zip_with ask c.args.round.now.matrices.now (lists c.args.round.now.points.now) _ (omega arith)) c.loop-matrix.invariant
