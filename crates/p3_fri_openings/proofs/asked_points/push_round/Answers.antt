use Rattle.std.proofs.Common.{◌≡◌, ◌<◌, ◌++◌, length, map, arith, sym, ap, ap₂, ◌∙◌}
use Rattle.std.proofs.lemmas.List.{length-map}
use Rattle.algebra.specs.Nested.{lists}
use Rattle.p3_matrix.specs.Matrix.{rows}
use Rattle.p3_pcs.proofs.Zipped.{entry_of_zip_with, within_zip_with, length_of_zip_with}
use Rattle.p3_fri_openings.specs.Rounds.{ask, asked_in}
use Rattle.p3_fri_openings.specs.Points.{asked_point, points_of}
use Rattle.algebra.proofs.Growing.{joined_pushed, joined_end}
use Rattle.algebra.proofs.Lists.{entry_of_map}
use Rattle.p3_fri_openings.proofs.asked_points.push_round.Goals as goal

pub loop-matrix-preserved : goal.loop-matrix-preserved
loop-matrix-preserved g c =
    let round = c.args.round.now in
    let i = c.loop-matrix.matrix in
    let matrix = c.index-round-matrix.result in
    let points = c.index-round-matrix-in-loop-matrix.result in
    let n = length-map round.points.now (λ v. v.items) in
    let same = c.requires.round.lists_of_points in
    let one : i < length round.matrices.now = omega arith in
    let two : i < length round.points.now = omega arith in
    let three : i < length (lists round.points.now) = omega arith in
    let added : c.push_points.new.asked.items
    ≡ c.loop-matrix.asked.items ++ points_of (ask matrix points.items) =
    c.in_ok-push_points.ensures
    ∙ ap₂ (λ h zs. c.loop-matrix.asked.items ++ map (asked_point h) zs)
    (c.height-height.ensures ∙ ap (λ m. length (rows m)) (sym c.index-round-matrix.is))
    (c.deref.ensures.value ∙ ap (λ v. v.items) (sym c.index-round-matrix-in-loop-matrix.is)) in
    joined_pushed points_of (asked_in round) i (ask matrix points.items) c.args.asked.now.items
    c.loop-matrix.asked.items c.push_points.new.asked.items
    (within_zip_with ask round.matrices.now (lists round.points.now) i one three)
    (entry_of_zip_with ask round.matrices.now (lists round.points.now) i matrix points.items one three
    c.index-round-matrix.is
    (entry_of_map (λ v. v.items) round.points.now i points two
    c.index-round-matrix-in-loop-matrix.is))
    c.loop-matrix.invariant added

pub returns : goal.returns
returns g c =
    let round = c.args.round.now in
    let n = length-map round.points.now (λ v. v.items) in
    let same = c.requires.round.lists_of_points in
    joined_end points_of (asked_in round) c.loop-matrix.matrix c.args.asked.now.items
    c.loop-matrix.asked.items
    (length_of_zip_with ask round.matrices.now (lists round.points.now) c.loop-matrix.matrix
    (omega arith))
    c.loop-matrix.invariant
