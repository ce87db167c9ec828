use Rattle.std.proofs.Common.{◌≡◌, ◌≢◌, ◌++◌, ◌<◌, ◌∙◌, ℕ, length, map, get_or, subst, ap, arith}
use Rattle.std.proofs.Common.{All}
use Rattle.std.proofs.lemmas.List.{length-map, get_or_read}
use Rattle.algebra.specs.Field.{sub}
use Rattle.algebra.proofs.Growing.{joined_pushed, joined_end}
use Rattle.algebra.proofs.Lists.{entry_of_map}
use Rattle.p3_fri_relation.specs.Setting.{MatrixClaim}
use Rattle.p3_fri_relation.specs.Heights.{log_height}
use Rattle.p3_fri_relation.specs.Faults.{At}
use Rattle.p3_pcs.specs.Claims.{point_claim}
use Rattle.p3_fri_relation.specs.Views.{matrix_claim}
use Rattle.p3_fri_inputs.specs.Claims.{IsApart}
use Rattle.p3_fri_inputs.proofs.Places.{at_mapped, holds_next, holds_of_all, all_mapped_at}
use Rattle.p3_fri_inputs.proofs.Places.{of_some, of_none}
use Rattle.p3_fri_inputs.proofs.points.push_commitment.Given.{Over}
use Rattle.p3_fri_inputs.proofs.points.push_commitment.Goals.{After-index-matrix}
use Rattle.p3_fri_inputs.proofs.points.push_commitment.Goals as goal

-- a point is read for the matrix
is_read : (g : Over) (c : After-index-matrix g)
    → log_height c.args.log_blowup
    (matrix_claim (λ domain. domain.log_size) c.index-matrix.result.now) < length c.args.read.now
is_read g c =
    all_mapped_at (matrix_claim (λ domain. domain.log_size))
    (λ m. log_height c.args.log_blowup m < length c.args.read.now)
    c.args.claim.now.matrices.items c.requires.heights c.loop-k.k c.index-matrix.result.now
    (omega (arith, c.args.claim.now.matrices.ok.0)) c.index-matrix.ensures

pub overflow_add-x : goal.overflow_add-x
overflow_add-x g c =
    let below = is_read g (goal.at.overflow_add-x g c).After-index-matrix in
    omega (arith, below)

pub offset_bounds-read-matrix : goal.offset_bounds-read-matrix
offset_bounds-read-matrix g c =
    let below = is_read g (goal.at.offset_bounds-read-matrix g c).After-index-matrix in
    omega (arith, below)

pub bounds-read-matrix : goal.bounds-read-matrix
bounds-read-matrix g c = is_read g (goal.at.bounds-read-matrix g c).After-index-matrix

pub returns-in-Some : goal.returns-in-Some
returns-in-Some g c =
    let read = λ (h : ℕ). g.EF.ExtensionField.lift (get_or c.args.read.now h g.F.Field.ops.zero) in
    let b = c.args.log_blowup in
    let matrix = c.index-matrix.result.now in
    let m = matrix_claim (λ domain. domain.log_size) matrix in
    let x = ap g.EF.ExtensionField.lift (get_or_read c.args.read.now (log_height b m)
    c.index-read-matrix.result (is_read g (goal.at.returns-in-Some g c).After-index-matrix)
    c.index-read-matrix.is g.F.Field.ops.zero) in
    let j = c.in-Some.point in
    at_mapped (matrix_claim (λ domain. domain.log_size))
    (λ m. At j (λ z. z.point ≡ read (log_height b m)) m.points) c.args.claim.now.matrices.items
    c.loop-k.k matrix (omega (arith, c.args.claim.now.matrices.ok.0)) c.index-matrix.ensures
    (subst (λ y. At j (λ z. z.point ≡ y) m.points) x
    (subst (λ xs. At j (λ z. z.point ≡ g.EF.ExtensionField.lift c.index-read-matrix.result)
    (map point_claim xs)) c.deref.ensures.value
    (of_some c.in_ok-point.field-0 j _ _ c.in-Some.is c.in_ok-point.ensures)))

pub loop-k-preserved : goal.loop-k-preserved
loop-k-preserved g c =
    let K = g.EF.Field.ops in
    let read = λ (h : ℕ). g.EF.ExtensionField.lift (get_or c.args.read.now h g.F.Field.ops.zero) in
    let b = c.args.log_blowup in
    let items = c.args.claim.now.matrices.items in
    let k = c.loop-k.k in
    let below : k < length items = omega (arith, c.args.claim.now.matrices.ok.0) in
    let matrix = c.index-matrix.result.now in
    let m = matrix_claim (λ domain. domain.log_size) matrix in
    let y = g.EF.ExtensionField.lift c.index-read-matrix.result in
    let x = ap g.EF.ExtensionField.lift (get_or_read c.args.read.now (log_height b m)
    c.index-read-matrix.result (is_read g (goal.at.loop-k-preserved g c).After-index-matrix)
    c.index-read-matrix.is g.F.Field.ops.zero) in
    let points = c.deref.ensures.value in
    let known = of_none c.in_ok-point.field-0 _ _ c.in_default.is c.in_ok-point.ensures in
    let old = c.loop-k.differences.items in
    record {
      apart = holds_next (matrix_claim (λ domain. domain.log_size)) (IsApart b read) items k matrix
          below c.index-matrix.ensures c.loop-k.invariant.apart
          (subst (λ y. All (λ z. z.point ≢ y) m.points) x
          (subst (λ xs. All (λ z. z.point ≢ y) (map point_claim xs)) points known.0));
      pushed = joined_pushed (λ (m : MatrixClaim g.row.EF.Denot).
          map (λ z. sub K z.point (read (log_height b m))) m.points)
          (map (matrix_claim (λ domain. domain.log_size)) items) k m
          c.args.differences.now.items old c.push_distances.new.differences.items
          (omega (arith, below, length-map items (matrix_claim (λ domain. domain.log_size))))
          (entry_of_map (matrix_claim (λ domain. domain.log_size)) items k matrix below
          c.index-matrix.ensures)
          c.loop-k.invariant.pushed
          (known.1
          ∙ ap (λ xs. old ++ map (λ z. sub K z.point y) (map point_claim xs)) points
          ∙ ap (λ y. old ++ map (λ z. sub K z.point y) m.points) x);
    }

pub returns : goal.returns
returns g c =
    let read = λ (h : ℕ). g.EF.ExtensionField.lift (get_or c.args.read.now h g.F.Field.ops.zero) in
    let b = c.args.log_blowup in
    let items = c.args.claim.now.matrices.items in
    let whole = c.args.claim.now.matrices.ok.0 in (
      holds_of_all (matrix_claim (λ domain. domain.log_size)) (IsApart b read) items c.loop-k.k
          (omega (arith, whole)) c.loop-k.invariant.apart,
      joined_end (λ (m : MatrixClaim g.row.EF.Denot).
          map (λ z. sub g.EF.Field.ops z.point (read (log_height b m))) m.points)
          (map (matrix_claim (λ domain. domain.log_size)) items) c.loop-k.k
          c.args.differences.now.items c.loop-k.differences.items
          (omega (arith, whole, length-map items (matrix_claim (λ domain. domain.log_size))))
          c.loop-k.invariant.pushed,
    )
