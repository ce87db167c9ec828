use Rattle.std.proofs.Common.{◌≡◌, ◌*◌, length, sym, ap, ap₂, ◌∙◌, arith, get_or}
use Rattle.algebra.specs.Polynomial.{tabulate}
use Rattle.algebra.proofs.Lists.{length-tabulate}
use Rattle.p3_air.specs.declared.air.Rows.TheVariants as rows
use Rattle.p3_air.specs.declared.air.Constraint.{Constraint}
use Rattle.p3_uni_stark_quotient.specs.Lanes.{selected_in_lane}
use Rattle.p3_uni_stark_quotient.proofs.ByLanes.{lanes_length, lane_sum, written_over}
use Rattle.std.proofs.lemmas.Result.{IfOk-from_err}
use Rattle.p3_uni_stark_quotient.proofs.lanes.sum_by_lanes.Goals as goal

pub add_weighted_rows-requires : goal.add_weighted_rows-requires
add_weighted_rows-requires g c =
    let K = g.EF.Field.ops in
    let width = g.P.PackedField.WIDTH in
    let zeros : c.as_mut_slice.result.now ≡ tabulate width (λ _. K.zero) =
    c.as_mut_slice.ensures.value ∙ c.in_ok-reset.ensures
    ∙ ap (λ n. tabulate n (λ _. K.zero)) c.WIDTH.ensures in
    record {
      rows = ap length (c.as_slice-entries.ensures.value ∙ c.in_ok-select_all_by_lanes.ensures)
          ∙ lanes_length (selected_in_lane g.F.Field.ops g.P.PackedField.lane
          c.args.selectors.now c.args.values.now) width c.args.constraints.now
          ∙ ap₂ (λ m n. m * n) (sym c.requires.powers)
          (sym (ap length zeros ∙ length-tabulate width (λ _. K.zero)));
    }

pub returns-clause-len : goal.returns-clause-len
returns-clause-len g c =
    let K = g.EF.Field.ops in
    let width = g.P.PackedField.WIDTH in
    let zeros : length c.as_mut_slice.result.now ≡ width =
    ap length (c.as_mut_slice.ensures.value ∙ c.in_ok-reset.ensures)
    ∙ length-tabulate c.WIDTH.result (λ _. K.zero) ∙ c.WIDTH.ensures in
    let kept = c.add_weighted_rows.auto.sums in
    let held = c.reset.new.sums.ok.0 in
    let value = c.as_mut_slice.ensures.value in
    let same : length c.add_weighted_rows.new.sums ≡ c.reset.new.sums.len =
    omega (arith, kept, held, ap length value) in
    ap length (written_over c.add_weighted_rows.new.sums _ c.reset.new.sums.len same)
    ∙ (omega (arith, kept, zeros))

pub returns-clause-sums : goal.returns-clause-sums
returns-clause-sums g c l lane =
    let F = g.F.Field.ops in
    let K = g.EF.Field.ops in
    let width = g.P.PackedField.WIDTH in
    let d : Constraint = record { rows = rows.All; node = 0 } in
    let zeros : c.as_mut_slice.result.now ≡ tabulate width (λ _. K.zero) =
    c.as_mut_slice.ensures.value ∙ c.in_ok-reset.ensures
    ∙ ap (λ n. tabulate n (λ _. K.zero)) c.WIDTH.ensures in
    let kept = c.add_weighted_rows.auto.sums in
    let held = c.reset.new.sums.ok.0 in
    let value = c.as_mut_slice.ensures.value in
    let same : length c.add_weighted_rows.new.sums ≡ c.reset.new.sums.len =
    omega (arith, kept, held, ap length value) in
    ap (λ xs. get_or xs l K.zero)
    (written_over c.add_weighted_rows.new.sums _ c.reset.new.sums.len same)
    ∙ lane_sum F K g.met.EF.Field.laws g.EF.ExtensionField.lift
    (selected_in_lane F g.P.PackedField.lane c.args.selectors.now c.args.values.now) width
    c.args.constraints.now d c.args.powers.now c.as_mut_slice.result.now
    c.as_slice-entries.result.now l (get_or c.add_weighted_rows.new.sums l K.zero) lane
    c.requires.powers zeros
    (c.as_slice-entries.ensures.value ∙ c.in_ok-select_all_by_lanes.ensures)
    (c.add_weighted_rows.ensures l K.zero
    (omega (arith, lane, ap length zeros, length-tabulate width (λ _. K.zero))))

-- where nothing is answered nothing is said of the answer
pub returns-in_err-reset-clause-len : goal.returns-in_err-reset-clause-len
returns-in_err-reset-clause-len g c =
    IfOk-from_err c.from_residual-in_err-reset.result _ c.from_residual-in_err-reset.ensures.0
