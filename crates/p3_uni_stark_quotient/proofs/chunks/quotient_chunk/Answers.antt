use Rattle.std.proofs.Common.{◌≡◌, ◌+◌, ◌*◌, ◌%◌, ◌^◌, ◌<◌, ◌++◌, length, slice_index_or}
use Rattle.std.proofs.Common.{sym, ap, subst, ◌∙◌, arith}
use Rattle.std.proofs.lemmas.List.{get_or_default}
use Rattle.algebra.specs.Polynomial.{tabulate}
use Rattle.p3_matrix.specs.Rows.{rows_of}
use Rattle.p3_uni_stark_quotient.proofs.Entries.{shifted_one}
use Rattle.p3_uni_stark_quotient.proofs.Chunking.{dimension_some, row_next, rows_are, rows_whole}
use Rattle.std.proofs.lemmas.Result.{IfOk-from_err}
use Rattle.p3_uni_stark_quotient.proofs.chunks.quotient_chunk.Goals as goal

pub loop-row-preserved : goal.loop-row-preserved
loop-row-preserved g c =
    let extension = g.EF.ExtensionField in
    let K = g.EF.Field.ops in
    let values = c.args.values.now in
    let place = c.place_of-place in
    row_next
    (λ j. extension.coefficients (slice_index_or values
    (c.args.chunk + j * 2 ^ c.args.log_num_chunks) K.zero))
    c.loop-row.row c.loop-row.coefficients.items c.push_coefficients.new.coefficients.items
    c.loop-row.invariant
    (c.in_ok-push_coefficients.ensures
    ∙ ap (λ v. c.loop-row.coefficients.items ++ extension.coefficients v)
    (c.index-values-place.is
    ∙ get_or_default values place.result c.index-values-place.result K.zero
    (omega (arith, place.ensures.within, c.requires.count))
    ∙ ap (λ i. slice_index_or values i K.zero) place.ensures.place))

pub new-requires : goal.new-requires
new-requires g c =
    let extension = g.EF.ExtensionField in
    let K = g.EF.Field.ops in
    let values = c.args.values.now in
    let some : 0 < extension.DIMENSION = dimension_some g.F.Field.ops g.met.F.Field.laws
    extension.lift extension.coefficients extension.DIMENSION
    g.met.EF.ExtensionField.coefficient_of_lift g.met.EF.ExtensionField.dimension_law in
    let e = sym c.DIMENSION-2.ensures in
    record {
      has_columns = subst (λ n. 0 < n) e some;
      whole_rows = ap (λ n. n % c.DIMENSION-2.result) c.loop-row.coefficients.ok.0
          ∙ subst (λ n. length c.loop-row.coefficients.items % n ≡ 0) e
          (rows_whole
          (λ j. extension.coefficients (slice_index_or values
          (c.args.chunk + j * 2 ^ c.args.log_num_chunks) K.zero))
          extension.DIMENSION c.loop-row.row
          (λ j _. g.met.EF.ExtensionField.dimension_law (slice_index_or values
          (c.args.chunk + j * 2 ^ c.args.log_num_chunks) K.zero))
          some c.loop-row.coefficients.items c.loop-row.invariant);
    }

pub returns : goal.returns
returns g c =
    let extension = g.EF.ExtensionField in
    let K = g.EF.Field.ops in
    let values = c.args.values.now in
    let some : 0 < extension.DIMENSION = dimension_some g.F.Field.ops g.met.F.Field.laws
    extension.lift extension.coefficients extension.DIMENSION
    g.met.EF.ExtensionField.coefficient_of_lift g.met.EF.ExtensionField.dimension_law in
    let sizes = c.requires.sizes in
    let height = shifted_one c.args.log_size 63 (omega (arith, sizes)) (omega arith) in
    let test = c.loop-row-test.false in
    let auto = c.loop-row.auto in
    let end : c.loop-row.row ≡ 2 ^ c.args.log_size = omega (arith, test, auto, height) in
    record {
      rows = c.new.ensures.rows
          ∙ ap (λ w. rows_of w c.loop-row.coefficients.items) c.DIMENSION-2.ensures
          ∙ rows_are
          (λ j. extension.coefficients (slice_index_or values
          (c.args.chunk + j * 2 ^ c.args.log_num_chunks) K.zero))
          extension.DIMENSION c.loop-row.row
          (λ j _. g.met.EF.ExtensionField.dimension_law (slice_index_or values
          (c.args.chunk + j * 2 ^ c.args.log_num_chunks) K.zero))
          some c.loop-row.coefficients.items c.loop-row.invariant
          ∙ ap (λ n. tabulate n (λ j. extension.coefficients (slice_index_or values
          (c.args.chunk + j * 2 ^ c.args.log_num_chunks) K.zero))) end;
      width = c.new.ensures.width ∙ c.DIMENSION-2.ensures;
    }

-- where nothing is answered nothing is said of the answer
pub returns-in_err-coefficients-clause-rows : goal.returns-in_err-coefficients-clause-rows
returns-in_err-coefficients-clause-rows g c =
    IfOk-from_err c.from_residual.result _ c.from_residual.ensures.0

pub returns-in_err-coefficients-clause-width : goal.returns-in_err-coefficients-clause-width
returns-in_err-coefficients-clause-width g c =
    IfOk-from_err c.from_residual.result _ c.from_residual.ensures.0

pub returns-in_err-push_coefficients-clause-rows : goal.returns-in_err-push_coefficients-clause-rows
returns-in_err-push_coefficients-clause-rows g c =
    IfOk-from_err c.from_residual-in_err-push_coefficients.result _ c.from_residual-in_err-push_coefficients.ensures.0

pub returns-in_err-push_coefficients-clause-width : goal.returns-in_err-push_coefficients-clause-width
returns-in_err-push_coefficients-clause-width g c =
    IfOk-from_err c.from_residual-in_err-push_coefficients.result _ c.from_residual-in_err-push_coefficients.ensures.0
