use Rattle.std.proofs.Common.{◌≡◌, ℕ, List, [], ◌+◌, ◌*◌, ◌/◌, ◌%◌, ◌<◌, ◌≤◌, ◌++◌, length, slice_index_or}
use Rattle.std.proofs.Common.{ap, sym, subst, ◌∙◌, arith}
use Rattle.algebra.specs.Polynomial.{tabulate}
use Rattle.p3_matrix.specs.Matrix.{rows, matrix_width}
use Rattle.p3_matrix.specs.Rows.{rows_of}
use Rattle.p3_matrix.proofs.Widths.{row_width}
use Rattle.p3_uni_stark_quotient.proofs.Chunking.{row_next, rows_are, rows_whole}
use Rattle.p3_domain.proofs.Rows.{block_within, place_below}
use Rattle.p3_domain.proofs.strided.every_row.Goals as goal

pub place_of-place-requires-clause-within : goal.place_of-place-requires-clause-within
place_of-place-requires-clause-within g c =
    let height = c.height-height.ensures in
    let test = c.loop-index-test.true in
    block_within c.loop-index.index c.args.step c.height-height.result test
    (ap (λ h. h / c.args.step * c.args.step) height ∙ c.requires.divides ∙ sym height)

pub loop-index-preserved : goal.loop-index-preserved
loop-index-preserved g c =
    let all = rows c.args.matrix.now in
    let row = λ (j : ℕ). slice_index_or all (c.args.start + j * c.args.step) [] in
    row_next row c.loop-index.index c.loop-index.values.items c.extend_from_slice.new.self.items
    c.loop-index.invariant
    (c.in_ok-extend_from_slice.ensures.items
    ∙ ap (λ r. c.loop-index.values.items ++ r)
    (c.row-row.ensures.row ∙ ap (λ i. slice_index_or all i []) c.place_of-place.ensures.place))

pub new-requires : goal.new-requires
new-requires g c =
    let matrix = c.args.matrix.now in
    let step = c.args.step in
    let height = c.height-height.ensures in
    let end = c.loop-index.auto.index-end in
    let columns = c.width-width.ensures.columns in
    record {
      has_columns = c.width-width.ensures.some;
      whole_rows = ap (λ n. n % c.width-width.result) c.loop-index.values.ok.0
          ∙ subst (λ w. length c.loop-index.values.items % w ≡ 0) (sym columns)
          (rows_whole (λ j. slice_index_or (rows matrix) (c.args.start + j * step) [])
          (matrix_width matrix) c.loop-index.index
          (λ j l. row_width matrix (c.args.start + j * step)
          (place_below c.args.start step j (length (rows matrix)) c.requires.start
          (subst (λ h. j < h / step) height (omega (arith, l, end))) c.requires.divides))
          (subst (λ w. 0 < w) columns c.width-width.ensures.some)
          c.loop-index.values.items c.loop-index.invariant);
    }

pub returns : goal.returns
returns g c =
    let matrix = c.args.matrix.now in
    let step = c.args.step in
    let height = c.height-height.ensures in
    let end = c.loop-index.auto.index-end in
    let test = c.loop-index-test.false in
    let columns = c.width-width.ensures.columns in
    let count : c.loop-index.index ≡ c.height-height.result / step = omega (arith, test, end) in
    record {
      rows = c.new.ensures.rows
          ∙ ap (λ w. rows_of w c.loop-index.values.items) columns
          ∙ rows_are (λ j. slice_index_or (rows matrix) (c.args.start + j * step) [])
          (matrix_width matrix) c.loop-index.index
          (λ j l. row_width matrix (c.args.start + j * step)
          (place_below c.args.start step j (length (rows matrix)) c.requires.start
          (subst (λ h. j < h / step) height (omega (arith, l, end))) c.requires.divides))
          (subst (λ w. 0 < w) columns c.width-width.ensures.some)
          c.loop-index.values.items c.loop-index.invariant
          ∙ ap (λ n. tabulate n (λ j. slice_index_or (rows matrix) (c.args.start + j * step) []))
          (count ∙ ap (λ h. h / step) height);
      width = c.new.ensures.width ∙ columns;
    }
