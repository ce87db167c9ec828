-- The rows of the matrix are those of its values, which are reversed in place.
use Rattle.std.proofs.Common.{◌≡◌, length, sym, ap, ◌∙◌, ◌/◌}
use Rattle.std.proofs.lemmas.List.{with_items_is}
use Rattle.p3_field_core.specs.Index.{bit_reversed}
use Rattle.p3_matrix.specs.Matrix.{rows}
use Rattle.p3_matrix.specs.Rows.{rows_of}
use Rattle.p3_matrix.proofs.Rows.{length-rows_of}
use Rattle.p3_matrix.proofs.dense.RowMajorMatrix.bit_reverse_rows.Goals as goal

pub reverse_row_index_bits-requires-clause-power_of_two : goal.reverse_row_index_bits-requires-clause-power_of_two
unfolding rows
reverse_row_index_bits-requires-clause-power_of_two g c =
    let m = c.args.self in
    let height : length c.deref_mut.result.now / m.width ≡ length (rows_of m.width m.values.items) = ap (λ xs. length xs / m.width) c.deref_mut.ensures.value ∙ sym (length-rows_of m.width m.values.items) in
    (c.requires.power_of_two.0, height ∙ c.requires.power_of_two.1)

pub returns-clause-rows : goal.returns-clause-rows
unfolding rows
returns-clause-rows g c k size =
    let m = c.args.self in
    let given = c.deref_mut.ensures.value in
    let height : length c.deref_mut.result.now / m.width ≡ length (rows_of m.width m.values.items) = ap (λ xs. length xs / m.width) given ∙ sym (length-rows_of m.width m.values.items) in
    ap (λ xs. rows_of m.width xs) (with_items_is m.values c.reverse_row_index_bits.new.values (c.reverse_row_index_bits.auto.values ∙ c.deref_mut.ensures.len))
    ∙ c.reverse_row_index_bits.ensures k (height ∙ size)
    ∙ ap (λ xs. bit_reversed k (rows_of m.width xs)) given
