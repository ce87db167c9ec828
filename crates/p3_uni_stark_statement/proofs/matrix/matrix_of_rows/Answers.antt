use Rattle.std.proofs.Common.{◌≡◌, ◌%◌, length, arith, ap, ◌∙◌}
use Rattle.std.proofs.lemmas.List.{take_all}
use Rattle.std.specs.Vec.{vec_len}
use Rattle.algebra.specs.Nested.{lists, joined}
use Rattle.p3_matrix.specs.Rows.{rows_of}
use Rattle.p3_uni_stark_statement.proofs.Widths.{whole_rows, rows_joined}
use Rattle.p3_uni_stark_statement.proofs.matrix.matrix_of_rows.Goals as goal

pub new-requires-clause-whole_rows : goal.new-requires-clause-whole_rows
new-requires-clause-whole_rows g c =
    let rows = c.args.rows.now in
    let all : c.loop-row.values.items ≡ joined (lists rows) =
    c.loop-row.invariant ∙ ap (λ rs. joined (lists rs))
    (take_all c.loop-row.row-index rows c.loop-row-test.false) in
    let size : vec_len c.loop-row.values ≡ length (joined (lists rows)) =
    omega (arith, c.loop-row.values.ok.0, ap length all) in
    ap (λ n. n % c.args.width) size
    ∙ whole_rows c.args.width (lists rows) c.requires.some c.requires.widths

pub returns-clause-rows : goal.returns-clause-rows
returns-clause-rows g c =
    let rows = c.args.rows.now in
    let all : c.loop-row.values.items ≡ joined (lists rows) =
    c.loop-row.invariant ∙ ap (λ rs. joined (lists rs))
    (take_all c.loop-row.row-index rows c.loop-row-test.false) in
    c.new.ensures.rows ∙ ap (rows_of c.args.width) all
    ∙ rows_joined c.args.width (lists rows) c.requires.some c.requires.widths
