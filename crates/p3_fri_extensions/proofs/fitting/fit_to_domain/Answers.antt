use Rattle.std.proofs.Common.{◌^◌, ◌∙◌}
use Rattle.p3_dft.proofs.Columns.{Holds}
use Rattle.p3_dft.proofs.Batches.{whole_columns, held_by_values, held_by_new}
use Rattle.p3_fri_extensions.proofs.Fitted.{fitted_from_values}
use Rattle.p3_fri_extensions.proofs.fitting.fit_to_domain.Goals as goal

pub new-requires-clause-whole_rows : goal.new-requires-clause-whole_rows
new-requires-clause-whole_rows g c =
    whole_columns c.in_ok-fitted.fitted.len (2 ^ c.args.domain.log_size) c.width-width.result
    c.in_ok-fitted.ensures.len

pub returns : goal.returns
returns g c =
    let m = c.args.domain.log_size in
    let given = c.args.coefficients in
    let width = c.width-width in
    let w = width.result in
    let log = c.log2_strict_usize-log_height in
    let n = 2 ^ log.result in
    let values = c.into_values in
    let xs = values.result.items in
    let fitted = c.in_ok-fitted.fitted in
    let held : Holds given w n xs =
    held_by_values given w n values.result.len xs width.ensures.some values.result.ok.0
    width.ensures.columns (log.ensures.power ∙ c.height.ensures) values.ensures.rows
    values.ensures.len in
    let made : Holds c.new.result w (2 ^ m) fitted.items =
    held_by_new c.new.result w (2 ^ m) fitted.len fitted.items width.ensures.some fitted.ok.0
    c.new.ensures.rows c.new.ensures.width c.in_ok-fitted.ensures.len in
    fitted_from_values g.F.Field.ops c.args.domain.shift m w n xs fitted.items given c.new.result
    held made c.in_ok-fitted.ensures.values
