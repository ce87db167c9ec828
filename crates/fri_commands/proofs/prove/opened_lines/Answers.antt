use Rattle.std.proofs.Common.{arith, ◌+◌, ◌-◌, length, sym, ap}
use Rattle.std.proofs.lemmas.List.{length-map}
use Rattle.algebra.specs.Field.{multiple}
use Rattle.p3_field.specs.BabyBear.{baby_bear}
use Rattle.fri_commands.proofs.CommandLemmas.{exact_log2-some}
use Rattle.fri_commands.proofs.ProveLemmas.{checked_opening-small}
use Rattle.fri_commands.proofs.prove.opened_lines.Goals as goal

pub overflow_add-log_size : goal.overflow_add-log_size
overflow_add-log_size c =
    omega (arith, exact_log2-some (27 - c.args.log_blowup) (length c.args.column.now) c.in-Some.log_size (sym c.in-Some.ensures))

pub open_column-requires-clause-final_height : goal.open_column-requires-clause-final_height
open_column-requires-clause-final_height c =
    let log = exact_log2-some (27 - c.args.log_blowup) (length c.args.column.now) c.in-Some.log_size (sym c.in-Some.ensures) in
    checked_opening-small c.args.log_blowup c.args.log_final (c.in-Some.log_size + c.args.log_blowup) c.from_u64-point.result (sym c.in-Ok.ensures)
    c.requires.blowup (omega (arith, log.1, c.requires.blowup))

pub open_column-requires-clause-size : goal.open_column-requires-clause-size
open_column-requires-clause-size c =
    let log = exact_log2-some (27 - c.args.log_blowup) (length c.args.column.now) c.in-Some.log_size (sym c.in-Some.ensures) in
    omega (arith, log.0, c.in_ok-column.column.ok.0, ap length c.in_ok-column.ensures, length-map c.args.column.now (multiple baby_bear))

pub open_column-requires-clause-height : goal.open_column-requires-clause-height
open_column-requires-clause-height c =
    let log = exact_log2-some (27 - c.args.log_blowup) (length c.args.column.now) c.in-Some.log_size (sym c.in-Some.ensures) in
    omega (arith, log.1, c.requires.blowup)
