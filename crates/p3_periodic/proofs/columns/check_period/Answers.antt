use Rattle.std.proofs.Common.{refl}
use Rattle.p3_periodic.proofs.First.{is_power, not_power}
use Rattle.p3_periodic.proofs.columns.check_period.Goals as goal

pub returns-then-not-is_power_of_two : goal.returns-then-not-is_power_of_two
returns-then-not-is_power_of_two c =
    let refused = not_power c.args.length c.is_power_of_two.result c.is_power_of_two.ensures
    c.if-not-is_power_of_two.true in
    (refused, refl, refl)

pub returns-then-trace_height-length-ne0 : goal.returns-then-trace_height-length-ne0
returns-then-trace_height-length-ne0 c =
    let power = is_power c.args.length c.is_power_of_two.result c.is_power_of_two.ensures
    c.if-not-is_power_of_two.false in
    (power, c.if-trace_height-length-ne0.true, refl, refl, refl)

pub returns : goal.returns
returns c = record {
  power_of_two = is_power c.args.length c.is_power_of_two.result c.is_power_of_two.ensures
      c.if-not-is_power_of_two.false;
  divides = c.if-trace_height-length-ne0.false;
}
