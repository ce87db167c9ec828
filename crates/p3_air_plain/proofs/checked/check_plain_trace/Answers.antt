use Rattle.std.proofs.Common.{ap, ◌∙◌}
use Rattle.p3_air.specs.Shapes.{assigned}
use Rattle.p3_air_plain.specs.Elements.{assigned_numbers}
use Rattle.p3_air_plain.proofs.checked.check_plain_trace.Goals as goal

pub returns-in-Ok-check_trace-clause-satisfied : goal.returns-in-Ok-check_trace-clause-satisfied
returns-in-Ok-check_trace-clause-satisfied g c = record {
  air = c.in-Ok.air;
  is_form = c.in-Ok.ensures.form;
  given = assigned c.borrowed.result;
  are_numbers = ap (assigned_numbers g.F.PrimeField64.canonical) c.borrowed.ensures
      ∙ c.in-Ok-assignment_from_plain.ensures.numbers;
  satisfied = c.in-Ok-check_trace.ensures;
}

pub returns-clause-refused : goal.returns-clause-refused
returns-clause-refused g c = record {
  air = c.in-Ok.air;
  is_form = c.in-Ok.ensures.form;
  well_formed = c.in-Ok.ensures.well_formed;
  given = assigned c.borrowed.result;
  are_numbers = ap (assigned_numbers g.F.PrimeField64.canonical) c.borrowed.ensures
      ∙ c.in-Ok-assignment_from_plain.ensures.numbers;
  stands = c.in-Err-check_trace.ensures;
}
