use Rattle.p3_air_plain.proofs.Refused.{degrees_refused}
use Rattle.p3_air_plain.proofs.read.air_from_plain.Goals as goal

pub returns-in-Err-check_degrees-clause-refused : goal.returns-in-Err-check_degrees-clause-refused
returns-in-Err-check_degrees-clause-refused g c =
    degrees_refused g.F.PrimeField64.ORDER_U64 g.F.PrimeField64.canonical c.args.form.now
    c.in-Ok.air c.in-Ok.ensures.ok c.in_default.ensures c.in-Err-check_degrees.fault
    c.in-Err-check_degrees.ensures.err
