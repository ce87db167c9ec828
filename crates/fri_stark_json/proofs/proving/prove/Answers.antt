use Rattle.std.proofs.Common.{inr}
use Rattle.fri_stark_json.proofs.proving.prove.Goals as goal

pub returns-in-Ok-to_string-clause-accepted : goal.returns-in-Ok-to_string-clause-accepted
returns-in-Ok-to_string-clause-accepted g c = (c.in-Ok.form, c.in-Ok.ensures.accepted)

pub returns-in-Err-clause-refused : goal.returns-in-Err-clause-refused
returns-in-Err-clause-refused g c = inr c.in-Err.ensures.refused
