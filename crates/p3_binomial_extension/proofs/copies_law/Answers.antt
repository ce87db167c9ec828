use Rattle.p3_binomial_extension.proofs.CopyLaws.{carried_field}
use Rattle.p3_binomial_extension.proofs.copies_law.Goals as goal

pub returns : goal.returns
returns g c S K L = carried_field S K L
