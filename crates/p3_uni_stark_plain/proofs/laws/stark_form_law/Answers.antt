use Rattle.std.proofs.Common.{sym, ◌∙◌}
use Rattle.p3_uni_stark_plain.proofs.Apart.{stark_told_apart}
use Rattle.p3_uni_stark_plain.proofs.laws.stark_form_law.Goals as goal

pub returns-clause-one_proof : goal.returns-clause-one_proof
returns-clause-one_proof g c = stark_told_apart g.Opening.Plain.numbers g.met.Opening.Plain.told_apart

pub returns-clause-one_form : goal.returns-clause-one_form
returns-clause-one_form g c = λ seen a b first second. sym first ∙ second
