use Rattle.p3_uni_stark_plain.specs.Proofs.{InOpenedValues}
use Rattle.p3_uni_stark_plain.proofs.proof.stark_from_plain.Goals as goal

pub returns-in-Err-opened_of-clause-err : goal.returns-in-Err-opened_of-clause-err
returns-in-Err-opened_of-clause-err g c other =
    InOpenedValues (c.in-Err-opened_of.ensures.err other)
