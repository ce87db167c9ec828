use Rattle.p3_uni_stark_quotient.proofs.Honest.{cosets_off}
use Rattle.p3_uni_stark_quotient.proofs.laws.coset_off_law.Goals as goal

pub returns : goal.returns
returns g c F L top w W shift other k m b h = cosets_off F L top w W shift other k m b h
