use Rattle.std.proofs.Common.{map}
use Rattle.algebra.proofs.Lists.{distinct_from_AllPairs, each_from_All}
use Rattle.fri_soundness.specs.Curves.{IsClose}
use Rattle.fri_soundness.proofs.OneRound.{decodings_are_correlated, few_are_bad}
use Rattle.fri_soundness.proofs.curves_law.Goals as goal

pub returns-clause-correlated : goal.returns-clause-correlated
returns-clause-correlated g c F L rows k l e R gs d h many =
    decodings_are_correlated F L rows k l e R gs (distinct_from_AllPairs (map (λ g. g.beta) gs) d)
    (each_from_All (λ g. IsClose F rows k e g.beta g.polynomial) gs h) many

pub returns-clause-few : goal.returns-clause-few
returns-clause-few g c F L rows k l e R = few_are_bad F L rows k l e R
