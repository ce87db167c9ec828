use Rattle.p3_fri_hiding_tests.specs.FitLaws.{one_masked, one_plain}
use Rattle.p3_fri_hiding_tests.proofs.asked.ask.Goals as goal

pub commit_and_open-hiding-requires-clause-committable :
    goal.commit_and_open-hiding-requires-clause-committable
commit_and_open-hiding-requires-clause-committable g c = λ e fits.
    one_masked (λ d. d.log_size) _ c.of.ensures.blowup e fits

pub commit_and_open-plain-requires-clause-committable :
    goal.commit_and_open-plain-requires-clause-committable
commit_and_open-plain-requires-clause-committable g c = λ e fits.
    one_plain (λ d. d.log_size) _ c.plain_scheme_of.ensures.log_blowup e fits
