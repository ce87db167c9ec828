use Rattle.p3_fri_hiding_tests.specs.Fits.{Fits}
use Rattle.p3_fri_hiding_tests.proofs.Each.{single}
use Rattle.p3_fri_hiding_tests.proofs.openings.headline.is_column_accepted.Goals as goal

pub commit_and_show-requires-clause-committable : goal.commit_and_show-requires-clause-committable
commit_and_show-requires-clause-committable g c =
    (g.met.P.Tested.commits_law _ _ c.of-scheme.ensures).columns _
    (single (λ e. Fits 2 e.0.log_size e.1) _ c.evaluation-column.ensures)
