use Rattle.p3_fri_pcs_transcript.proofs.SeedExamples.{matrices_differ, commitments_differ}
use Rattle.p3_fri_pcs_transcript.proofs.laws.pcs_seed_examples_law.Goals as goal

pub returns : goal.returns
returns c = record { matrices = matrices_differ; commitments = commitments_differ }
