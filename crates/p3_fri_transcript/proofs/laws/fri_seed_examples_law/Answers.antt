use Rattle.p3_fri_transcript.proofs.SeedExamples.{stream_is, schedules_differ}
use Rattle.p3_fri_transcript.proofs.laws.fri_seed_examples_law.Goals as goal

pub returns : goal.returns
returns c = record { stream = stream_is; schedules = schedules_differ }
