use Rattle.p3_challenger_fs.proofs.Streams.{description_determined, short_fits}
use Rattle.p3_challenger_fs.proofs.laws.seed_stream_law.Goals as goal

pub returns : goal.returns
returns c = record { determined = description_determined; short = short_fits }
