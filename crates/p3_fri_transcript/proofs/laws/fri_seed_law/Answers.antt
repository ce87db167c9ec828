use Rattle.std.proofs.Common.{arith}
use Rattle.p3_fri_transcript.specs.Shapes.{fri_shape}
use Rattle.p3_fri_transcript.proofs.FriSeed.{fri_stream_determined, fri_stream_same}
use Rattle.p3_fri_transcript.proofs.laws.fri_seed_law.Goals as goal

pub returns : goal.returns
returns g c = (
  fri_stream_determined g.EF.ExtensionField.DIMENSION (fri_shape c.args.a.now)
      (fri_shape c.args.b.now) (omega arith) c.fri_fits.ensures c.fri_fits-2.ensures,
  fri_stream_same g.EF.ExtensionField.DIMENSION (fri_shape c.args.a.now) (fri_shape c.args.b.now),
)
