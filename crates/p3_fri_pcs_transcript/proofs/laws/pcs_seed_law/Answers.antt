use Rattle.std.proofs.Common.{arith}
use Rattle.p3_fri_pcs_transcript.specs.Shapes.{pcs_shape}
use Rattle.p3_fri_pcs_transcript.proofs.PcsSeed.{pcs_stream_determined}
use Rattle.p3_fri_pcs_transcript.proofs.laws.pcs_seed_law.Goals as goal

pub returns : goal.returns
returns g c = pcs_stream_determined g.EF.ExtensionField.DIMENSION (pcs_shape c.args.a.now) (pcs_shape c.args.b.now) (omega arith) c.pcs_fits.ensures c.pcs_fits-2.ensures
