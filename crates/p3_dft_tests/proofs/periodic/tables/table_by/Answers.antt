use Rattle.std.proofs.Math.Pow.{pow_mono}
use Rattle.p3_dft_tests.proofs.periodic.tables.table_by.Goals as goal

pub eval_on_lde-requires : goal.eval_on_lde-requires
eval_on_lde-requires g c = pow_mono c.trace_and_domain.ensures
