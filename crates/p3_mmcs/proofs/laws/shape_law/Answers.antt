use Rattle.p3_mmcs.proofs.Shapes.{sets_count, set_at, rows_count}
use Rattle.p3_mmcs.proofs.laws.shape_law.Goals as goal

pub returns : goal.returns
returns g c = record {
  sets = sets_count;
  each = λ dims indices sets k h l. set_at dims indices sets h k l;
  rows = rows_count;
}
