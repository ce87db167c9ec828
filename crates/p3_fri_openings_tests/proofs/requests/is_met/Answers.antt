use Rattle.std.proofs.Common.{[]}
use Rattle.p3_mmcs.specs.Batch.{dimensions}
use Rattle.p3_mmcs.proofs.Heights.{heights_more, heights_none}
use Rattle.p3_fri_openings_tests.proofs.requests.is_met.Goals as goal

pub commit_matrix-requires : goal.commit_matrix-requires
commit_matrix-requires g c = record {
  height = heights_more (dimensions c.extended-matrix.result) [] c.extended-matrix.ensures
      heights_none;
}
