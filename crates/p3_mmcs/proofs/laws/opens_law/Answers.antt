use Rattle.p3_mmcs.specs.Tree.{OpensAt}
use Rattle.p3_mmcs.proofs.Queries.{each_at}
use Rattle.p3_mmcs.proofs.laws.opens_law.Goals as goal

pub returns : goal.returns
returns g c commitment dims indices sets paths k opens below =
    each_at (OpensAt g.T.ElementBytes.bytes commitment dims) indices sets paths opens k below
