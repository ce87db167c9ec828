use Rattle.p3_mmcs.proofs.Paths.{climb-path_of}
use Rattle.p3_mmcs.proofs.laws.path_law.Goals as goal

pub returns : goal.returns
returns c leaves m index below = climb-path_of leaves m index below
