use Rattle.std.proofs.Common.{length}
use Rattle.p3_fri_inputs.proofs.Reading.{IsReadFrom}
use Rattle.p3_fri_inputs.proofs.points.read_points.Given as goal

abbrev pub invariant-loop-h : goal.invariant-loop-h
invariant-loop-h g l =
    IsReadFrom g.F.Field.ops g.F.TwoAdicField.root g.F.Field.GENERATOR l.log_global_max_height
    l.position (length l.fn.read) l.h l.read l.point
