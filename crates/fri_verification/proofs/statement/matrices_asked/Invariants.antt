use Rattle.std.proofs.Common.{◌≡◌, map, take}
use Rattle.fri_verification.specs.Bound.{matrix_asked, matrix_stated}
use Rattle.fri_verification.proofs.statement.matrices_asked.Given as goal

abbrev pub invariant-loop-index : goal.invariant-loop-index
invariant-loop-index g l = map (matrix_stated g.N.Numbered.numbers_of g.N.Numbered.shift_of g.N.Numbered.log_size_of) l.all.items ≡ map (matrix_asked l.hides) (take l.index l.matrix-items)
