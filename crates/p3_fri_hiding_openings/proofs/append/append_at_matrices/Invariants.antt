use Rattle.std.proofs.Common.{map, take}
use Rattle.std.specs.List.{AllZip}
use Rattle.algebra.specs.Nested.{lists, nested}
use Rattle.p3_fri_relation.specs.Views.{matrix_claim}
use Rattle.p3_fri_hiding_openings.specs.RandomValues.{with_points, FitsMatrix}
use Rattle.p3_fri_hiding_openings.proofs.Written.{IsWrittenTo}
use Rattle.p3_fri_hiding_openings.proofs.append.append_at_matrices.Given as goal

-- the matrices before `i` fit their random values, and have them
abbrev pub invariant-loop-i : goal.invariant-loop-i
invariant-loop-i g l = record {
  written : IsWrittenTo (matrix_claim (λ d. d.log_size)) (λ vector. lists vector.items) with_points
      l.i l.fn.claims l.claims l.random;
  fits : AllZip (FitsMatrix l.num_queries g.EF.ExtensionField.DIMENSION l.expected)
      (take l.i (map (matrix_claim (λ d. d.log_size)) l.fn.claims)) (take l.i (nested l.random));
}
