use Rattle.std.proofs.Common.{take}
use Rattle.std.specs.List.{AllZip, enumerate_from}
use Rattle.algebra.specs.Nested.{nested}
use Rattle.p3_pcs.specs.Claims.{opened_values}
use Rattle.p3_fri_relation.specs.Views.{claims_of}
use Rattle.p3_fri_hiding_openings.specs.RandomValues.{commitment_claim, count_at, with_matrices}
use Rattle.p3_fri_hiding_openings.specs.RandomValues.{FitsMatrix}
use Rattle.p3_fri_hiding_openings.proofs.Written.{IsWrittenTo}
use Rattle.p3_fri_hiding_openings.proofs.append.append_at_rounds.Given as goal

-- the matrices of the commitments before `i` fit their random values, and have them
abbrev pub invariant-loop-i : goal.invariant-loop-i
invariant-loop-i g l = record {
  written : IsWrittenTo (commitment_claim (λ d. d.log_size)) (λ vector. nested vector.items)
      with_matrices l.i l.fn.claims l.claims l.random;
  fits : AllZip (λ (round, claim) matrices.
      AllZip (FitsMatrix l.num_queries g.EF.ExtensionField.DIMENSION
      (count_at l.num_random_codewords l.preprocessing round)) claim.matrices matrices)
      (take l.i (enumerate_from 0 (claims_of (λ d. d.log_size) l.fn.claims)))
      (take l.i (opened_values l.random));
}
