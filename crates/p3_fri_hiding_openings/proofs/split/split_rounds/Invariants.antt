use Rattle.std.proofs.Common.{map}
use Rattle.algebra.specs.Nested.{nested}
use Rattle.p3_fri_hiding_openings.specs.RandomValues.{count_at}
use Rattle.p3_fri_hiding_openings.specs.Halves.{shown, kept_back}
use Rattle.p3_fri_hiding_openings.proofs.Cut.{IsCutTo}
use Rattle.p3_fri_hiding_openings.proofs.split.split_rounds.Given as goal

abbrev pub invariant-loop-i : goal.invariant-loop-i
invariant-loop-i g l = IsCutTo (λ vector. nested vector.items) (λ vector. nested vector.items)
    (λ round. map (map (shown (count_at l.num_random_codewords l.preprocessing round))))
    (λ round. map (map (kept_back (count_at l.num_random_codewords l.preprocessing round))))
    l.i l.fn.values l.values l.kept.items
