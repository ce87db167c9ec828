use Rattle.fri_example.proofs.Openings.{held_sizes}
use Rattle.fri_example.proofs.commit_matrix.Goals as goal

pub returns-in-Ok-clause-sizes : goal.returns-in-Ok-clause-sizes
returns-in-Ok-clause-sizes g c =
    held_sizes _ _ _ (λ m is. (g.met.P.Pcs.rules_law _).extends_size m _ is) _ _ c.in_ok-evaluations.ensures
    c.in-Ok.ensures.extends
