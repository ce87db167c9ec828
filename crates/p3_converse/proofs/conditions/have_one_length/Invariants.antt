use Rattle.std.proofs.Common.{◌≡◌, All, take, vec_len}
use Rattle.p3_converse.specs.Unfolding.{common_length}
use Rattle.p3_converse.proofs.conditions.have_one_length.Given as goal

abbrev pub invariant-loop-poly : goal.invariant-loop-poly
invariant-loop-poly g l = All (λ p. vec_len p ≡ common_length l.polys) (take l.poly-index l.polys)
