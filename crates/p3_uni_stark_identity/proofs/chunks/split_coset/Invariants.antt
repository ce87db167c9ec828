use Rattle.std.proofs.Common.{◌≡◌, ◌+◌, All, map}
use Rattle.algebra.specs.Polynomial.{tabulate}
use Rattle.p3_field_core.specs.Coset.{coset_point}
use Rattle.p3_uni_stark_identity.proofs.chunks.split_coset.Given as goal

abbrev pub invariant-loop : goal.invariant-loop
invariant-loop g l =
    let F = g.F.Field.ops in
    let point = coset_point F (g.F.TwoAdicField.root (l.log_size + l.log_num_pieces))
    l.fn.shift in
    record {
      next : l.first ≡ point l.counter;
      shifts : map (λ d. d.shift) l.pieces.items ≡ tabulate l.counter point;
      sizes : All (λ n. n ≡ l.log_size) (map (λ d. d.log_size) l.pieces.items);
    }
