use Rattle.std.proofs.Common.{◌≡◌, map, slice_index_or}
use Rattle.algebra.specs.Cosets.{vanishing}
use Rattle.algebra.specs.Polynomial.{tabulate}
use Rattle.p3_uni_stark_identity.proofs.chunks.vanishing_values.Given as goal

abbrev pub invariant-loop-j : goal.invariant-loop-j
invariant-loop-j g l =
    let K = g.EF.Field.ops in
    l.values.items ≡ tabulate l.j (λ j. vanishing K
    (slice_index_or (map g.EF.ExtensionField.lift (map (λ d. d.shift) l.domains)) j K.zero)
    (slice_index_or (map (λ d. d.log_size) l.domains) j 0) l.point)
