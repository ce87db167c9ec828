use Rattle.std.proofs.Common.{◌≡◌, ◌==◌, if◌then◌else◌, map, slice_index_or}
use Rattle.algebra.specs.Cosets.{vanishing}
use Rattle.algebra.specs.RecombinedQuotients.{product_below}
use Rattle.p3_uni_stark_identity.proofs.chunks.factor_of_chunk.Given as goal

-- the product over the domains so far, with one in the place of the chunk's own
abbrev pub invariant-loop-other : goal.invariant-loop-other
invariant-loop-other g l =
    let K = g.EF.Field.ops in
    let shifts = map g.EF.ExtensionField.lift (map (λ d. d.shift) l.domains) in
    let k = slice_index_or (map (λ d. d.log_size) l.domains) 0 0 in
    l.factor ≡ product_below K l.other (λ j. if j == l.index then K.one else
    K.mul (slice_index_or l.vanishing_at_point j K.zero) (K.inv (vanishing K
    (slice_index_or shifts j K.zero) k (slice_index_or shifts l.index K.zero))))
