use Rattle.std.proofs.Common.{[], ◌∷◌, ◌++◌, ℕ, map, slice_index_or, sym, ap₂, ◌∙◌}
use Rattle.algebra.specs.Cosets.{vanishing}
use Rattle.algebra.proofs.Lists.{tabulate-next}
use Rattle.p3_uni_stark_identity.proofs.Domains.{lifted_shift, size_at}
use Rattle.p3_uni_stark_identity.proofs.chunks.vanishing_values.Goals as goal

pub loop-j-preserved : goal.loop-j-preserved
loop-j-preserved g c =
    let K = g.EF.Field.ops in
    let domains = c.args.domains.now in
    let j = c.loop-j.j in
    let d = c.index-domains-j in
    c.in_ok-push.ensures.items
    ∙ ap₂ (λ xs x. xs ++ x ∷ []) c.loop-j.invariant
    (c.vanishing_poly_at_point.ensures
    ∙ ap₂ (λ s n. vanishing K s n c.args.point)
    (lifted_shift g.F.Field.ops domains (λ d. d.shift) (λ d. d.log_size)
    g.EF.ExtensionField.lift K.zero j d.result c.loop-j-test.true d.is)
    (size_at g.F.Field.ops domains (λ d. d.shift) (λ d. d.log_size) j d.result
    c.loop-j-test.true d.is))
    ∙ sym (tabulate-next j (λ j. vanishing K
    (slice_index_or (map g.EF.ExtensionField.lift (map (λ d. d.shift) domains)) j K.zero)
    (slice_index_or (map (λ d. d.log_size) domains) j 0) c.args.point))
