use Rattle.std.proofs.Common.{map, ap, subst, ◌∙◌, arith}
use Rattle.std.proofs.lemmas.List.{take_all}
use Rattle.p3_fri_masks.specs.QuotientMasks.{AreDisjoint}
use Rattle.p3_fri_masks_tests.proofs.Heads.{heads}
use Rattle.p3_fri_masks_tests.proofs.chunks.are_apart.Goals as goal

pub returns : goal.returns
returns g c = λ t.
    let chunks = c.args.chunks.now in
    let are = c.deref.ensures.value ∙ c.loop-chunk.invariant
    ∙ ap (λ es. map (λ e. e.0) es) (take_all c.loop-chunk.chunk-index chunks (omega arith)) in
    subst (λ ks. AreDisjoint g.F.Field.ops ks (map (λ e. e.0.shift) chunks))
    (ap (λ ds. map (λ d. d.log_size) ds) are ∙ heads (λ d. d.log_size) chunks)
    (subst (λ ss. AreDisjoint g.F.Field.ops (map (λ d. d.log_size) c.deref.result.now) ss)
    (ap (λ ds. map (λ d. d.shift) ds) are ∙ heads (λ d. d.shift) chunks)
    (c.are_disjoint.ensures.0 t))
