use Rattle.std.proofs.Common.{[], ◌∷◌, ◌++◌, map, sym, ap, ◌∙◌, arith}
use Rattle.std.proofs.lemmas.List.{map_push, get_or-map}
use Rattle.algebra.specs.Nested.{lists}
use Rattle.algebra.proofs.Growing.{mapped_more}
use Rattle.algebra.proofs.Nested.{length-lists}
use Rattle.p3_pcs.specs.Claims.{matrix_claim}
use Rattle.p3_uni_stark_verifier.specs.Claimed.{at_one}
use Rattle.p3_uni_stark_verifier.proofs.claims.chunk_matrices.Goals as goal

pub loop-index-preserved : goal.loop-index-preserved
loop-index-preserved g c =
    let chunks = c.args.chunks.now in
    let chunk = c.index-chunks-index.result in
    let at = at_one c.args.domain c.args.point in
    let i = c.loop-index.index in
    mapped_more at (lists chunks) i chunk.items
    (map matrix_claim c.loop-index.openings.items) (map matrix_claim c.push.new.self.items)
    (omega (arith, length-lists chunks, c.loop-index-test.true))
    (ap (λ v. v.items) c.index-chunks-index.is ∙ sym (get_or-map (λ v. v.items) chunks i chunk chunk.items c.loop-index-test.true))
    c.loop-index.invariant
    (ap (λ os. map matrix_claim os) c.in_ok-push.ensures.items
    ∙ map_push matrix_claim c.loop-index.openings.items c.in_ok-matrix_at_one.field-0
    ∙ ap (λ m. map matrix_claim c.loop-index.openings.items ++ m ∷ [])
    (c.in_ok-matrix_at_one.ensures ∙ ap at c.as_slice-values.ensures.value))
