use Rattle.std.proofs.Common.{[], ◌∷◌, ◌++◌, sym, ap, ◌∙◌, arith, get_or}
use Rattle.std.proofs.lemmas.List.{map_push, get_or-map, length-map}
use Rattle.algebra.specs.Nested.{lists, nested}
use Rattle.algebra.proofs.Growing.{mapped_more}
use Rattle.p3_uni_stark_opening.proofs.opening.first_of_each.Goals as goal

pub loop-index-preserved : goal.loop-index-preserved
loop-index-preserved g c =
    let matrices = c.args.matrices.now in
    let matrix = c.index-matrices-index.result in
    let i = c.loop-index.index in
    let test = c.loop-index-test.true in
    mapped_more (λ points. get_or points 0 []) (nested matrices) i (lists matrix.items)
    (lists c.loop-index.all.items) (lists c.push.new.self.items)
    (omega (arith, test, length-map matrices (λ v. lists v.items)))
    (ap (λ v. lists v.items) c.index-matrices-index.is
    ∙ sym (get_or-map (λ v. lists v.items) matrices i matrix (lists matrix.items) test))
    c.loop-index.invariant
    (ap lists c.in_ok-push.ensures.items
    ∙ map_push (λ v. v.items) c.loop-index.all.items c.in_ok-first_or_empty.field-0
    ∙ ap (λ xs. lists c.loop-index.all.items ++ xs ∷ [])
    (c.in_ok-first_or_empty.ensures ∙ ap (λ ps. get_or (lists ps) 0 []) c.as_slice.ensures.value))
