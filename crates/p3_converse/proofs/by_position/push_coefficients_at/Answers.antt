use Rattle.std.proofs.Common.{◌<◌, ◌++◌, ◌∷◌, [], vec_len, length, take, sym, ap, ◌∙◌, arith, append_assoc}
use Rattle.std.proofs.lemmas.List.{get_or_default}
use Rattle.p3_converse.specs.Positions.{coefficients_at}
use Rattle.algebra.specs.Nested.{lists}
use Rattle.p3_converse.proofs.Positions.{coefficients_at-next}
use Rattle.p3_converse.proofs.by_position.push_coefficients_at.Goals as goal

pub loop-poly-preserved : goal.loop-poly-preserved
loop-poly-preserved g c =
    let F = g.F.Field.ops in
    let polys = c.args.polys.now in
    let m = c.args.position in
    let k = c.loop-poly.poly-index in
    let p = c.poly-item.result in
    let x = c.index.result.now in
    let inside : m < length p.items = omega (arith, c.requires k p c.loop-poly-test.true, ap (λ q. vec_len q) c.poly-item.is, p.ok.0) in
    c.in_ok-push.ensures.items
    ∙ ap (λ xs. xs ++ x ∷ []) c.loop-poly.invariant
    ∙ append_assoc c.args.entries.now.items (coefficients_at F (lists (take k polys)) m) (x ∷ [])
    ∙ ap (λ xs. c.args.entries.now.items ++ xs) (sym (coefficients_at-next F polys k m p x c.loop-poly-test.true c.poly-item.is (c.index.ensures ∙ get_or_default p.items m x F.zero inside)))
