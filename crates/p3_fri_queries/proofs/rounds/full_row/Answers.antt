use Rattle.std.proofs.Common.{◌++◌, ◌∷◌, [], ◌-◌, length, take, drop, sym, ap, ap₂, ◌∙◌, arith, append_assoc, length-drop}
use Rattle.std.proofs.lemmas.List.{take_all, take_more}
use Rattle.p3_fri_queries.proofs.rounds.full_row.Goals as goal

pub loop-sibling-preserved : goal.loop-sibling-preserved
loop-sibling-preserved g c =
    c.in_ok-push.ensures.items
    ∙ ap₂ (λ xs x. xs ++ x ∷ []) c.loop-sibling.invariant c.sibling-item.is
    ∙ sym (take_more (take c.args.place c.args.siblings.now) c.loop-sibling.sibling-index
    c.sibling-item.result c.loop-sibling-test.true)

pub loop-sibling-2-preserved : goal.loop-sibling-2-preserved
loop-sibling-2-preserved g c =
    let siblings = c.args.siblings.now in
    let after = take (length siblings - c.args.place) (drop c.args.place siblings) in
    let i = c.loop-sibling-2.sibling-index in
    let sibling = c.sibling-item-in-loop-sibling-2.result in
    c.in_ok-push-3.ensures.items ∙ ap (λ xs. xs ++ sibling ∷ []) c.loop-sibling-2.invariant
    ∙ append_assoc c.push-2.new.self.items (take i after) (sibling ∷ [])
    ∙ ap (λ xs. c.push-2.new.self.items ++ xs)
    (ap (λ x. take i after ++ x ∷ []) c.sibling-item-in-loop-sibling-2.is
    ∙ sym (take_more after i sibling c.loop-sibling-2-test.true))

pub returns : goal.returns
returns g c =
    let siblings = c.args.siblings.now in
    let place = c.args.place in
    let before = take place siblings in
    let rest = drop place siblings in
    c.loop-sibling-2.invariant
    ∙ ap₂ (λ xs ys. xs ++ ys)
    (c.in_ok-push-2.ensures.items
    ∙ ap (λ xs. xs ++ c.args.value ∷ []) (c.loop-sibling.invariant
    ∙ take_all c.loop-sibling.sibling-index before c.loop-sibling-test.false))
    (take_all c.loop-sibling-2.sibling-index (take (length siblings - place) rest)
    c.loop-sibling-2-test.false
    ∙ take_all (length siblings - place) rest (omega (arith, length-drop place siblings)))
    ∙ append_assoc before (c.args.value ∷ []) rest
