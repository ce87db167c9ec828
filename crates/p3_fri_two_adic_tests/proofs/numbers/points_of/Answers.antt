use Rattle.std.proofs.lemmas.List.Elements.{All-push}
use Rattle.std.proofs.Common.{◌≢◌, All, length, sym, subst}
use Rattle.p3_fri_two_adic_tests.proofs.numbers.points_of.Goals as goal

pub loop-numbers-preserved : goal.loop-numbers-preserved
loop-numbers-preserved g c =
    subst (λ lists. All (λ list. length list.items ≢ 0) lists)
    (sym (rw c.expect.ensures at c.push.ensures.items))
    (All-push (λ list. length list.items ≢ 0) c.loop-numbers.lists.items c.elements.result
    c.loop-numbers.invariant c.elements.ensures)
