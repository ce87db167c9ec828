use Rattle.std.proofs.Common.{◌+◌, ◌*◌, ◌<◌, ◌∷◌, [], ◌++◌, ap₂, sym, ◌∙◌, length, get_or, arith}
use Rattle.std.proofs.lemmas.List.{get_or_default}
use Rattle.std.proofs.lemmas.Nat.{mul-le}
use Rattle.algebra.proofs.Lists.{tabulate-next}
use Rattle.p3_converse.proofs.by_position.stepped.Goals as goal

pub loop-m-preserved : goal.loop-m-preserved
loop-m-preserved g c =
    let F = g.F.Field.ops in
    let entries = c.args.entries.now in
    let here = c.loop-m in
    let at = here.m * c.args.step + c.args.start in
    let inside : at < length entries =
    omega (arith, c.requires.count, c.requires.start, mul-le (here.m + 1) c.args.step c.args.count c.args.step (omega (arith, c.loop-m-test.true)) (omega arith)) in
    c.in_ok-push.ensures.items
    ∙ ap₂ (λ xs x. xs ++ x ∷ []) here.invariant (c.index-entries-m.is ∙ get_or_default entries at c.index-entries-m.result F.zero inside)
    ∙ sym (tabulate-next here.m (λ m. get_or entries (m * c.args.step + c.args.start) F.zero))
