use Rattle.std.proofs.Common.{◌≤◌, sym, refl, take}
use Rattle.std.proofs.lemmas.List.{take_all}
use Rattle.std.proofs.lemmas.List.Elements.{All-more, All-same}
use Rattle.p3_fri_verifier.proofs.instance.first_below.Goals as goal

pub loop-place-preserved : goal.loop-place-preserved
loop-place-preserved c =
    All-more (λ h. c.args.final_height ≤ h) c.args.heights.now c.loop-place.place 0 c.loop-place-test.true
    c.loop-place.invariant c.if-height-final_height.false

pub returns-clause-none : goal.returns-clause-none
returns-clause-none c =
    let xs = c.args.heights.now in
    let i = c.loop-place.place in
    ((λ e. All-same (λ h. c.args.final_height ≤ h) xs (take i xs) (sym (take_all i xs c.loop-place-test.false)) c.loop-place.invariant), (λ h. refl))
