use Rattle.std.proofs.Common.{◌≡◌, length, ap, ◌∙◌, arith}
use Rattle.fri_flat.specs.Flat.{element_size}
use Rattle.fri_flat.proofs.Drawn.{drawn}
use Rattle.fri_flat.proofs.Sizes.{length-element}
use Rattle.fri_flat.proofs.calls.challenge.Goals as goal

pub returns-clause-challenge : goal.returns-clause-challenge
returns-clause-challenge g c = drawn c.layout_of-layout.result _ c.push_element.new.out.items
    c.new-out.result.items c.in_ok-challenge.challenge.items _ c.in_ok-push_element.ensures.form
    c.new-out.ensures.items c.in_ok-challenge.ensures c.layout_of-layout.ensures

pub returns-clause-length : goal.returns-clause-length
returns-clause-length g c =
    let next = c.in_ok-challenge.challenge in
    let count : length next.items ≡ c.layout_of-layout.result.degree =
    omega (arith, next.ok.0, c.in_ok-push_element.ensures.length) in
    length-element c.layout_of-layout.result c.push_element.new.out.items c.new-out.result.items
    next.items c.in_ok-push_element.ensures.form c.new-out.ensures.items count
    ∙ ap element_size c.layout_of-layout.ensures
