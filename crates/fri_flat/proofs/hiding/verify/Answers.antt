use Rattle.std.proofs.Common.{◌≡◌, length, ap, ◌∙◌, arith, refl, subst}
use Rattle.fri_flat.specs.declared.layout.Layout.{Layout}
use Rattle.fri_flat.specs.Flat.{element_size}
use Rattle.fri_flat.specs.Hiding.{hiding_statement, IsHidingStatement}
use Rattle.fri_flat.proofs.Drawn.{drawn}
use Rattle.fri_flat.proofs.Sizes.{length-element}
use Rattle.fri_flat.proofs.hiding.verify.Goals as goal

pub returns-clause-statement : goal.returns-clause-statement
returns-clause-statement g c =
    let stated = c.in_ok-statement.statement in
    let next = c.in-Ok.next_challenge.items in
    record {
      stated = stated;
      next_challenge = next;
      is_stated = subst (λ (l : Layout). c.args.bytes.now ≡ hiding_statement l stated)
          c.layout_of-layout.ensures c.in_ok-statement.ensures.form;
      is_whole = subst (λ (l : Layout). IsHidingStatement l stated) c.layout_of-layout.ensures
          c.in_ok-statement.ensures.whole;
      accepted = c.in-Ok.ensures;
      is_answer = drawn c.layout_of-layout.result _ c.push_element.new.out.items
          c.new-out.result.items next next c.in_ok-push_element.ensures.form
          c.new-out.ensures.items refl c.layout_of-layout.ensures;
    }

pub returns-clause-length : goal.returns-clause-length
returns-clause-length g c =
    let next = c.in-Ok.next_challenge in
    let count : length next.items ≡ c.layout_of-layout.result.degree =
    omega (arith, next.ok.0, c.in_ok-push_element.ensures.length) in
    length-element c.layout_of-layout.result c.push_element.new.out.items c.new-out.result.items
    next.items c.in_ok-push_element.ensures.form c.new-out.ensures.items count
    ∙ ap element_size c.layout_of-layout.ensures
