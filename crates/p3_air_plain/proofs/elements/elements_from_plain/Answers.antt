use Rattle.std.proofs.Common.{◌≤◌, refl, subst, ◌∙◌}
use Rattle.std.proofs.lemmas.List.{get_or_default, take_all}
use Rattle.p3_air_plain.proofs.elements.elements_from_plain.Goals as goal

-- where nothing is answered nothing is said of the answer
pub returns-then-is_err-clause-numbers : goal.returns-then-is_err-clause-numbers
returns-then-is_err-clause-numbers g c = tt

pub returns-in_default-clause-refused : goal.returns-in_default-clause-refused
returns-in_default-clause-refused g c = (
  refl,
  refl,
  λ d. subst (λ n. g.F.PrimeField64.ORDER_U64 ≤ n)
      (get_or_default c.args.numbers.now c.loop-entry.entry 0 d c.loop-entry-test.true)
      c.in_default.ensures.none,
)

pub returns-clause-numbers : goal.returns-clause-numbers
returns-clause-numbers g c =
    c.loop-entry.invariant
    ∙ take_all c.loop-entry.entry c.args.numbers.now c.loop-entry-test.false
