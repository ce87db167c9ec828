use Rattle.std.proofs.Common.{◌^◌, length, sym, ap, subst, arith, ◌∙◌}
use Rattle.p3_field.specs.BabyBear.{baby_bear}
use Rattle.p3_fri_hiding.specs.Quotients.{CanExtend}
use Rattle.refused_calls.proofs.Chunks.{extendable}
use Rattle.refused_calls.proofs.settings.chunks.Goals as goal

pub returns-clause-hiding : goal.returns-clause-hiding
returns-clause-hiding c =
    subst (λ es. CanExtend baby_bear (λ d. d.shift) (λ d. d.log_size) 27 2 es (length es))
    (sym c.in_ok-all.ensures)
    (extendable baby_bear (λ d. d.shift) (λ d. d.log_size) 27 2 c.in_ok-first.first
    c.in_ok-second.second
    (c.in_ok-first.ensures.height ∙ ap (λ k. 2 ^ k) (sym c.in_ok-first.ensures.size))
    (c.in_ok-second.ensures.height ∙ ap (λ k. 2 ^ k) (sym c.in_ok-second.ensures.size))
    (c.in_ok-second.ensures.width ∙ sym c.in_ok-first.ensures.width)
    (omega (arith, c.in_ok-first.ensures.size)) (omega (arith, c.in_ok-second.ensures.size))
    (c.are_disjoint.ensures.0 c.if-not-are_disjoint.false))
