use Rattle.std.proofs.Common.{◌*◌, ap, ◌∙◌}
use Rattle.p3_goldilocks.specs.Goldilocks.{goldilocks, element}
use Rattle.p3_goldilocks.specs.Goldilocks2.{goldilocks2}
use Rattle.p3_goldilocks.specs.Goldilocks2Laws.{same_coefficients}
use Rattle.p3_goldilocks.proofs.QuadraticSteps.{of_number, seven_times_is}
use Rattle.p3_goldilocks.proofs.goldilocks2.arithmetic.Goldilocks2Mul.mul.Goals as goal

pub returns : goal.returns
unfolding goldilocks2
returns c =
    let a = c.args.self in
    let b = c.args.rhs in
    same_coefficients
    (c.product_plus.ensures
    ∙ ap (λ x. goldilocks.add (goldilocks.mul a.constant b.constant) x)
    (ap (λ n. element (7 * n)) (c.from.ensures ∙ c.as_canonical_u64-square.ensures)
    ∙ seven_times_is c.mul.result ∙ ap (λ x. goldilocks.mul (element 7) x) c.mul.ensures))
    (c.product_plus-2.ensures
    ∙ ap (λ x. goldilocks.add (goldilocks.mul a.constant b.linear) x)
    (ap element (c.from-2.ensures ∙ c.as_canonical_u64-cross.ensures)
    ∙ of_number c.mul-2.result ∙ c.mul-2.ensures))
