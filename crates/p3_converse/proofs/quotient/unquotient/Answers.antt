use Rattle.std.proofs.Common.{◌≡◌, ◌∷◌, length, subst, sym, ap, ◌∙◌, arith}
use Rattle.std.proofs.lemmas.List.{with_items_is}
use Rattle.algebra.specs.Interpolation.{plus_multiple}
use Rattle.algebra.proofs.Values.{stretched}
use Rattle.algebra.proofs.CosetWords.{length-stretched}
use Rattle.p3_converse.specs.Quotients.{IsUnquotient}
use Rattle.p3_converse.proofs.Quotients.{stretched_end, is_unquotient}
use Rattle.p3_converse.proofs.quotient.unquotient.Goals as goal

pub returns-clause-length : goal.returns-clause-length
returns-clause-length g c =
    let F = g.EF.Field.ops in
    let here = c.loop-coefficient in
    let q = c.args.q.now in
    let p = stretched F F.one c.inverse-inverse.result q in
    let whole = stretched_end F here.c.items (c.args.y ∷ p) here.power c.inverse-inverse.result q here.coefficient-index (omega (arith, c.loop-coefficient-test.false)) here.invariant in
    omega (arith, here.c.ok.0, ap length whole, length-stretched F F.one c.inverse-inverse.result q)

pub returns-clause-values : goal.returns-clause-values
returns-clause-values g c =
    let F = g.EF.Field.ops in
    let here = c.loop-coefficient in
    let q = c.args.q.now in
    let z = c.args.z in
    let y = c.args.y in
    let i = c.inverse-inverse.result in
    let p = stretched F F.one i q in
    let new = c.add_multiple.new.coefficients in
    let whole = stretched_end F here.c.items (y ∷ p) here.power i q here.coefficient-index (omega (arith, c.loop-coefficient-test.false)) here.invariant in
    let same_len : length new ≡ here.c.len = omega (arith, c.add_multiple.auto.coefficients, c.deref_mut.ensures.len) in
    rw (with_items_is here.c new same_len)
    (subst (λ d. IsUnquotient F c.args.shift z y q d)
    (ap (λ s. plus_multiple F z y (stretched F F.one s q)) (sym c.inverse-inverse.ensures) ∙ sym (c.add_multiple.ensures y p (c.deref_mut.ensures.value ∙ whole)))
    (is_unquotient F g.met.EF.Field.laws c.args.shift z y q c.requires.shift))
