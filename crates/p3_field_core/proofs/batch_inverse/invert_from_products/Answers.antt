use Rattle.std.proofs.Common.{◌≡◌, ◌-◌, ◌+◌, subst, ℕ, arith}
use Rattle.p3_field_core.proofs.Inverses.{IsUndoneFrom, undone_start, undone_step, undone_end}
use Rattle.p3_field_core.proofs.batch_inverse.invert_from_products.Goals as goal

pub loop-i-init : goal.loop-i-init
loop-i-init g c =
    undone_start g.F.Field.ops g.met.F.Field.laws c.args.values.now c.args.products.now
    c.args.inverse_of_all c.requires.running c.requires.inverse

pub bounds-products-i : goal.bounds-products-i
bounds-products-i g c = omega (arith, c.loop-i.invariant.lengths)

pub bounds-products-i-in-loop-i : goal.bounds-products-i-in-loop-i
bounds-products-i-in-loop-i g c = omega (arith, c.loop-i.invariant.lengths)

pub loop-i-preserved : goal.loop-i-preserved
loop-i-preserved g c =
    let field = g.met.F.Field in
    let F = g.F.Field.ops in
    let here = c.loop-i in
    let values = c.args.values.now in
    let x = c.index-values-i.result in
    let p = c.index-products-i.result in
    let j = here.i - 1 in
    let next : here.i ≡ j + 1 = omega arith in
    let P : ℕ → Type 0 = λ i. IsUndoneFrom F values i here.products here.inverse in
    rw (field.mul_law here.inverse x c.mul-inverse.result c.mul-inverse.ensures)
    (undone_step F field.laws values j here.products here.inverse x p c.mul.result
    (omega arith) c.index-values-i.is c.index-products-i.is
    (field.mul_law p here.inverse c.mul.result c.mul.ensures) (subst P next here.invariant))

pub returns : goal.returns
returns g c =
    let P : ℕ → Type 0 =
    λ i. IsUndoneFrom g.F.Field.ops c.args.values.now i c.loop-i.products c.loop-i.inverse in
    let last : c.loop-i.i ≡ 0 = omega arith in
    undone_end g.F.Field.ops g.met.F.Field.laws c.args.values.now c.loop-i.products c.loop-i.inverse
    (subst P last c.loop-i.invariant)
