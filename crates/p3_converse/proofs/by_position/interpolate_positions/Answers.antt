use Rattle.std.proofs.Common.{◌≡◌, length, ap, ◌∙◌, arith}
use Rattle.std.proofs.lemmas.List.{with_items_is}
use Rattle.p3_converse.specs.Positions.{coefficients_at}
use Rattle.algebra.specs.Nested.{lists}
use Rattle.p3_converse.proofs.Positions.{length-coefficients_at}
use Rattle.p3_converse.proofs.Concatenated.{length-concatenated}
use Rattle.p3_converse.proofs.Interpolated.{interpolated-parts}
use Rattle.algebra.proofs.Nested.{length-lists}
use Rattle.p3_converse.proofs.by_position.interpolate_positions.Goals as goal

pub interpolate_each-requires-clause-count : goal.interpolate_each-requires-clause-count
interpolate_each-requires-clause-count g c =
    let polys = c.args.polys.now in
    ap length (c.deref_mut.ensures.value ∙ c.in_ok-interleave.ensures)
    ∙ length-concatenated (length c.args.points.now) c.args.degree_bound (coefficients_at g.F.Field.ops (lists polys))
    (λ m l. length-coefficients_at g.F.Field.ops (lists polys) m ∙ length-lists polys ∙ c.requires.as_many)

pub returns : goal.returns
returns g c =
    let polys = c.args.polys.now in
    let same_len : length c.interpolate_each.new.values ≡ c.interleave.new.entries.len = omega (arith, c.interpolate_each.auto.values, c.deref_mut.ensures.len) in
    rw (with_items_is c.interleave.new.entries c.interpolate_each.new.values same_len)
    (c.interpolate_each.ensures
    ∙ interpolated-parts g.F.Field.ops c.args.points.now (lists polys) c.args.degree_bound c.deref_mut.result.now (length-lists polys ∙ c.requires.as_many)
    (c.deref_mut.ensures.value ∙ c.in_ok-interleave.ensures))
