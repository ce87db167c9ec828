use Rattle.std.proofs.Common.{◌≡◌, ◌^◌, length, map, ap, ap₂, ◌∙◌, arith}
use Rattle.std.proofs.lemmas.List.{with_items_is}
use Rattle.algebra.specs.Field.{pow}
use Rattle.algebra.specs.Lists.{add_lists}
use Rattle.p3_fri_masks.proofs.Columns.{masked_and_padded}
use Rattle.p3_fri_masks.proofs.extension.masked_coefficients.Goals as goal

pub returns : goal.returns
returns g c =
    let F = g.F.Field.ops in
    let field = g.met.F.Field in
    let new = c.add_scaled.new.values in
    let kept = c.in_ok-reserve.ensures.items in
    let same_len : length new ≡ c.reserve.new.self.len = omega (arith, c.add_scaled.auto.values, c.deref_mut.ensures.len) in
    let made = with_items_is c.reserve.new.self new same_len in
    masked_and_padded F field.laws.ring c.args.domain.shift c.args.domain.log_size c.args.size
    c.push_scaled.new.values.len c.args.coefficients.items c.args.mask.now _
    c.push_scaled.new.values.items c.resize.new.self.items c.neg.result
    c.exp_power_of_2-factor.result c.ZERO.result c.requires.same c.requires.room
    (field.neg_law c.ONE.result c.neg.result c.neg.ensures
    ∙ ap F.neg (c.ONE.ensures ∙ field.one_law))
    (made ∙ c.add_scaled.ensures
    ∙ ap (λ xs. add_lists F xs (map (λ a. F.mul c.neg.result a) c.args.mask.now))
    (c.deref_mut.ensures.value ∙ kept))
    (c.exp_power_of_2-factor.ensures
    ∙ ap₂ (λ x n. pow F x (2 ^ n)) (c.inverse.ensures ∙ ap F.inv c.shift.ensures) c.log_size.ensures)
    c.in_ok-push_scaled.ensures c.push_scaled.new.values.ok.0 (c.ZERO.ensures ∙ field.zero_law)
    c.in_ok-resize.ensures.items
