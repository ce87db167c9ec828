use Rattle.std.proofs.Common.{◌≡◌, ◌<◌, length, map, sym, ap, ◌∙◌, arith}
use Rattle.std.proofs.lemmas.List.{get_or_read, length-replicate, with_items_is}
use Rattle.algebra.specs.Lists.{add_lists}
use Rattle.algebra.specs.Nested.{lists}
use Rattle.algebra.proofs.Nested.{length-lists, lists_at}
use Rattle.p3_fri_masks.proofs.Sums.{resized, none_added, one_more_added, all_added}
use Rattle.p3_fri_masks.proofs.masks.balancing_mask.Goals as goal

pub loop-i-init : goal.loop-i-init
loop-i-init g c =
    let F = g.F.Field.ops in
    let field = g.met.F.Field in
    let zeros = resized F field.laws.ring c.args.size c.new-mask.result.len c.new-mask.result.items
    c.resize.new.self.items c.ZERO.result c.new-mask.ensures.items c.new-mask.ensures.len
    (c.ZERO.ensures ∙ field.zero_law) c.in_ok-resize.ensures.items in
    record {
      balanced = none_added F field.laws.ring c.args.size c.args.factors.now
          (lists c.args.masks.now) c.resize.new.self.items zeros;
      size = ap length zeros ∙ length-replicate c.args.size F.zero;
    }

pub add_scaled-requires : goal.add_scaled-requires
add_scaled-requires g c =
    let masks = c.args.masks.now in
    let i = c.loop-i.i in
    let item = c.index-masks-i in
    ap length c.deref_mut.ensures.value ∙ c.loop-i.invariant.size
    ∙ sym (ap length c.deref.ensures.value ∙ ap (λ m. length m.items) item.is
    ∙ c.requires.sizes i item.result (omega (arith, c.requires.count, c.loop-i-test.true)))

pub loop-i-preserved : goal.loop-i-preserved
loop-i-preserved g c =
    let F = g.F.Field.ops in
    let field = g.met.F.Field in
    let factors = c.args.factors.now in
    let masks = c.args.masks.now in
    let i = c.loop-i.i in
    let item = c.index-masks-i in
    let new = c.add_scaled.new.values in
    let below : i < length masks = omega (arith, c.requires.count, c.loop-i-test.true) in
    let same_len : length new ≡ c.loop-i.mask.len = omega (arith, c.add_scaled.auto.values, c.deref_mut.ensures.len) in
    let made = with_items_is c.loop-i.mask new same_len in
    record {
      balanced = one_more_added F field.laws.ring c.args.size factors (lists masks) i c.neg.result
          c.deref.result.now c.loop-i.mask.items _ c.loop-i.invariant.balanced
          (omega (arith, c.loop-i-test.true)) (omega (arith, below, length-lists masks))
          (field.neg_law _ c.neg.result c.neg.ensures
          ∙ ap F.neg (get_or_read factors i c.index-factors-i.result (omega (arith, c.loop-i-test.true)) c.index-factors-i.is F.zero))
          (c.deref.ensures.value ∙ ap (λ m. m.items) item.is ∙ sym (lists_at masks i item.result below))
          (made ∙ c.add_scaled.ensures
          ∙ ap (λ xs. add_lists F xs (map (λ a. F.mul c.neg.result a) c.deref.result.now)) c.deref_mut.ensures.value);
      size = ap length made ∙ c.add_scaled.auto.values ∙ ap length c.deref_mut.ensures.value
          ∙ c.loop-i.invariant.size;
    }

pub returns : goal.returns
returns g c =
    all_added g.F.Field.ops g.met.F.Field.laws.ring c.args.size c.args.factors.now
    (lists c.args.masks.now) c.loop-i.i c.loop-i.mask.items c.loop-i.invariant.balanced
    (omega (arith, c.loop-i-test.false)) (omega (arith, c.loop-i.invariant.size))
