use Rattle.std.proofs.Common.{◌≡◌, ◌≢◌, ◌∷◌, [], ◌++◌, take, drop, length, map, ap, ap₂, sym, ◌∙◌}
use Rattle.std.proofs.Common.{arith}
use Rattle.std.proofs.Math.Seq.{take-length, take-append_seam}
use Rattle.std.proofs.lemmas.List.{length-map}
use Rattle.algebra.specs.Polynomial.{tabulate}
use Rattle.algebra.specs.Products.{product}
use Rattle.algebra.proofs.Lists.{tabulate-next, length-tabulate, each_from_All}
use Rattle.algebra.proofs.Products.{product-take_next, product-nonzero}
use Rattle.p3_field_core.proofs.batch_inverse.batch_multiplicative_inverse.Goals as goal

pub loop-value-init : goal.loop-value-init
loop-value-init g c =
    record {
      running = c.in_ok-inverses.ensures.items;
      next = c.ONE-product.ensures
          ∙ g.met.F.Field.one_law;
    }

pub loop-value-preserved : goal.loop-value-preserved
loop-value-preserved g c =
    let F = g.F.Field.ops in
    let field = g.met.F.Field in
    let here = c.loop-value in
    let values = c.args.values.now in
    let x = c.value-item.result in
    record {
      running =
          c.in_ok-push.ensures.items
          ∙ ap₂ (λ xs y. xs ++ y ∷ []) here.invariant.running here.invariant.next
          ∙ sym (tabulate-next here.value-index (λ i. product F (take i values)));
      next = field.mul_law here.product x c.mul-product.result c.mul-product.ensures
          ∙ ap₂ (λ p y. F.mul p y) here.invariant.next c.value-item.is
          ∙ sym (product-take_next F field.laws.ring values here.value-index x (omega arith));
    }

pub inverse-requires : goal.inverse-requires
inverse-requires g c =
    let F = g.F.Field.ops in
    let field = g.met.F.Field in
    let values = c.args.values.now in
    let end : c.loop-value.value-index ≡ length values = omega arith in
    let whole : c.loop-value.product ≡ product F values =
    c.loop-value.invariant.next ∙ ap (λ n. product F (take n values)) end
    ∙ ap (λ xs. product F xs) (take-length values) in
    record {
      nonzero = λ e. product-nonzero F field.laws values
          (each_from_All (λ x. x ≢ F.zero) values c.requires.nonzero) (sym whole ∙ e);
    }

pub invert_from_products-requires : goal.invert_from_products-requires
invert_from_products-requires g c =
    let F = g.F.Field.ops in
    let field = g.met.F.Field in
    let values = c.args.values.now in
    let end : c.loop-value.value-index ≡ length values = omega arith in
    let whole : product F values ≡ c.loop-value.product =
    sym (c.loop-value.invariant.next ∙ ap (λ n. product F (take n values)) end
    ∙ ap (λ xs. product F xs) (take-length values)) in
    let nonzero : c.loop-value.product ≢ F.zero =
    λ e. product-nonzero F field.laws values
    (each_from_All (λ x. x ≢ F.zero) values c.requires.nonzero) (whole ∙ e) in
    record {
      running =
          c.deref_mut.ensures.value ∙ c.loop-value.invariant.running
          ∙ ap (λ n. tabulate n (λ i. product F (take i values))) end;
      inverse =
          ap₂ (λ p y. F.mul p y) whole c.inverse.ensures
          ∙ field.laws.mul_inv c.loop-value.product nonzero;
    }

pub returns : goal.returns
returns g c =
    let inv = g.F.Field.ops.inv in
    let values = c.args.values.now in
    let inverted = c.invert_from_products.new.products in
    let is : inverted ≡ map inv values = c.invert_from_products.ensures in
    let items = c.loop-value.inverses.items in
    let long : c.loop-value.inverses.len ≡ length inverted =
    omega (
      arith,
      ap length is,
      length-map values inv,
      c.deref_mut.ensures.len,
      c.deref_mut.ensures.value,
      ap length c.deref_mut.ensures.value,
      ap length c.loop-value.invariant.running,
      length-tabulate c.loop-value.value-index (λ i. product g.F.Field.ops (take i values)),
    ) in
    ap (λ n. take n (inverted ++ drop (length inverted) items)) long
    ∙ take-append_seam inverted (drop (length inverted) items) ∙ is
