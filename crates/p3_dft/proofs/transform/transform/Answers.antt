-- Each call on the layers keeps what the loop knows of the rows.
use Rattle.std.proofs.Common.{rules, ◌≡◌, ◌*◌, ◌/◌, ◌%◌, ◌^◌, ◌<◌, length, arith}
use Rattle.std.proofs.Common.{ap}
use Rattle.std.proofs.Common.{subst, refl, sym, ◌∙◌}
use Rattle.std.proofs.lemmas.Nat.{one_shl}
use Rattle.std.proofs.lemmas.List.{with_items_is}
use Rattle.algebra.proofs.Lists.{length-tabulate}
use Rattle.algebra.specs.Field.{pow}
use Rattle.algebra.specs.Polynomial.{tabulate}
use Rattle.p3_dft.specs.Strided.{AfterLayers}
use Rattle.p3_dft.proofs.LayerSteps.{before_layers, after_layers}
use Rattle.p3_dft.proofs.transform.transform.Goals as goal

pub loop-done-init : goal.loop-done-init
loop-done-init g c = record {
  within = omega arith;
  current = refl;
  spare = search rules;
  values = before_layers g.EF.Field.ops g.met.EF.Field.laws.ring (g.EF.ExtensionField.lift c.args.root) c.args.width c.args.log_height c.args.values.items;
}

pub next_layers-done-requires-clause-twiddles : goal.next_layers-done-requires-clause-twiddles
next_layers-done-requires-clause-twiddles g c =
    ap length (c.deref-in-loop-done.ensures.value ∙ c.in_ok-twiddles.ensures)
    ∙ length-tabulate (1 * 2 ^ c.args.log_height % 2 ^ 64 / 2) (λ i. pow g.F.Field.ops c.args.root i)
    ∙ ap (λ n. n / 2) (one_shl c.args.log_height 64 c.requires.log_height)

pub loop-done-preserved : goal.loop-done-preserved
loop-done-preserved g c =
    let K = g.EF.Field.ops in
    let F = g.F.Field.ops in
    let k = c.args.log_height in
    let root = g.EF.ExtensionField.lift c.args.root in
    let xs = c.args.values.items in
    let here = c.loop-done.invariant in
    let layers = c.next_layers-done in
    let made : c.swap.new.x.items ≡ layers.new.target = rw c.swap.ensures.x_after (with_items_is c.loop-done.spare layers.new.target (omega arith)) in
    let table = c.deref-in-loop-done.ensures.value ∙ c.in_ok-twiddles.ensures ∙ ap (λ n. tabulate (n / 2) (λ i. pow F c.args.root i)) (one_shl k 64 c.requires.log_height) in
    let some : 0 < k = omega (arith, c.loop-done-test.true) in
    record {
      within = layers.ensures.within;
      current = ap length made ∙ layers.auto.target ∙ ap length c.deref_mut.ensures.value ∙ here.spare;
      spare = rw c.swap.ensures.y_after here.current;
      values = subst (λ ys. AfterLayers K root c.args.width k layers.result xs ys) (sym made)
          (layers.ensures.values c.args.root xs table (c.requires.half_turn some)
          (subst (λ ys. AfterLayers K root c.args.width k c.loop-done.done xs ys) (sym c.deref.ensures.value) here.values));
    }

pub returns-clause-values : goal.returns-clause-values
returns-clause-values g c =
    let K = g.EF.Field.ops in
    let k = c.args.log_height in
    let root = g.EF.ExtensionField.lift c.args.root in
    let xs = c.args.values.items in
    let ys = c.loop-done.current.items in
    let done : c.loop-done.done ≡ k = omega (arith, c.loop-done.invariant.within, c.loop-done-test.false) in
    after_layers K g.met.EF.Field.laws.ring root c.args.width k xs ys
    (subst (λ n. AfterLayers K root c.args.width k n xs ys) done c.loop-done.invariant.values)
