use Rattle.std.proofs.Common.{◌≡◌, get_or, arith, ap₂, ◌∙◌}
use Rattle.std.proofs.lemmas.List.{get_or_read, get_or-set_other}
use Rattle.p3_dft.proofs.Parts.{entry_written}
use Rattle.p3_fri_masks.proofs.Sums.{scaled_added}
use Rattle.p3_fri_masks.proofs.masks.add_scaled.Goals as goal

pub loop-i-preserved : goal.loop-i-preserved
loop-i-preserved g c =
    let A = g.row.F.Denot in
    let F = g.F.Field.ops in
    let field = g.met.F.Field in
    let i = c.loop-i.i in
    let xs = c.loop-i.values in
    let first = c.args.values.now in
    let others = c.args.others.now in
    let f = c.args.factor in
    let here = c.loop-i.invariant in
    let old : (d : A) → c.index-values-i.result ≡ get_or first i d = λ d.
    get_or_read xs i c.index-values-i.result (omega arith) c.index-values-i.is d
    ∙ here.others i d (omega arith) in
    let other : (d : A) → c.index-others-i.result ≡ get_or others i d = λ d.
    get_or_read others i c.index-others-i.result (omega arith) c.index-others-i.is d in
    let sum : (d : A) → c.add.result ≡ F.add (get_or first i d) (F.mul f (get_or others i d)) = λ d.
    field.add_law _ _ c.add.result c.add.ensures
    ∙ ap₂ (λ a b. F.add a b) (old d)
    (c.times.ensures ∙ ap₂ (λ a b. F.mul a b) (other d) c.prepare-prepared.ensures
    ∙ field.laws.mul_comm (get_or others i d) f) in
    record {
      added = entry_written (λ k d. F.add (get_or first k d) (F.mul f (get_or others k d)))
          xs i c.add.result (omega arith) here.added sum;
      others = λ k d l. get_or-set_other xs i k c.add.result d (λ e. omega (arith, l, e))
          ∙ here.others k d (omega (arith, l));
    }

pub returns : goal.returns
returns g c =
    scaled_added g.F.Field.ops g.met.F.Field.laws.ring c.args.values.now c.args.others.now
    c.loop-i.values c.args.factor c.requires c.loop-i.auto.values
    (λ k d l. c.loop-i.invariant.added k d (omega (arith, l)))
