use Rattle.std.proofs.Common.{◌≡◌, ◌≤◌, ◌+◌, ◌*◌, length, get_or, refl, arith, ap, ap₂, sym, ◌∙◌}
use Rattle.std.specs.Prelude.{slice_range}
use Rattle.std.proofs.lemmas.Nat.{row_fits}
use Rattle.std.proofs.lemmas.List.Edits.{get_or-between}
use Rattle.algebra.specs.Field.{pow}
use Rattle.algebra.proofs.Powers.{pow-zero}
use Rattle.p3_dft.proofs.Sizes.{power_next}
use Rattle.p3_dft.proofs.Pairs.{length-block}
use Rattle.p3_dft.proofs.Parts.{block_written, get_or-put_mid_past}
use Rattle.p3_dft.proofs.scaling.scale_rows.Goals as goal

pub loop-i-init : goal.loop-i-init
loop-i-init g c =
    let F = g.F.Field.ops in
    record {
      factor = sym (ap (λ x. F.mul c.args.first x) (pow-zero F c.args.ratio) ∙ g.met.F.Field.laws.mul_one c.args.first);
      scaled = λ i j d l q. absurd (omega (arith, l));
      others = λ k d l. refl;
    }

pub overflow_mul-start : goal.overflow_mul-start
overflow_mul-start g c = omega (arith, c.requires, row_fits c.loop-i.i c.args.width c.args.height c.args.width c.loop-i-test.true (omega arith))

pub loop-i-preserved : goal.loop-i-preserved
loop-i-preserved g c =
    let F = g.F.Field.ops in
    let K = g.EF.Field.ops in
    let lift = g.EF.ExtensionField.lift in
    let w = c.args.width in
    let i = c.loop-i.i in
    let xs = c.loop-i.values in
    let here = c.loop-i.invariant in
    let long : length xs ≡ c.args.height * w = omega (arith, c.requires, c.loop-i.auto.values) in
    let room : i * w + w ≤ length xs = omega (arith, long, row_fits i w c.args.height w c.loop-i-test.true (omega arith)) in
    let count : length (slice_range xs (i * w) (i * w + w)) ≡ w = length-block xs i w room in
    let size : length c.scale_row.new.entries ≡ w = c.scale_row.auto.entries ∙ count in
    record {
      factor =
          g.met.F.Field.mul_law c.loop-i.factor c.args.ratio c.mul-factor.result c.mul-factor.ensures
          ∙ ap (λ x. F.mul x c.args.ratio) here.factor
          ∙ power_next F g.met.F.Field.laws.ring c.args.first c.args.ratio i;
      scaled = block_written (λ m j d. K.mul (get_or c.args.values.now (m * w + j) d) (lift (F.mul c.args.first (pow F c.args.ratio m)))) xs c.scale_row.new.entries i w _ room size here.scaled
          (λ j d q.
          c.scale_row.ensures j d (omega (arith, q, count))
          ∙ ap₂ (λ x y. K.mul x (lift y)) (get_or-between xs (i * w) (i * w + w) j d (omega (arith, q)) ∙ here.others (i * w + j) d (omega arith)) here.factor);
      others = λ k d l. get_or-put_mid_past (i * w) _ xs c.scale_row.new.entries (omega (arith, room)) (omega (arith, size)) k d (omega (arith, l)) ∙ here.others k d (omega (arith, l));
    }

pub returns : goal.returns
returns g c i j d p q = c.loop-i.invariant.scaled i j d (omega (arith, p)) q
