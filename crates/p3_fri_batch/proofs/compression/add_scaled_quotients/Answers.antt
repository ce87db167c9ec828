use Rattle.std.proofs.Common.{◌<◌, get_or, length, arith, ap, ap₂, ◌∙◌}
use Rattle.algebra.specs.Field.{sub}
use Rattle.p3_field_core.proofs.TermSums.{item}
use Rattle.p3_field_core.proofs.ColumnSums.{written, unwritten}
use Rattle.p3_fri_batch.proofs.compression.add_scaled_quotients.Goals as goal

pub loop-i-preserved : goal.loop-i-preserved
loop-i-preserved g c =
    let K = g.EF.Field.ops in
    let field = g.met.EF.Field in
    let i = c.loop-i.i in
    let here : i < length c.loop-i.word = omega arith in
    let there : i < length c.args.compressed.now = omega arith in
    let beside : i < length c.args.inverses.now = omega arith in
    record {
      added = λ k d l. written (λ k. K.add (get_or c.args.word.now k d) (K.mul c.args.step (K.mul
          (sub K c.args.claimed (get_or c.args.compressed.now k d))
          (get_or c.args.inverses.now k d))))
          c.loop-i.word i c.add.result d here
          (field.add_law _ _ c.add.result c.add.ensures
          ∙ ap₂ (λ a b. K.add a b)
          (item c.loop-i.word i c.index-word-i.result d here c.index-word-i.is
          ∙ c.loop-i.invariant.others i d (omega arith))
          (field.mul_law _ _ c.mul-in-loop-i.result c.mul-in-loop-i.ensures
          ∙ ap (λ q. K.mul c.args.step q) (field.mul_law _ _ c.mul.result c.mul.ensures
          ∙ ap₂ (λ a b. K.mul a b)
          (field.sub_law _ _ c.sub.result c.sub.ensures
          ∙ ap (λ a. sub K c.args.claimed a)
          (item c.args.compressed.now i c.index-compressed-i.result d there
          c.index-compressed-i.is))
          (item c.args.inverses.now i c.index-inverses-i.result d beside c.index-inverses-i.is))))
          (λ k l. c.loop-i.invariant.added k d l) k l;
      others = λ k d l. unwritten c.loop-i.word (get_or c.args.word.now k d) i c.add.result d k l
          (c.loop-i.invariant.others k d (omega (arith, l)));
    }
