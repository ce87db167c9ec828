use Rattle.std.proofs.Common.{◌<◌, get_or, length, arith, ap, ◌∙◌}
use Rattle.p3_field_core.proofs.TermSums.{item}
use Rattle.p3_field_core.proofs.ColumnSums.{written, unwritten}
use Rattle.p3_fri_openings.proofs.values.scale_all.Goals as goal

pub loop-j-preserved : goal.loop-j-preserved
loop-j-preserved g c =
    let F = g.F.Field.ops in
    let j = c.loop-j.j in
    let here : j < length c.loop-j.values = omega arith in
    record {
      scaled = λ k d l. written (λ k. F.mul c.args.factor (get_or c.args.values.now k d))
          c.loop-j.values j c.mul.result d here
          (g.met.F.Field.mul_law _ _ c.mul.result c.mul.ensures
          ∙ ap (λ a. F.mul c.args.factor a)
          (item c.loop-j.values j c.index-values-j.result d here c.index-values-j.is ∙ c.loop-j.invariant.others j d (omega arith)))
          (λ k l. c.loop-j.invariant.scaled k d l) k l;
      others = λ k d l. unwritten c.loop-j.values (get_or c.args.values.now k d) j c.mul.result d k l
          (c.loop-j.invariant.others k d (omega (arith, l)));
    }
