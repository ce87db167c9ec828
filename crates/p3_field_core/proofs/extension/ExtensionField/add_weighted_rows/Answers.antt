use Rattle.std.proofs.Common.{◌+◌, ◌<◌, length, get_or, sym, ap, ◌∙◌, arith}
use Rattle.algebra.specs.Polynomial.{sum_below}
use Rattle.p3_field_core.specs.RowSums.{column_term}
use Rattle.p3_field_core.proofs.TermSums.{sum_none, item}
use Rattle.p3_field_core.proofs.ColumnSums.{written, unwritten, gained, row_within, row_item, term_is}
use Rattle.p3_field_core.proofs.extension.ExtensionField.add_weighted_rows.Goals as goal

pub loop-i-init : goal.loop-i-init
loop-i-init g c k d l =
    let K = g.Self.Field.ops in
    let R = g.met.Self.Field.laws.ring in
    let x = get_or c.args.sums.now k d in
    sym (R.add_zero x) ∙ ap (λ s. K.add x s) (sum_none K R (column_term g.F.Field.ops K
    g.Self.ExtensionField.lift (length c.args.sums.now) c.args.weights.now c.args.rows.now k))

pub loop-j-preserved : goal.loop-j-preserved
loop-j-preserved g c =
    let K = g.Self.Field.ops in
    let B = g.F.Field.ops in
    let lift = g.Self.ExtensionField.lift in
    let old = c.args.sums.now in
    let sums = c.loop-j.sums in
    let rows = c.args.rows.now in
    let weights = c.args.weights.now in
    let i = c.loop-i.i in
    let j = c.loop-j.j in
    let term = column_term B K lift (length old) weights rows in
    let here : j < length sums = omega arith in
    let inside : j < length old = omega arith in
    record {
      added = λ k d l. written (λ k. K.add (get_or old k d) (sum_below K (i + 1) (term k)))
          sums j c.add.result d here
          (g.met.Self.Field.add_law _ _ c.add.result c.add.ensures
          ∙ gained K g.met.Self.Field.laws.ring i (term j) c.index-sums-j.result (get_or old j d)
          c.scale.result
          (item sums j c.index-sums-j.result d here c.index-sums-j.is
          ∙ c.loop-j.invariant.others j d (omega arith) inside)
          (term_is B K lift (length old) weights rows j i c.scale.result c.index-weights-i.result
          c.index-row-j.result c.scale.ensures
          (item weights i c.index-weights-i.result K.zero (omega arith) c.index-weights-i.is)
          (row_item rows (length old) i j c.index-row-j.result B.zero inside
          (row_within (length weights) i (length old) (length rows) c.requires.rows (omega arith))
          c.index-row-j.is)))
          (λ k l. c.loop-j.invariant.added k d l) k l;
      others = λ k d l m. unwritten sums (K.add (get_or old k d) (sum_below K i (term k))) j c.add.result d k l
          (c.loop-j.invariant.others k d (omega (arith, l)) m);
    }
