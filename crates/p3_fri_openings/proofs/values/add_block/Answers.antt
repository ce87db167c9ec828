use Rattle.std.proofs.Common.{◌≡◌, ◌-◌, length, get_or, ap, ap₂, ◌∙◌, arith}
use Rattle.std.proofs.lemmas.List.{length-take-le}
use Rattle.algebra.specs.Polynomial.{sum_below}
use Rattle.p3_field_core.specs.RowSums.{column_term}
use Rattle.p3_matrix.specs.Matrix.{rows}
use Rattle.p3_matrix.specs.Rows.{rows_of}
use Rattle.p3_fri_openings.proofs.Sums.{entry_between, weighted_block}
use Rattle.p3_fri_openings.proofs.values.add_block.Goals as goal

pub returns : goal.returns
returns g c j d before l h =
    let B = g.F.Field.ops in
    let K = g.EF.Field.ops in
    let lift = g.EF.ExtensionField.lift in
    let w = length c.args.sums.now in
    let coset = c.args.coset.now in
    let inverses = c.args.inverses.now in
    let s = c.args.start in
    let e = c.args.end in
    let weights = c.write_weights.new.weights in
    let block = c.row_block.result.now in
    let old = get_or c.args.sums.now j d in
    let long : length weights ≡ e - s =
    c.write_weights.auto.weights ∙ length-take-le (e - s) c.args.weights.now (omega arith) in
    weighted_block B K g.met.EF.Field.laws.ring lift coset inverses (rows c.args.matrix.now) j s e w
    c.requires.order c.requires.rows l weights block
    (λ i m. c.write_weights.ensures i K.zero (omega (arith, m, long, c.write_weights.auto.weights))
    ∙ ap₂ (λ a b. K.mul a (lift b)) (entry_between inverses s (e - s) i K.zero m)
    (entry_between coset s (e - s) i B.zero m))
    (ap (λ k. rows_of k block) c.requires.width ∙ c.row_block.ensures.rows)
    before old (get_or c.add_weighted_rows.new.sums j d) h
    (c.add_weighted_rows.ensures j d l
    ∙ ap (λ k. K.add old (sum_below K k (column_term B K lift w weights block j))) long)
