use Rattle.std.proofs.Common.{◌∙◌, get_or, ap, arith}
use Rattle.p3_matrix.specs.Matrix.{rows}
use Rattle.p3_fri_openings.specs.Sums.{weighted_sum}
use Rattle.p3_fri_openings.proofs.Sums.{weighted_none}
use Rattle.p3_fri_openings.proofs.values.add_weighted_rows.Goals as goal

pub loop-block-init : goal.loop-block-init
loop-block-init g c j d l =
    weighted_none g.F.Field.ops g.EF.Field.ops g.met.EF.Field.laws.ring g.EF.ExtensionField.lift
    c.args.coset.now c.args.inverses.now (rows c.args.matrix.now) j (get_or c.args.sums.now j d)

pub loop-block-preserved : goal.loop-block-preserved
loop-block-preserved g c j d l =
    let old = get_or c.args.sums.now j d in
    c.add_block.ensures j d old (omega arith) (c.loop-block.invariant j d l)
    ∙ ap (λ n. g.EF.Field.ops.add old (weighted_sum g.F.Field.ops g.EF.Field.ops
    g.EF.ExtensionField.lift n c.args.coset.now c.args.inverses.now (rows c.args.matrix.now) j)) (omega arith)

pub returns : goal.returns
returns g c j d l =
    let old = get_or c.args.sums.now j d in
    c.add_block-2.ensures j d old (omega arith)
    (c.loop-block.invariant j d l
    ∙ ap (λ n. g.EF.Field.ops.add old (weighted_sum g.F.Field.ops g.EF.Field.ops
    g.EF.ExtensionField.lift n c.args.coset.now c.args.inverses.now (rows c.args.matrix.now) j)) (omega arith))
