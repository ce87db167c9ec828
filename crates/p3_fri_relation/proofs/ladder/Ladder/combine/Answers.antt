use Rattle.std.proofs.Common.{ap, sym, ◌∙◌, arith}
use Rattle.std.proofs.lemmas.List.{take_all}
use Rattle.algebra.specs.Polynomial.{val}
use Rattle.algebra.proofs.Values.{val-nil}
use Rattle.p3_fri_relation.proofs.PowerSums.{combined_next}
use Rattle.p3_fri_relation.proofs.ladder.Ladder.combine.Goals as goal

pub loop-k-init : goal.loop-k-init
loop-k-init g c =
    let field = g.met.EF.Field in
    c.ZERO-sum.ensures ∙ field.zero_law
    ∙ sym (val-nil g.EF.Field.ops field.laws.ring c.args.self.now.alpha)

pub loop-k-preserved : goal.loop-k-preserved
loop-k-preserved g c =
    let K = g.EF.Field.ops in
    let field = g.met.EF.Field in
    let ladder = c.args.self.now in
    let k = c.loop-k.k in
    let p = c.index.result.now in
    let v = c.index-values-k.result in
    field.add_law c.loop-k.sum c.mul.result c.add-sum.result c.add-sum.ensures
    ∙ ap (λ t. K.add c.loop-k.sum t) (field.mul_law p v c.mul.result c.mul.ensures)
    ∙ combined_next K field.laws.ring ladder.alpha _ k ladder.powers.items c.args.values.now p v
    c.loop-k.sum ladder.are_powers (omega arith) c.index.ensures (omega arith) c.index-values-k.is
    c.loop-k.invariant

pub returns : goal.returns
returns g c =
    c.loop-k.invariant
    ∙ ap (λ xs. val g.EF.Field.ops xs c.args.self.now.alpha)
    (take_all c.loop-k.k c.args.values.now (omega arith))
