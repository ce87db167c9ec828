use Rattle.std.proofs.Common.{◌++◌, sym, ap, ◌∙◌, arith}
use Rattle.std.proofs.lemmas.List.{append-nil, take_all}
use Rattle.p3_uni_stark_quotient.proofs.Chunking.{coefficient_next}
use Rattle.p3_uni_stark_quotient.proofs.chunks.push_coefficients.Goals as goal

pub loop-index-init : goal.loop-index-init
loop-index-init g c = sym (append-nil c.args.coefficients.now.items)

pub loop-index-preserved : goal.loop-index-preserved
loop-index-preserved g c =
    let cs = g.EF.ExtensionField.coefficients c.args.value in
    let test = c.loop-index-test.true in
    let end = c.DIMENSION-index-end.ensures in
    coefficient_next c.args.coefficients.now.items c.loop-index.coefficients.items
    c.push.new.self.items cs c.loop-index.index c.coefficient.result g.F.Field.ops.zero
    c.loop-index.invariant c.in_ok-push.ensures.items
    (omega (arith, test, end, g.met.EF.ExtensionField.dimension_law c.args.value))
    c.coefficient.ensures

pub returns : goal.returns
returns g c =
    let cs = g.EF.ExtensionField.coefficients c.args.value in
    let test = c.loop-index-test.false in
    let end = c.DIMENSION-index-end.ensures in
    c.loop-index.invariant
    ∙ ap (λ xs. c.args.coefficients.now.items ++ xs) (take_all c.loop-index.index cs
    (omega (arith, test, end, g.met.EF.ExtensionField.dimension_law c.args.value)))
