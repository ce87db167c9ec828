use Rattle.std.proofs.Common.{◌≡◌, ◌<◌, ◌≤◌, length, map, ap, sym, subst, ◌∙◌, arith}
use Rattle.std.proofs.lemmas.List.{length-map, take_all}
use Rattle.p3_fri_plain.specs.Faults.{IsFaultless, ExtensionFault}
use Rattle.p3_fri_plain.proofs.Extensions.{numbers_faultless}
use Rattle.std.proofs.lemmas.Result.{IfOk-from_err}
use Rattle.p3_fri_plain.proofs.Mapped.{one_image_more}
use Rattle.p3_fri_plain.proofs.elements.ExtensionElementPlain.to_plain.Given.{Over}
use Rattle.p3_fri_plain.proofs.elements.ExtensionElementPlain.to_plain.Goals.{After-loop-index}
use Rattle.p3_fri_plain.proofs.elements.ExtensionElementPlain.to_plain.Goals as goal

-- at the end all coefficients are told
told : (g : Over) (c : After-loop-index g) → c.loop-index.numbers.items
    ≡ map g.F.PrimeField64.canonical (g.EF.ExtensionField.coefficients c.args.value.now)
told g c =
    let xs = g.EF.ExtensionField.coefficients c.args.value.now in
    let counted = g.met.EF.ExtensionField.dimension_law c.args.value.now in
    let all : length xs ≤ c.loop-index.index =
    omega (arith, counted, c.loop-index-test.false, c.DIMENSION-index-end.ensures) in
    c.loop-index.invariant ∙ ap (map g.F.PrimeField64.canonical) (take_all c.loop-index.index xs all)

pub returns-clause-numbers : goal.returns-clause-numbers
returns-clause-numbers g c = told g c

pub returns-clause-faultless : goal.returns-clause-faultless
returns-clause-faultless g c =
    let order = g.F.PrimeField64.ORDER_U64 in
    let degree = g.EF.ExtensionField.DIMENSION in
    let canonical = g.F.PrimeField64.canonical in
    let xs = g.EF.ExtensionField.coefficients c.args.value.now in
    subst (λ ns. IsFaultless (ExtensionFault order degree) ns) (sym (told g c))
    (numbers_faultless order degree canonical g.met.F.PrimeField64.canonical_below xs
    (length-map xs canonical ∙ g.met.EF.ExtensionField.dimension_law c.args.value.now))

pub loop-index-preserved : goal.loop-index-preserved
loop-index-preserved g c =
    let canonical = g.F.PrimeField64.canonical in
    let xs = g.EF.ExtensionField.coefficients c.args.value.now in
    let i = c.loop-index.index in
    let x = c.coefficient-coefficient.result in
    let below : i < length xs = omega (
      arith,
      c.loop-index-test.true,
      c.DIMENSION-index-end.ensures,
      g.met.EF.ExtensionField.dimension_law c.args.value.now,
    ) in
    c.in_ok-push.ensures.items ∙ one_image_more canonical c.loop-index.numbers.items xs i x
    c.as_canonical_u64.result g.F.Field.ops.zero below c.coefficient-coefficient.ensures
    c.as_canonical_u64.ensures c.loop-index.invariant

-- where nothing is answered nothing is said of the answer
pub returns-in_err-numbers-clause-faultless : goal.returns-in_err-numbers-clause-faultless
returns-in_err-numbers-clause-faultless g c =
    IfOk-from_err c.from_residual.result _ c.from_residual.ensures.0

pub returns-in_err-numbers-clause-numbers : goal.returns-in_err-numbers-clause-numbers
returns-in_err-numbers-clause-numbers g c =
    IfOk-from_err c.from_residual.result _ c.from_residual.ensures.0

pub returns-in_err-push-clause-faultless : goal.returns-in_err-push-clause-faultless
returns-in_err-push-clause-faultless g c =
    IfOk-from_err c.from_residual-in_err-push.result _ c.from_residual-in_err-push.ensures.0

pub returns-in_err-push-clause-numbers : goal.returns-in_err-push-clause-numbers
returns-in_err-push-clause-numbers g c =
    IfOk-from_err c.from_residual-in_err-push.result _ c.from_residual-in_err-push.ensures.0
