use Rattle.std.proofs.Common.{◌<◌, ◌++◌, [], length, map, ap, ◌∙◌, arith}
use Rattle.std.specs.List.{flat_map}
use Rattle.std.proofs.lemmas.List.{append-nil, get_or_default, take_all}
use Rattle.p3_challenger_fs.specs.Pattern.{number_bytes}
use Rattle.fri_statement.proofs.Pushes.{pushed_more}
use Rattle.fri_statement.proofs.labels.push_point.Goals as goal

pub loop-index-preserved : goal.loop-index-preserved
loop-index-preserved g c =
    let here = c.loop-index in
    let x = c.coefficient.result in
    let xs = g.EF.ExtensionField.coefficients c.args.point in
    let canonical = g.F.PrimeField64.canonical in
    let within : here.index < length xs =
    omega (arith, g.met.EF.ExtensionField.dimension_law c.args.point) in
    pushed_more number_bytes canonical xs c.args.label.now.items here.label.items
    c.push_numbers.new.label.items here.index x within
    (c.coefficient.ensures ∙ get_or_default xs here.index g.F.Field.ops.zero x within) here.invariant
    (c.in_ok-push_numbers.ensures
    ∙ ap (λ n. here.label.items ++ (number_bytes n ++ [])) c.as_canonical_u64.ensures
    ∙ ap (λ bytes. here.label.items ++ bytes) (append-nil (number_bytes (canonical x))))

pub returns : goal.returns
returns g c =
    let xs = g.EF.ExtensionField.coefficients c.args.point in
    c.loop-index.invariant
    ∙ ap (λ ys. c.args.label.now.items ++ flat_map number_bytes (map g.F.PrimeField64.canonical ys))
    (take_all c.loop-index.index xs (omega (arith, g.met.EF.ExtensionField.dimension_law c.args.point)))
