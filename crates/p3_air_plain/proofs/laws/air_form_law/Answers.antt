use Rattle.std.proofs.Common.{sym, ap, ◌∙◌}
use Rattle.algebra.specs.Field.{multiple}
use Rattle.p3_air_plain.proofs.Same.{same_air}
use Rattle.p3_air_plain.proofs.laws.air_form_law.Goals as goal

pub returns : goal.returns
returns g c =
    let field = g.met.F.PrimeField64 in
    same_air g.F.PrimeField64.canonical
    (λ x y e. sym (field.multiple_canonical x) ∙ ap (λ n. multiple g.F.Field.ops n) e
    ∙ field.multiple_canonical y)
