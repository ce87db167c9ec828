use Rattle.std.proofs.Common.{sym, ap, ◌∙◌}
use Rattle.algebra.specs.Field.{multiple}
use Rattle.p3_uni_stark_transcript.proofs.Instances.{instance_determined}
use Rattle.p3_uni_stark_transcript.proofs.laws.stark_instance_law.Goals as goal

pub returns : goal.returns
returns g c d preprocessed hides =
    let field = g.met.F.PrimeField64 in
    instance_determined g.F.PrimeField64.canonical
    (λ x y e. sym (field.multiple_canonical x) ∙ ap (λ n. multiple g.F.Field.ops n) e
    ∙ field.multiple_canonical y) d preprocessed hides
