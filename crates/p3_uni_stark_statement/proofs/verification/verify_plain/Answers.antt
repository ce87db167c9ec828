use Rattle.std.proofs.Common.{map, refl, ap, ◌∙◌}
use Rattle.algebra.specs.Nested.{lists}
use Rattle.p3_uni_stark_statement.proofs.Accepted.{accepted_of, refused_of}
use Rattle.p3_uni_stark_statement.proofs.verification.verify_plain.Goals as goal

pub returns-in-Ok-verify-clause-accepted : goal.returns-in-Ok-verify-clause-accepted
returns-in-Ok-verify-clause-accepted g c =
    let canonical = g.F.PrimeField64.canonical in
    accepted_of canonical _ _ _ _ _ _ _ c.in-Ok-verify.ensures.exactly
    (c.in-Ok-verify.ensures.state refl)
    (record {
      air = c.in-Ok.ensures.form;
      preprocessed = refl;
      periodic = ap (λ columns. map (map canonical) (lists columns)) c.as_slice.ensures.value
          ∙ c.in-Ok-rows_from_plain.ensures.numbers;
      public_values = ap (map canonical) c.as_slice-2.ensures.value
          ∙ c.in-Ok-values.ensures.numbers;
    })

pub returns-clause-refused : goal.returns-clause-refused
returns-clause-refused g c =
    let canonical = g.F.PrimeField64.canonical in
    refused_of canonical _ _ _ _ _ _ c.in-Err-verify.refusal
    c.in-Err-verify.ensures.exactly c.in-Err-verify.ensures.stands
    c.in-Err-verify.ensures.unmoved
    (record {
      air = c.in-Ok.ensures.form;
      preprocessed = refl;
      periodic = ap (λ columns. map (map canonical) (lists columns)) c.as_slice.ensures.value
          ∙ c.in-Ok-rows_from_plain.ensures.numbers;
      public_values = ap (map canonical) c.as_slice-2.ensures.value
          ∙ c.in-Ok-values.ensures.numbers;
    })
