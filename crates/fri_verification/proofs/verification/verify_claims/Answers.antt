use Rattle.fri_numbers.proofs.Failed.{refused_as}
use Rattle.fri_verification.proofs.verification.verify_claims.Goals as goal

pub returns-in-Err-clause-refused : goal.returns-in-Err-clause-refused
returns-in-Err-clause-refused g c =
    let memory = g.met.P.MadeScheme.memory_law c.args.scheme.now in
    refused_as _ _ c.in-Err.error _ c.into.ensures
    (λ differs. (
      (λ holds. let is = (c.in-Err.ensures.exactly (λ same. differs (cc (same, memory)))).1 holds in cc),
      c.in-Err.ensures.stands,
    ))
