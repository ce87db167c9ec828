use Rattle.std.proofs.lemmas.Result.{IfOk-from_err}
use Rattle.std.proofs.Common.{refl, subst, ap, ◌∙◌, map}
use Rattle.std.specs.Prelude.{replicate}
use Rattle.p3_pcs.specs.Claims.{claim}
use Rattle.p3_fri_two_adic.specs.Ranges.{InVerifierRange}
use Rattle.fri_schemes.specs.Alike.{still_alike}
use Rattle.fri_statement.specs.Setting.{SchemeFields}
use Rattle.fri_verification.specs.Bound.{state_bound}
use Rattle.fri_verification.specs.Verdicts.{IsMadeFor}
use Rattle.fri_verification.proofs.Answered.{accepted_by, refused_by}
use Rattle.fri_numbers.proofs.Failed.{refused_part, statement_wants}
use Rattle.fri_verification.proofs.Fields.{fields_of}
use Rattle.fri_verification.proofs.verification.verify.Given.{Over}
use Rattle.fri_verification.proofs.verification.verify.Goals as goal

abbrev fields : (g : Over) → SchemeFields g.row.F.Denot g.row.F-Extension.Denot
fields g = fields_of g.F.Field g.F.PrimeField64 g.F.TwoAdicField g.F.ElementBytes
    g.F.Extension.Field g.F.Extension.ExtensionField g.F.Extension.ElementBytes

pub verify_claims-requires : goal.verify_claims-requires
verify_claims-requires g c = record {
  range = g.met.P.MadeScheme.verifier_law _ _ _ c.made-scheme.result c.made-scheme.ensures c.in-Ok.ensures.range;
}

pub returns-clause-accepted : goal.returns-clause-accepted
returns-clause-accepted g c =
    let made = c.made-scheme.result in
    let n = c.args.num_random_codewords in
    let records = c.args.claims.now in
    accepted_by (fields g) g.P.Pcs.rules (λ d. d.shift) (λ d. d.log_size)
    (IsMadeFor g.P.MadeScheme.IsMade c.args.parameters.now n) (g.P.MadeScheme.begun n c.args.preprocessing)
    c.args.context.now c.args.parameters.now c.args.preprocessing records c.args.proof.now made
    (replicate 32 0, subst (λ p. g.P.MadeScheme.IsMade p n (replicate 32 0) made) c.in-Ok.ensures.parameters c.made-scheme.ensures)
    (record {
      bytes = c.in_ok-claims.ensures.context;
      range = subst (λ p. InVerifierRange p g.F.TwoAdicField.TWO_ADICITY 63) c.in-Ok.ensures.parameters c.in-Ok.ensures.range;
      claims = c.in_ok-claims.ensures.claims;
    })
    (map claim c.in_ok-claims.claims.items) c.in_ok-claims.ensures.numbers c.in_ok-claims.challenger
    (c.in_ok-claims.ensures.state
    ∙ ap (λ b. state_bound (fields g) b c.args.context.now c.args.parameters.now records) c.in_ok-begun.ensures)
    made (still_alike (g.P.Pcs.rules made)) _ _ (c.in_ok-verify_claims.ensures.accepted refl)
    (c.in_ok-verify_claims.ensures.state refl) c.in_ok-next_drawn.ensures

pub returns-in_err-verify_claims-clause-refused : goal.returns-in_err-verify_claims-clause-refused
returns-in_err-verify_claims-clause-refused g c =
    let made = c.made-scheme.result in
    let n = c.args.num_random_codewords in
    let records = c.args.claims.now in
    refused_part _ _ _ _ _ _ c.from_residual-in_err-verify_claims.ensures.1
    c.in_err-verify_claims.ensures.refused (λ never. absurd never)
    (refused_by (fields g) g.P.Pcs.rules (λ d. d.shift) (λ d. d.log_size)
    (IsMadeFor g.P.MadeScheme.IsMade c.args.parameters.now n) (g.P.MadeScheme.begun n c.args.preprocessing)
    c.args.context.now c.args.parameters.now c.args.preprocessing records c.args.proof.now made
    (replicate 32 0, subst (λ p. g.P.MadeScheme.IsMade p n (replicate 32 0) made) c.in-Ok.ensures.parameters c.made-scheme.ensures)
    (record {
      bytes = c.in_ok-claims.ensures.context;
      range = subst (λ p. InVerifierRange p g.F.TwoAdicField.TWO_ADICITY 63) c.in-Ok.ensures.parameters c.in-Ok.ensures.range;
      claims = c.in_ok-claims.ensures.claims;
    })
    (map claim c.in_ok-claims.claims.items) c.in_ok-claims.ensures.numbers c.in_ok-claims.challenger
    (c.in_ok-claims.ensures.state
    ∙ ap (λ b. state_bound (fields g) b c.args.context.now c.args.parameters.now records) c.in_ok-begun.ensures))

-- where nothing is answered nothing is said of the answer
pub returns-in_err-begun-clause-accepted : goal.returns-in_err-begun-clause-accepted
returns-in_err-begun-clause-accepted g c = IfOk-from_err c.from_residual.result _ c.from_residual.ensures.0

pub returns-in_err-begun-clause-refused : goal.returns-in_err-begun-clause-refused
returns-in_err-begun-clause-refused g c = statement_wants c.from_residual.result _ _ c.from_residual.ensures.1

pub returns-in_err-claims-clause-accepted : goal.returns-in_err-claims-clause-accepted
returns-in_err-claims-clause-accepted g c = IfOk-from_err c.from_residual-in_err-claims.result _ c.from_residual-in_err-claims.ensures.0

pub returns-in_err-verify_claims-clause-accepted : goal.returns-in_err-verify_claims-clause-accepted
returns-in_err-verify_claims-clause-accepted g c = IfOk-from_err c.from_residual-in_err-verify_claims.result _ c.from_residual-in_err-verify_claims.ensures.0

pub returns-in_err-next_drawn-clause-accepted : goal.returns-in_err-next_drawn-clause-accepted
returns-in_err-next_drawn-clause-accepted g c = IfOk-from_err c.from_residual-in_err-next_drawn.result _ c.from_residual-in_err-next_drawn.ensures.0

pub returns-in_err-next_drawn-clause-refused : goal.returns-in_err-next_drawn-clause-refused
returns-in_err-next_drawn-clause-refused g c = statement_wants c.from_residual-in_err-next_drawn.result _ _ c.from_residual-in_err-next_drawn.ensures.1
