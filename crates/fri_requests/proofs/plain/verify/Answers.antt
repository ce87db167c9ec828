use Rattle.std.proofs.Common.{refl}
use Rattle.std.proofs.lemmas.Result.{IfOk-weaker, IfErr-weaker}
use Rattle.p3_fri_openings.specs.SchemeClaims.{relation_claims}
use Rattle.p3_fri_relation.specs.Views.{parameters_of, proof_of}
use Rattle.p3_challenger_sha256.specs.Sha256.{start}
use Rattle.fri_statement.specs.Setting.{SchemeFields}
use Rattle.fri_verification.specs.Bound.{state_bound}
use Rattle.fri_numbers.proofs.Failed.{statement_weaker}
use Rattle.fri_numbers.proofs.Listed.{HaveNumbers, claims_again}
use Rattle.fri_requests.proofs.Stated.{accepted, refused}
use Rattle.fri_verification.proofs.Fields.{fields_of}
use Rattle.fri_requests.proofs.plain.verify.Given.{Over}
use Rattle.fri_requests.proofs.plain.verify.Goals as goal

abbrev fields : (g : Over) → SchemeFields g.row.F.Denot g.row.F-Extension.Denot
fields g = fields_of g.F.Field g.F.PrimeField64 g.F.TwoAdicField g.F.ElementBytes
    g.F.Extension.Field g.F.Extension.ExtensionField g.F.Extension.ElementBytes

numbered : (g : Over) → HaveNumbers (fields g)
numbered g = record {
  below = g.met.F.PrimeField64.canonical_below;
  again = g.met.F.PrimeField64.multiple_canonical;
  numbers = g.met.F.PrimeField64.canonical_multiple;
  count = g.met.F.Extension.ExtensionField.dimension_law;
  same = g.met.F.Extension.ExtensionField.coefficients_injective;
  made = g.met.F.Extension.ExtensionField.of_coefficients_law;
}

pub returns-clause-accepted : goal.returns-clause-accepted
returns-clause-accepted g c =
    IfOk-weaker c.verify.result _ _ (λ next h.
    accepted (fields g) c.args.context.now c.args.parameters.now c.args.claims.now (proof_of c.args.proof.now)
    (parameters_of h.stated.scheme.fri) (relation_claims (λ d. d.log_size) h.stated.claims)
    (state_bound (fields g) start c.args.context.now c.args.parameters.now c.args.claims.now) h.stated.is_of.1
    (claims_again (fields g) (numbered g) (λ d. d.shift) (λ d. d.log_size) h.stated.claims c.args.claims.now h.stated.listed) refl
    h.stated.statement _ next.items h.holds refl h.drawn)
    c.verify.ensures.accepted

pub returns-clause-refused : goal.returns-clause-refused
returns-clause-refused g c =
    IfErr-weaker c.verify.result _ _ (statement_weaker _ _ _ _ (λ fails. fails) (λ e h.
    refused (fields g) c.args.context.now c.args.parameters.now c.args.claims.now (proof_of c.args.proof.now)
    (parameters_of h.stated.scheme.fri) (relation_claims (λ d. d.log_size) h.stated.claims)
    (state_bound (fields g) start c.args.context.now c.args.parameters.now c.args.claims.now) h.stated.is_of.1
    (claims_again (fields g) (numbered g) (λ d. d.shift) (λ d. d.log_size) h.stated.claims c.args.claims.now h.stated.listed) refl
    h.stated.statement e (h.fails, h.fault)))
    c.verify.ensures.refused
