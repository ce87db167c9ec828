use Rattle.std.proofs.Common.{◌≡◌, ◌∙◌, ℕ, List, Result, Ok, Err, subst}
use Rattle.std.specs.Prelude.{IfOk, string_bytes}
use Rattle.std.specs.Global.{Global}
use Rattle.std.specs.declared.vec.Vec.{Vec}
use Rattle.p3_fri_relation.specs.Views.{proof_of}
use Rattle.p3_fri_plain.specs.Views.{proof_listed}
use Rattle.fri_records.specs.declared.records.BatchClaims.{BatchClaims}
use Rattle.fri_records.specs.declared.fault.VerifyError.{VerifyError}
use Rattle.fri_statement.specs.Setting.{SchemeFields}
use Rattle.fri_verification.proofs.Fields.{fields_of}
use Rattle.fri_requests.specs.Accepted.{IsAccepted}
use Rattle.fri_flat.specs.declared.statement.Statement.{Statement}
use Rattle.fri_flat.specs.Answers.{VectorProof, numbers_of, IsAcceptedStatement}
use Rattle.fri_flat.proofs.ProofNumbers.{numbers-proof_of}
use Rattle.fri_flat.proofs.calls.verify_statement.Given.{Over}
use Rattle.fri_flat.proofs.calls.verify_statement.Goals as goal

abbrev fields : (g : Over) → SchemeFields g.row.F.Denot g.row.F-Extension.Denot
fields g = fields_of g.F.Field g.F.PrimeField64 g.F.TwoAdicField g.F.ElementBytes
    g.F.Extension.Field g.F.Extension.ExtensionField g.F.Extension.ElementBytes

-- what is verified is what the statement says
accepted : {F E : Type 0} (f : SchemeFields F E) (s : Statement) (said : List ℕ)
    (read : List BatchClaims) (proof : VectorProof F E)
    (verified : Result (Vec ℕ Global) VerifyError) → said ≡ string_bytes s.context
    → read ≡ s.claims.items → numbers_of f proof ≡ proof_listed s.proof
    → IfOk verified (λ next. IsAccepted f said s.parameters read proof next.items)
    → IfOk verified (λ next. IsAcceptedStatement f s next.items)
accepted f s said read proof (Ok next) is_text same listed holds = record {
  proof = proof;
  numbers = listed;
  accepted = subst (λ t. IsAccepted f t s.parameters s.claims.items proof next.items) is_text
      (subst (λ cs. IsAccepted f said s.parameters cs proof next.items) same holds);
}
accepted f s said read proof (Err e) is_text same listed holds = tt

pub returns : goal.returns
returns g c = accepted (fields g) c.args.statement c.deref.result.now c.deref-2.result.now
    (proof_of c.in_ok-proof.proof) c.verify.result c.deref.ensures c.deref-2.ensures.value
    (numbers-proof_of (fields g) c.in_ok-proof.proof ∙ c.in_ok-proof.ensures.ok)
    c.verify.ensures.accepted
