use Rattle.std.proofs.Common.{refl, sym, ◌∙◌}
use Rattle.p3_fri_relation.specs.Views.{proof_of}
use Rattle.fri_statement.specs.Setting.{SchemeFields}
use Rattle.fri_verification.proofs.Fields.{fields_of}
use Rattle.fri_flat.proofs.ProofNumbers.{numbers-proof_of}
use Rattle.fri_flat.proofs.calls.open.Given.{Over}
use Rattle.fri_flat.proofs.calls.open.Goals as goal

abbrev fields : (g : Over) → SchemeFields g.row.F.Denot g.row.F-Extension.Denot
fields g = fields_of g.F.Field g.F.PrimeField64 g.F.TwoAdicField g.F.ElementBytes
    g.F.Extension.Field g.F.Extension.ExtensionField g.F.Extension.ElementBytes

pub returns : goal.returns
returns g c = record {
  asked = c.in_ok-request.request;
  answered = record {
    context = c.in_ok-request.request.context;
    parameters = c.in_ok-request.request.parameters;
    claims = c.in-Ok.opening.claims;
    proof = c.in_ok-to_plain.field-0;
  };
  next_challenge = c.in-Ok.opening.next_challenge.items;
  is_asked = rw c.layout_of-layout.ensures at c.in_ok-request.ensures.form;
  is_whole = rw c.layout_of-layout.ensures at c.in_ok-request.ensures.whole;
  context = refl;
  parameters = refl;
  opened = c.in-Ok.ensures.opened;
  accepted = record {
    proof = proof_of c.in-Ok.opening.proof;
    numbers = numbers-proof_of (fields g) c.in-Ok.opening.proof
        ∙ sym c.in_ok-to_plain.ensures.numbers;
    accepted = c.in-Ok.ensures.accepted;
  };
  is_answer = rw c.layout_of-layout.ensures at c.in_ok-answer.ensures;
}
