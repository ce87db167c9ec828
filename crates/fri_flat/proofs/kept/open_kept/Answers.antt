use Rattle.std.proofs.Common.{map, refl, sym, subst, ◌∙◌}
use Rattle.std.specs.Prelude.{string_bytes}
use Rattle.std.specs.List.{AllZip}
use Rattle.p3_fri_relation.specs.Views.{proof_of}
use Rattle.fri_requests.specs.Accepted.{IsAccepted}
use Rattle.fri_numbers.specs.Claims.{batch_listed}
use Rattle.fri_prover.specs.Keeping.{AskFor, batches_at}
use Rattle.fri_requests.specs.Opened.{IsOpened}
use Rattle.fri_statement.specs.Setting.{SchemeFields}
use Rattle.fri_verification.proofs.Fields.{fields_of}
use Rattle.fri_flat.proofs.ProofNumbers.{numbers-proof_of}
use Rattle.fri_flat.proofs.kept.open_kept.Given.{Over}
use Rattle.fri_flat.proofs.kept.open_kept.Goals as goal

abbrev fields : (g : Over) → SchemeFields g.row.F.Denot g.row.F-Extension.Denot
fields g = fields_of g.F.Field g.F.PrimeField64 g.F.TwoAdicField g.F.ElementBytes
    g.F.Extension.Field g.F.Extension.ExtensionField g.F.Extension.ElementBytes

pub returns-clause-answered : goal.returns-clause-answered
returns-clause-answered g c =
    let asked = c.in_ok-asked.asked in
    let opening = c.in_ok-opening.opening in
    let prover = c.args.prover.now in
    let is = c.in_ok-opening.ensures in
    let same = c.parameters.ensures ∙ is.parameters in
    record {
      request = asked;
      answered = record {
        context = asked.context;
        parameters = c.parameters.result;
        claims = opening.claims;
        proof = c.in_ok-to_plain.field-0;
      };
      next_challenge = opening.next_challenge.items;
      is_asked = rw c.layout_of-layout.ensures at c.in_ok-asked.ensures.form;
      is_whole = rw c.layout_of-layout.ensures at c.in_ok-asked.ensures.whole;
      context = refl;
      same = same;
      opens = λ batches has. record {
        asks = subst (λ bs. AskFor batches bs) c.deref-2.ensures.value (is.well_formed batches has).named;
        opened = subst (λ bs. AllZip (IsOpened (fields g) prover.parameters.log_blowup)
            (map batch_listed opening.claims.items) (batches_at batches bs))
            c.deref-2.ensures.value (is.opened batches has);
        commitments = is.commitments batches has;
        accepted = record {
          proof = proof_of opening.proof;
          numbers = numbers-proof_of (fields g) opening.proof
              ∙ sym c.in_ok-to_plain.ensures.numbers;
          accepted = subst (λ p. IsAccepted (fields g) (string_bytes asked.context) p
              opening.claims.items (proof_of opening.proof) opening.next_challenge.items)
              (sym same)
              (subst (λ t. IsAccepted (fields g) t prover.parameters opening.claims.items
              (proof_of opening.proof) opening.next_challenge.items)
              c.deref.ensures (is.accepted batches has));
        };
      };
      is_answer = rw c.layout_of-layout.ensures at c.in_ok-answer.ensures;
    }
