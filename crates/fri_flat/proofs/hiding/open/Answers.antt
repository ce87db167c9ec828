use Rattle.std.proofs.Common.{◌≡◌, refl, sym, subst}
use Rattle.fri_flat.specs.declared.hiding_forms.HidingStatement.{HidingStatement}
use Rattle.fri_flat.specs.declared.layout.Layout.{Layout}
use Rattle.fri_flat.specs.Hiding.{hiding_request, IsHidingRequest, hiding_answer}
use Rattle.fri_flat.proofs.Marked.{one_index}
use Rattle.fri_flat.proofs.hiding.open.Goals as goal

pub returns : goal.returns
returns g c =
    let asked = c.in_ok-asked.asked in
    let marked = c.in_ok-request.request in
    let opening = c.in-Ok.opening in
    let next = opening.next_challenge.items in
    let answered : HidingStatement = record {
      num_random_codewords = asked.masking.num_random_codewords;
      preprocessed = opening.preprocessing;
      context = marked.context;
      parameters = marked.parameters;
      claims = opening.claims;
      proof = c.in_ok-hiding_to_plain.field-0;
    } in
    record {
      asked = asked;
      marked = marked;
      asks = record {
        is_asked = subst (λ (l : Layout). c.args.bytes.now ≡ hiding_request l asked)
            c.layout_of-layout.ensures c.in_ok-asked.ensures.form;
        is_whole = subst (λ (l : Layout). IsHidingRequest l asked) c.layout_of-layout.ensures
            c.in_ok-asked.ensures.whole;
        is_marked = c.in_ok-request.ensures;
      };
      answered = answered;
      next_challenge = next;
      codewords = refl;
      index = one_index opening.preprocessing asked.preprocessed marked.commitments.items
          c.in-Ok.ensures.named c.in_ok-request.ensures.named;
      context = refl;
      parameters = refl;
      opened = c.in-Ok.ensures.opened;
      accepted = record {
        proof = opening.proof;
        numbers = sym c.in_ok-hiding_to_plain.ensures.numbers;
        accepted = c.in-Ok.ensures.accepted;
      };
      is_answer = subst
          (λ (l : Layout). c.in_ok-answer.answer.items ≡ hiding_answer l next answered)
          c.layout_of-layout.ensures c.in_ok-answer.ensures;
    }
