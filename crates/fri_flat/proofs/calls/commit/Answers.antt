use Rattle.fri_flat.proofs.calls.commit.Goals as goal

pub returns : goal.returns
returns g c = record {
  asked = c.in_ok-request.request;
  commitments = c.in-Ok.commitments.items;
  is_asked = rw c.layout_of-layout.ensures at c.in_ok-request.ensures.form;
  is_whole = rw c.layout_of-layout.ensures at c.in_ok-request.ensures.whole;
  committed = c.in-Ok.ensures.committed;
  is_answer = cc (c.in_ok-answer.ensures, c.deref.ensures.value);
}
