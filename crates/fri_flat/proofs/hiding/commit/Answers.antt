use Rattle.fri_flat.proofs.hiding.commit.Goals as goal

pub returns : goal.returns
returns g c = record {
  asked = c.in_ok-asked.asked;
  marked = c.in_ok-request.request;
  asks = record {
    is_asked = rw c.layout_of-layout.ensures at c.in_ok-asked.ensures.form;
    is_whole = rw c.layout_of-layout.ensures at c.in_ok-asked.ensures.whole;
    is_marked = c.in_ok-request.ensures;
  };
  commitments = c.in-Ok.commitments.items;
  committed = c.in-Ok.ensures.committed;
  is_answer = cc (c.in_ok-answer.ensures, c.deref.ensures.value);
}
