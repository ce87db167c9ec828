use Rattle.fri_numbers.specs.Elements.{batch_of}
use Rattle.fri_flat.proofs.kept.commit_kept.Goals as goal

-- read as elements
pub returns-in_ok-commit_elements-in-Ok-clause-answered : goal.returns-in_ok-commit_elements-in-Ok-clause-answered
returns-in_ok-commit_elements-in-Ok-clause-answered g c = record {
  listed = batch_of g.F.PrimeField64.canonical c.in-Ok.matrices;
  is_asked = rw c.layout_of-layout.ensures at c.in-Ok.ensures.form;
  is_whole = rw c.layout_of-layout.ensures at c.in-Ok.ensures.whole;
  committed = c.in_ok-commit_elements-in-Ok.ensures.committed;
  kept = λ batches has.
      rw c.in_ok-commit_elements-in-Ok.ensures.parameters at (c.in_ok-commit_elements-in-Ok.ensures.kept batches has);
  commitments = c.in_ok-commit_elements-in-Ok.ensures.commitments;
}

-- and by numbers
pub returns-in_ok-commit-in-Err-clause-answered : goal.returns-in_ok-commit-in-Err-clause-answered
returns-in_ok-commit-in-Err-clause-answered g c = record {
  listed = c.in_ok-batch-in-Err.batch;
  is_asked = rw c.layout_of-layout.ensures at c.in_ok-batch-in-Err.ensures.form;
  is_whole = rw c.layout_of-layout.ensures at c.in_ok-batch-in-Err.ensures.whole;
  committed = c.in_ok-commit-in-Err.ensures.committed;
  kept = λ batches has. rw c.in_ok-commit-in-Err.ensures.parameters at (c.in_ok-commit-in-Err.ensures.kept batches has);
  commitments = c.in_ok-commit-in-Err.ensures.commitments;
}
