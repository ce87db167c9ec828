use Rattle.p3_fri_opening_verifier.proofs.seeded.test_inside.Goals as goal

-- the challenger is lent in the transcript's state
pub returns-in-Err-clause-refusal : goal.returns-in-Err-clause-refusal
returns-in-Err-clause-refusal g c =
    rw c.begin_delegate.ensures.value at c.in-Err.ensures.refusal
