use Rattle.p3_fri_hiding.proofs.pcs.HidingFriPcsPcs.commit.Goals as goal

pub returns-clause-kept : goal.returns-clause-kept
returns-clause-kept g c = c.commit.ensures.kept
