use Rattle.p3_fri_hiding.proofs.univariate.HidingFriPcsUnivariateStarkPcs.commit_ldes.Goals as goal

pub returns-clause-honest : goal.returns-clause-honest
returns-clause-honest g c = c.commit_ldes.ensures.honest

pub returns-clause-openable : goal.returns-clause-openable
returns-clause-openable g c = c.commit_ldes.ensures.openable
