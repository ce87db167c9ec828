use Rattle.p3_fri_hiding.proofs.univariate.HidingFriPcsUnivariateStarkPcs.get_evaluations_on_domain_no_random.Goals as goal

pub returns-clause-values : goal.returns-clause-values
returns-clause-values g c = c.get_evaluations_on_domain_no_random.ensures.values
