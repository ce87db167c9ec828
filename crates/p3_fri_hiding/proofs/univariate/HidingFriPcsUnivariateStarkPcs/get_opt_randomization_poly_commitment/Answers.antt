use Rattle.p3_fri_hiding.proofs.univariate.HidingFriPcsUnivariateStarkPcs.get_opt_randomization_poly_commitment.Goals as goal

pub returns-clause-kept : goal.returns-clause-kept
returns-clause-kept g c = c.get_opt_randomization_poly_commitment.ensures.kept
