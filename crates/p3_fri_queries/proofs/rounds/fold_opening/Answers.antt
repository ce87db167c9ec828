use Rattle.p3_fri_queries.proofs.rounds.fold_opening.Goals as goal

pub returns : goal.returns
returns g c = rw (c.input_at-input.ensures, c.siblings_of-siblings.ensures) at c.fold_round.ensures
