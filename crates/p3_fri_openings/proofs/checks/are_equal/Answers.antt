use Rattle.p3_fri_openings.proofs.checks.are_equal.Goals as goal

pub returns : goal.returns
returns g c = rw c.eq.ensures (g.met.F.Field.eq_law c.args.a c.args.b)
