use Rattle.p3_stark_pcs_tests.proofs.evaluations.is_read.Goals as goal

-- there is room for the columns
pub commit-requires : goal.commit-requires
commit-requires g c = record {
  room = (g.met.P.Tested.room_law c.args.scheme c.requires).commit _ c.columns-evaluations.ensures;
}

pub can_read-requires : goal.can_read-requires
can_read-requires g c =
    (g.met.P.UnivariateStarkPcs.stark_law _).openable_readable _ c.in-Ok.ensures.openable
