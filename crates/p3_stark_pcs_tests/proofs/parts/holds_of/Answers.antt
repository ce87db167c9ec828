use Rattle.p3_stark_pcs_tests.proofs.parts.holds_of.Goals as goal

pub get_opt_randomization_poly_commitment-requires :
    goal.get_opt_randomization_poly_commitment-requires
get_opt_randomization_poly_commitment-requires g c = record {
  room = (g.met.P.Tested.room_law c.made-scheme.result c.made-scheme.ensures.tested).randomize _;
}
