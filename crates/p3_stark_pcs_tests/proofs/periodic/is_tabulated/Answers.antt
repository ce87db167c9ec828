use Rattle.std.proofs.Common.{arith}
use Rattle.std.proofs.lemmas.Grind.{common_steps}
use Rattle.p3_stark_pcs_tests.proofs.periodic.is_tabulated.Goals as goal

pub build_periodic_lde_table-made-requires : goal.build_periodic_lde_table-made-requires
build_periodic_lde_table-made-requires g c =
    let room = g.met.P.Tested.room_law c.args.scheme c.requires in
    let trace = room.sizes c.coset-trace.result in
    let domain = room.sizes c.coset-domain.result in
    record { larger = grind (arith, common_steps, trace, domain) }
