use Rattle.std.proofs.Common.{arith}
use Rattle.std.proofs.lemmas.Grind.{common_steps}
use Rattle.p3_test_openings.proofs.Known.{one_matrix}
use Rattle.fri_bench.proofs.schemes.time_calls.Goals as goal

pub open-opened-requires-clause-range : goal.open-opened-requires-clause-range
open-opened-requires-clause-range g c =
    (g.met.P.Pcs.keeps_law _ _ c.in-Ok.ensures.kept).prover_range c.requires.prover

pub open-opened-requires-clause-shape : goal.open-opened-requires-clause-shape
open-opened-requires-clause-shape g c =
    let one = one_matrix _ _ (g.met.P.Pcs.rules_law _).extends_size _ _ _
    c.in_ok-evaluations.ensures c.in-Ok.ensures.extends in
    let openable = c.in-Ok.ensures.openable in
    let points = c.in_ok-alone.ensures in
    let is = c.in_ok-requests.ensures in
    let same = c.as_mut_slice.ensures.value in
    grind (arith, common_steps, one, openable, points, is, same)

pub verify-verified-requires : goal.verify-verified-requires
verify-verified-requires g c = record {
  range = (g.met.P.Pcs.keeps_law _ _ c.in-Ok.ensures.kept).verifier_range c.requires.verifier;
}
