use Rattle.std.proofs.Common.{◌≡◌, List, All, map, take}
use Rattle.algebra.specs.Nested.{joined}
use Rattle.p3_pcs.specs.Claims.{opened_values}
use Rattle.p3_fri_openings.specs.Denominators.{ArePointsCovered}
use Rattle.p3_fri_openings.specs.declared.denominators.PointDenominators.{PointDenominators}
use Rattle.p3_fri_batch.specs.Rounds.{IsReady, as_opened, opened_by_round}
use Rattle.p3_fri_batch.proofs.opened.opened_matrices.Given as goal

abbrev pub invariant-loop-index : goal.invariant-loop-index
invariant-loop-index g l = record {
  opened : map as_opened l.opened.items
      ≡ joined (take l.index (opened_by_round l.rounds (opened_values l.values)));
  ready : (table : List (PointDenominators g.row.EF.Denot)) → All (ArePointsCovered table) l.rounds
      → All (IsReady g.F.TwoAdicField.TWO_ADICITY table) l.opened.items;
}
