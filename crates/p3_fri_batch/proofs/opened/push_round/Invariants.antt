use Rattle.std.proofs.Common.{◌≡◌, ◌++◌, List, All, map, take}
use Rattle.algebra.specs.Nested.{nested}
use Rattle.p3_fri_openings.specs.Denominators.{ArePointsCovered}
use Rattle.p3_fri_openings.specs.declared.denominators.PointDenominators.{PointDenominators}
use Rattle.p3_fri_batch.specs.Rounds.{IsReady, as_opened, opened_in}
use Rattle.p3_fri_batch.proofs.opened.push_round.Given as goal

abbrev pub invariant-loop-index : goal.invariant-loop-index
invariant-loop-index g l = record {
  opened : map as_opened l.opened.items
      ≡ map as_opened l.initial.opened.items ++ take l.index (opened_in l.round (nested l.values));
  ready : (table : List (PointDenominators g.row.EF.Denot)) → ArePointsCovered table l.round
      → All (IsReady g.F.TwoAdicField.TWO_ADICITY table) l.initial.opened.items
      → All (IsReady g.F.TwoAdicField.TWO_ADICITY table) l.opened.items;
}
