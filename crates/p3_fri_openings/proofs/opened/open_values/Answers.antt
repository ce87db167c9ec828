use Rattle.std.proofs.Common.{◌++◌, ◌∷◌, [], ap, ◌∙◌}
use Rattle.std.proofs.lemmas.List.{map-append}
use Rattle.algebra.specs.Nested.{nested}
use Rattle.p3_pcs.specs.Claims.{opened_values}
use Rattle.p3_fri_relation.specs.Setting.{Fields}
use Rattle.p3_fri_openings.specs.Denominators.{ArePointsCovered, HoldsCosets}
use Rattle.p3_fri_openings.specs.Opened.{values_asked}
use Rattle.p3_fri_openings.specs.Refusals.{ArePointsOff}
use Rattle.p3_fri_openings.specs.Rounds.{IsRound}
use Rattle.p3_fri_openings.proofs.First.{at_item}
use Rattle.algebra.proofs.Growing.{mapped_next, mapped_end}
use Rattle.p3_fri_openings.proofs.opened.open_values.Given.{Over}
use Rattle.p3_fri_openings.proofs.opened.open_values.Goals as goal

abbrev fields_of : (g : Over) → Fields g.row.F.Denot g.row.EF.Denot
fields_of g = record {
  base = g.F.Field.ops;
  ext = g.EF.Field.ops;
  lift = g.EF.ExtensionField.lift;
  coefficients = g.EF.ExtensionField.coefficients;
  degree = g.EF.ExtensionField.DIMENSION;
  root = g.F.TwoAdicField.root;
  two_adicity = g.F.TwoAdicField.TWO_ADICITY;
  shift = g.F.Field.GENERATOR;
}

pub values_of_round-requires-clause-round : goal.values_of_round-requires-clause-round
values_of_round-requires-clause-round g c =
    let rounds = c.args.rounds.now in
    let i = c.loop-round.round-index in
    let round = c.round-item.result in
    at_item (IsRound g.F.TwoAdicField.TWO_ADICITY) rounds i round c.loop-round-test.true
    c.round-item.is c.requires.rounds

pub values_of_round-requires-clause-off : goal.values_of_round-requires-clause-off
values_of_round-requires-clause-off g c =
    let f = fields_of g in
    let rounds = c.args.rounds.now in
    let i = c.loop-round.round-index in
    let round = c.round-item.result in
    at_item (ArePointsOff f) rounds i round c.loop-round-test.true c.round-item.is
    c.requires.off

pub values_of_round-requires-clause-coset : goal.values_of_round-requires-clause-coset
values_of_round-requires-clause-coset g c =
    let f = fields_of g in
    let rounds = c.args.rounds.now in
    let i = c.loop-round.round-index in
    let round = c.round-item.result in
    let d = c.args.denominators.now in
    at_item (HoldsCosets f d.coset.items) rounds i round c.loop-round-test.true
    c.round-item.is c.requires.coset

pub values_of_round-requires-clause-covered : goal.values_of_round-requires-clause-covered
values_of_round-requires-clause-covered g c =
    let rounds = c.args.rounds.now in
    let i = c.loop-round.round-index in
    let round = c.round-item.result in
    let d = c.args.denominators.now in
    at_item (ArePointsCovered d.entries.items) rounds i round c.loop-round-test.true
    c.round-item.is c.requires.covered

pub loop-round-preserved : goal.loop-round-preserved
loop-round-preserved g c =
    let f = fields_of g in
    let old = c.loop-round.values.items in
    let new = c.in_ok-values_of_round.field-0 in
    mapped_next (values_asked f c.args.log_blowup) c.args.rounds.now c.loop-round.round-index
    c.round-item.result [] (opened_values old) (opened_values c.push.new.self.items)
    c.loop-round-test.true c.round-item.is c.loop-round.invariant
    (ap opened_values c.in_ok-push.ensures.items ∙ map-append (λ v. nested v.items) old (new ∷ [])
    ∙ ap (λ v. opened_values old ++ v ∷ []) c.in_ok-values_of_round.ensures)

pub returns : goal.returns
returns g c =
    let f = fields_of g in
    mapped_end (values_asked f c.args.log_blowup) c.args.rounds.now c.loop-round.round-index []
    (opened_values c.loop-round.values.items) c.loop-round-test.false c.loop-round.invariant
