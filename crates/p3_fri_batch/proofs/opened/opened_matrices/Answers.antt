use Rattle.std.proofs.Common.{◌<◌, ◌≤◌, ◌++◌, length, map, sym, subst, ap, ap₂, ◌∙◌, arith}
use Rattle.std.proofs.lemmas.List.{length-map, take_all}
use Rattle.std.proofs.lemmas.Slice.Zip.{AllZip-long}
use Rattle.algebra.specs.Nested.{nested, joined}
use Rattle.p3_pcs.specs.Claims.{opened_values}
use Rattle.p3_pcs.proofs.Zipped.{entry_of_zip_with, within_zip_with, length_of_zip_with}
use Rattle.p3_fri_openings.specs.Denominators.{ArePointsCovered}
use Rattle.p3_fri_openings.specs.Rounds.{IsRound}
use Rattle.p3_fri_openings.proofs.First.{at_item}
use Rattle.p3_fri_batch.specs.Rounds.{HaveValues, as_opened, opened_in, opened_by_round}
use Rattle.p3_fri_batch.proofs.Collected.{all_zip_at, joined_more}
use Rattle.algebra.proofs.Lists.{entry_of_map}
use Rattle.p3_fri_batch.proofs.opened.opened_matrices.Goals as goal

pub bounds-values-index : goal.bounds-values-index
bounds-values-index g c =
    let one : c.loop-index.index < length c.args.rounds.now = omega arith in
    omega (
      arith,
      one,
      AllZip-long HaveValues c.args.rounds.now (opened_values c.args.values.now)
          c.requires.values,
      length-map c.args.values.now (λ v. nested v.items),
    )

pub push_round-requires-clause-values : goal.push_round-requires-clause-values
push_round-requires-clause-values g c =
    let i = c.loop-index.index in
    let one : i < length c.args.rounds.now = omega arith in
    let two : i < length c.args.values.now =
    omega (
      arith,
      one,
      AllZip-long HaveValues c.args.rounds.now (opened_values c.args.values.now)
          c.requires.values,
      length-map c.args.values.now (λ v. nested v.items),
    ) in
    let vs = c.index-values-index.result in
    subst (λ ys. HaveValues c.index-rounds-index.result (nested ys)) (sym c.deref.ensures.value)
    (all_zip_at HaveValues c.args.rounds.now (opened_values c.args.values.now) i
    c.index-rounds-index.result (nested vs.items)
    c.requires.values one c.index-rounds-index.is
    (entry_of_map (λ v. nested v.items) c.args.values.now i vs two c.index-values-index.is))

pub loop-index-preserved : goal.loop-index-preserved
loop-index-preserved g c =
    let i = c.loop-index.index in
    let rounds = c.args.rounds.now in
    let values = opened_values c.args.values.now in
    let one : i < length rounds = omega arith in
    let three : i < length values = omega
    (arith, one, AllZip-long HaveValues rounds values c.requires.values) in
    let two : i < length c.args.values.now = omega
    (arith, three, length-map c.args.values.now (λ v. nested v.items)) in
    let round = c.index-rounds-index.result in
    let vs = c.index-values-index.result in
    let part = opened_in round (nested vs.items) in
    record {
      opened = c.in_ok-push_round.ensures.opened
          ∙ ap₂ (λ xs ys. xs ++ opened_in round (nested ys)) c.loop-index.invariant.opened
          c.deref.ensures.value
          ∙ sym (joined_more (opened_by_round rounds values) i part
          (within_zip_with opened_in rounds values i one three)
          (entry_of_zip_with opened_in rounds values i round (nested vs.items) one three
          c.index-rounds-index.is
          (entry_of_map (λ v. nested v.items) c.args.values.now i vs two c.index-values-index.is)));
      ready = λ table covered. c.in_ok-push_round.ensures.ready table
          (at_item (ArePointsCovered table) rounds i round one c.index-rounds-index.is covered)
          (c.loop-index.invariant.ready table covered);
    }

pub returns-clause-opened : goal.returns-clause-opened
returns-clause-opened g c =
    let rounds = c.args.rounds.now in
    let values = opened_values c.args.values.now in
    let last : length rounds ≤ c.loop-index.index = omega arith in
    c.loop-index.invariant.opened
    ∙ ap joined (take_all c.loop-index.index (opened_by_round rounds values)
    (length_of_zip_with opened_in rounds values c.loop-index.index (omega (arith, last))))

pub loop-index-init : goal.loop-index-init
loop-index-init g c =
    let none = c.new-opened.ensures.items in
    record {
      opened = ap (map as_opened) none;
      ready = λ _ _ k d l. absurd (omega (arith, l, ap length none));
    }

pub push_round-requires-clause-round : goal.push_round-requires-clause-round
push_round-requires-clause-round g c =
    at_item (IsRound g.F.TwoAdicField.TWO_ADICITY) c.args.rounds.now c.loop-index.index c.index-rounds-index.result
    c.loop-index-test.true c.index-rounds-index.is c.requires.rounds
