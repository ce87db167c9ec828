use Rattle.std.proofs.Common.{◌≡◌, ◌<◌, ◌≤◌, ◌++◌, length, map, get_or, sym, ap, ◌∙◌, arith}
use Rattle.std.proofs.lemmas.List.{length-map}
use Rattle.std.proofs.lemmas.Slice.Zip.{AllZip-long}
use Rattle.algebra.specs.Nested.{lists, nested}
use Rattle.p3_fri_openings.specs.Rounds.{asked_in}
use Rattle.p3_fri_batch.specs.Rounds.{HasValues, as_opened}
use Rattle.p3_fri_batch.proofs.Collected.{asked_within, opened_more, ready_more}
use Rattle.p3_fri_batch.proofs.Collected.{opened_whole}
use Rattle.algebra.proofs.Lists.{entry_of_map}
use Rattle.p3_fri_batch.proofs.opened.push_round.Goals as goal

pub bounds-values-index : goal.bounds-values-index
bounds-values-index g c =
    let round = c.args.round.now in
    let i = c.loop-index.index in
    let count = length-map round.points.now (λ v. v.items) in
    let one : i < length round.matrices.now = omega arith in
    let two : i < length (lists round.points.now) = omega
    (arith, one, count, c.requires.round.lists_of_points) in
    let within = asked_within round.matrices.now (lists round.points.now) (nested c.args.values.now)
    i one two in
    omega (
      arith,
      within,
      AllZip-long HasValues (asked_in round) (nested c.args.values.now) c.requires.values,
      length-map c.args.values.now (λ v. lists v.items),
    )

pub loop-index-preserved : goal.loop-index-preserved
loop-index-preserved g c =
    let round = c.args.round.now in
    let i = c.loop-index.index in
    let matrices = round.matrices.now in
    let points = lists round.points.now in
    let values = nested c.args.values.now in
    let count = length-map round.points.now (λ v. v.items) in
    let one : i < length matrices = omega arith in
    let listed : i < length round.points.now = omega
    (arith, one, c.requires.round.lists_of_points) in
    let two : i < length points = omega (arith, listed, count) in
    let within = asked_within matrices points values i one two in
    let three : i < length values =
    omega (arith, within, AllZip-long HasValues (asked_in round) values c.requires.values) in
    let long : i < length c.args.values.now = omega
    (arith, three, length-map c.args.values.now (λ v. lists v.items)) in
    let zs = c.index-round-index-in-loop-index.result in
    let ys = c.index-values-index.result in
    let z = entry_of_map (λ v. v.items) round.points.now i zs listed
    c.index-round-index-in-loop-index.is in
    let y = entry_of_map (λ v. lists v.items) c.args.values.now i ys long c.index-values-index.is in
    let r = c.index-round-index.result in
    let m : get_or matrices i r ≡ get_or matrices i (get_or matrices i r) =
    ap (λ u. get_or matrices i u) c.index-round-index.is in
    let same_points : c.as_slice.result.now ≡ zs.items =
    c.as_slice.ensures.value ∙ ap (λ v. v.items) (sym c.index-round-index-in-loop-index.is) in
    let same_values : lists c.as_slice-in-loop-index.result.now ≡ lists ys.items =
    ap (λ vs. lists vs) c.as_slice-in-loop-index.ensures.value in
    record {
      opened = opened_more matrices points values i one two three _ zs.items (lists ys.items)
          m z y same_points same_values
          c.loop-index.opened.items c.push.new.self.items (map as_opened c.args.opened.now.items)
          c.in_ok-push.ensures.items c.loop-index.invariant.opened;
      ready = λ table covered before. ready_more matrices points values i one two three _ zs.items
          (lists ys.items)
          m z y same_points same_values
          g.F.TwoAdicField.TWO_ADICITY table c.loop-index.opened.items c.push.new.self.items
          c.in_ok-push.ensures.items (c.loop-index.invariant.ready table covered before)
          c.requires.round.cosets c.requires.values covered;
    }

pub returns-clause-opened : goal.returns-clause-opened
returns-clause-opened g c =
    let round = c.args.round.now in
    let last : length round.matrices.now ≤ c.loop-index.index = omega arith in
    c.loop-index.invariant.opened
    ∙ ap (λ ms. map as_opened c.args.opened.now.items ++ ms)
    (opened_whole round.matrices.now (lists round.points.now) (nested c.args.values.now)
    c.loop-index.index last)
