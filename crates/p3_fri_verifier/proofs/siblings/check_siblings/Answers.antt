use Rattle.std.proofs.Common.{◌∙◌, ◌<◌, arith, length, get_or, refl}
use Rattle.std.proofs.lemmas.List.{length-map}
use Rattle.std.proofs.lemmas.Option.{slice_get_within}
use Rattle.std.proofs.lemmas.Result.{err_from_is_err_and}
use Rattle.p3_fri_relation.specs.TestRounds.{HasSiblings}
use Rattle.p3_fri_relation.specs.Views.{round_opened, rounds_opened}
use Rattle.p3_fri_verifier.specs.Counts.{SiblingFault}
use Rattle.p3_fri_verifier.proofs.Lists.{all_zip_from, all_zip_at, one_more, get_at}
use Rattle.p3_fri_verifier.proofs.RoundOpenings.{opened_at, at_opened}
use Rattle.p3_fri_verifier.proofs.siblings.check_siblings.Goals as goal

pub returns-in_err-check_round-clause-exact : goal.returns-in_err-check_round-clause-exact
returns-in_err-check_round-clause-exact g c =
    let i = c.loop-round.round in
    let o = c.index-openings-round.result in
    let l = c.loop-round-test.true in
    let within : i < length c.args.openings.now = omega (arith, l, c.requires.count) in
    let at = opened_at c.args.openings.now i o within c.index-openings-round.is in
    let p = err_from_is_err_and c.from_residual.result c.from_residual.ensures.1 in
    rw p.1 (
      (λ e. cc),
      (λ h.
          let wrong = c.in_err-check_round.ensures.exact.1 (all_zip_at (HasSiblings c.args.num_queries) c.args.log_arities.now
          (rounds_opened c.args.openings.now) h i (get_or c.args.log_arities.now i 0) (round_opened o)
          (get_at c.args.log_arities.now i 0 l) at) in cc),
    )

pub returns-in_err-check_round-clause-refusal : goal.returns-in_err-check_round-clause-refusal
returns-in_err-check_round-clause-refusal g c =
    let i = c.loop-round.round in
    let o = c.index-openings-round.result in
    let l = c.loop-round-test.true in
    let within : i < length c.args.openings.now = omega (arith, l, c.requires.count) in
    let p = err_from_is_err_and c.from_residual.result c.from_residual.ensures.1 in
    rw (p.1, p.2) (
      i,
      l,
      at_opened (λ r. SiblingFault c.args.num_queries (get_or c.args.log_arities.now i 0) i r c.in_err-check_round.field-0.0)
          c.args.openings.now i o within c.index-openings-round.is c.in_err-check_round.ensures.refusal,
    )

pub loop-round-preserved : goal.loop-round-preserved
loop-round-preserved g c =
    let i = c.loop-round.round in
    let o = c.index-openings-round.result in
    let l = c.loop-round-test.true in
    let within : i < length c.args.openings.now = omega (arith, l, c.requires.count) in
    one_more (HasSiblings c.args.num_queries) i c.args.log_arities.now (rounds_opened c.args.openings.now)
    (get_or c.args.log_arities.now i 0) (round_opened o) (get_at c.args.log_arities.now i 0 l)
    (opened_at c.args.openings.now i o within c.index-openings-round.is)
    (c.in_ok-check_round.ensures.exact.0 refl) c.loop-round.invariant

pub returns-clause-exact : goal.returns-clause-exact
returns-clause-exact g c = (
  (λ e. all_zip_from (HasSiblings c.args.num_queries) c.args.log_arities.now (rounds_opened c.args.openings.now)
      (length-map c.args.openings.now round_opened ∙ c.requires.count)
      (λ k x y p q. c.loop-round.invariant k x y (omega (arith, slice_get_within c.args.log_arities.now k x p, c.loop-round-test.false)) p q)),
  (λ h. refl),
)
