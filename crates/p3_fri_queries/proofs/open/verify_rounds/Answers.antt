use Rattle.std.proofs.Common.{◌-◌, get_or, refl, ap, arith, below_more}
use Rattle.std.proofs.lemmas.Grind.{common_steps}
use Rattle.algebra.specs.Nested.{lists, nested}
use Rattle.p3_fri_relation.specs.Views.{round_opened, rows_collected}
use Rattle.p3_fri_queries.proofs.QueryRefusals.{handed_on, refused}
use Rattle.p3_fri_queries.proofs.Heights.{height_here, height_next}
use Rattle.p3_fri_queries.proofs.Openings.{OpensAt, IsRead, opens_read, rounds_all, rounds_none}
use Rattle.p3_fri_queries.proofs.Openings.{round_fails}
use Rattle.p3_fri_queries.proofs.Refusals.{failed}
use Rattle.p3_fri_queries.proofs.open.verify_rounds.Given.{Over}
use Rattle.p3_fri_queries.proofs.open.verify_rounds.Goals.{After-index-openings-round}
use Rattle.p3_fri_queries.proofs.open.verify_rounds.Goals as goal

-- what is read of the loop's round
read : (g : Over) (c : After-index-openings-round g)
    → let k = c.loop-round.round in
    IsRead (g.M.Mmcs.opens c.args.mmcs.now) c.args.log_arities.now c.args.log_global_max_height
    (lists c.args.folded.now.group_indices_by_round.items)
    (rows_collected c.args.folded.now.rows_by_round.items) c.args.commitments.now
    (λ o. round_opened o) c.args.openings.now k c.index-commitments-round.result
    (get_or c.args.openings.now k c.index-openings-round.result)
    (get_or c.args.log_arities.now k 0)
    (c.loop-round.log_height - get_or c.args.log_arities.now k 0) c.group_indices.result.now
    (nested c.rows.result.now)
read g c = record {
  count_commitments = c.requires.commitments;
  count_openings = c.requires.openings;
  below = omega arith;
  commitment_is = c.index-commitments-round.is;
  opening_is = ap (λ (o : _). get_or c.args.openings.now c.loop-round.round o)
      c.index-openings-round.is;
  log_arity_is = refl;
  height_is = height_here c.args.log_arities.now c.args.log_global_max_height c.loop-round.round
      c.loop-round.log_height (omega arith) c.loop-round.invariant.height;
  indices_are = c.group_indices.ensures;
  sets_are = c.rows.ensures;
}

pub verify_round-requires-clause-below : goal.verify_round-requires-clause-below
verify_round-requires-clause-below g c =
    let here =
    read g (goal.at.verify_round-requires-clause-below g c).After-index-openings-round in
    rw (here.height_is, here.indices_are) (c.requires.below c.loop-round.round here.below)

pub loop-round-preserved : goal.loop-round-preserved
loop-round-preserved g c =
    let here = read g (goal.at.loop-round-preserved g c).After-index-openings-round in
    record {
      height = height_next c.args.log_arities.now c.args.log_global_max_height c.loop-round.round
          c.loop-round.log_height here.below c.loop-round.invariant.height;
      left = grind (arith, common_steps);
      low = omega arith;
      opened = below_more (OpensAt (g.M.Mmcs.opens c.args.mmcs.now) c.args.log_arities.now
          c.args.log_global_max_height (lists c.args.folded.now.group_indices_by_round.items)
          (rows_collected c.args.folded.now.rows_by_round.items) c.args.commitments.now
          (λ o. round_opened o) c.args.openings.now) c.loop-round.round
          c.loop-round.invariant.opened
          (opens_read here (c.in_ok-verify_round.ensures.exact.0 refl));
    }

pub returns-in_err-verify_round-clause-exact : goal.returns-in_err-verify_round-clause-exact
returns-in_err-verify_round-clause-exact g c =
    let here =
    read g (goal.at.returns-in_err-verify_round-clause-exact g c).After-index-openings-round in
    let e = c.in_err-verify_round.field-0.0 in (
      λ is_ok. absurd (refused c.from_residual.result c.from_residual.ensures.0 is_ok),
      λ all. absurd (rounds_none here
          (λ o. refused (failed (Unit {0}) e) refl (c.in_err-verify_round.ensures.exact.1 o)) all),
    )

pub returns-in_err-verify_round-clause-refusal : goal.returns-in_err-verify_round-clause-refusal
returns-in_err-verify_round-clause-refusal g c =
    let here =
    read g (goal.at.returns-in_err-verify_round-clause-refusal g c).After-index-openings-round in
    let e = c.in_err-verify_round.field-0.0 in
    let fault = c.in_err-verify_round.ensures.refusal in
    handed_on _ c.from_residual.result e c.from_residual.ensures (
      fault.0,
      fault.1,
      round_fails here
          (λ o. refused (failed (Unit {0}) e) refl (c.in_err-verify_round.ensures.exact.1 o)),
    )

pub returns-clause-exact : goal.returns-clause-exact
returns-clause-exact g c = (
  λ _. rounds_all (g.M.Mmcs.opens c.args.mmcs.now) c.args.log_arities.now
      c.args.log_global_max_height (lists c.args.folded.now.group_indices_by_round.items)
      (rows_collected c.args.folded.now.rows_by_round.items) c.args.commitments.now
      (λ o. round_opened o) c.args.openings.now c.requires.commitments c.requires.openings
      (λ k l. c.loop-round.invariant.opened k (omega (arith, l))),
  λ _. refl,
)
