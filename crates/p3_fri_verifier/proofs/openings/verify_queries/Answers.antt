use Rattle.std.proofs.Common.{ℕ, ◌<◌, ◌≤◌, ◌∙◌, sym, ap, arith, inl, inr, length, Err, refl}
use Rattle.std.proofs.lemmas.List.{length-map}
use Rattle.algebra.specs.Nested.{lists, nested}
use Rattle.algebra.proofs.Lists.{length-tabulate}
use Rattle.algebra.proofs.Nested.{length-lists}
use Rattle.p3_fri_relation.specs.Views.{rounds_opened}
use Rattle.p3_fri_queries.specs.Opened.{RoundsOpenTo, SomeRoundFails}
use Rattle.p3_fri_verifier.proofs.Replays.{false_true, same_err, ok_err, refused_as}
use Rattle.p3_fri_verifier.proofs.Opened.{indices_below, at_both}
use Rattle.p3_fri_verifier.proofs.openings.verify_queries.Goals as goal

below : {a b n : ℕ} → a ≤ b → b < n → a < n
below l m = omega arith

pub returns-in-Err-clause-exact : goal.returns-in-Err-clause-exact
returns-in-Err-clause-exact g c other = (
  (λ e. absurd (false_true e)),
  (λ both. (c.in-Err.ensures.exact (λ e. other (ap Err (same_err _ _ e)))).1 both.0),
)

pub returns-in-Err-clause-refusal : goal.returns-in-Err-clause-refusal
returns-in-Err-clause-refusal g c = inl c.in-Err.ensures.refusal

pub verify_rounds-requires-clause-indices : goal.verify_rounds-requires-clause-indices
verify_rounds-requires-clause-indices g c =
    sym (length-lists c.in-Ok.folded.group_indices_by_round.items)
    ∙ ap length c.in-Ok.ensures.indices ∙ length-tabulate _ _

pub verify_rounds-requires-clause-rows : goal.verify_rounds-requires-clause-rows
verify_rounds-requires-clause-rows g c =
    sym (length-map c.in-Ok.folded.rows_by_round.items (λ round. nested round.items))
    ∙ ap length c.in-Ok.ensures.rows ∙ length-tabulate _ _

pub verify_rounds-requires-clause-small : goal.verify_rounds-requires-clause-small
verify_rounds-requires-clause-small g c =
    below c.requires.within_two_adicity g.met.F.TwoAdicField.two_adicity_law

pub verify_rounds-requires-clause-below : goal.verify_rounds-requires-clause-below
verify_rounds-requires-clause-below g c =
    indices_below c.args.setting.now.log_arities.now c.args.setting.now.log_global_max_height c.args.positions.now
    (lists c.in-Ok.folded.group_indices_by_round.items) c.in-Ok.ensures.indices
    c.requires.within c.requires.within_word

pub returns-clause-exact : goal.returns-clause-exact
returns-clause-exact g c _ = (
  (λ ok. (
    (c.in-Ok.ensures.exact (λ e. ok_err _ _ e)).0 refl,
    at_both (λ indices rows. RoundsOpenTo (g.M.Mmcs.opens c.args.mmcs.now) c.args.setting.now.log_arities.now c.args.setting.now.log_global_max_height
        indices rows c.args.commitments.now (rounds_opened c.args.setting.now.openings.now))
        c.in-Ok.ensures.indices c.in-Ok.ensures.rows (c.verify_rounds.ensures.exact.0 ok),
  )),
  (λ both. c.verify_rounds.ensures.exact.1
      (at_both (λ indices rows. RoundsOpenTo (g.M.Mmcs.opens c.args.mmcs.now) c.args.setting.now.log_arities.now c.args.setting.now.log_global_max_height
      indices rows c.args.commitments.now (rounds_opened c.args.setting.now.openings.now))
      (sym c.in-Ok.ensures.indices) (sym c.in-Ok.ensures.rows) both.1)),
)

pub returns-clause-refusal : goal.returns-clause-refusal
returns-clause-refusal g c =
    refused_as _ _ c.verify_rounds.result (λ e h. inr (
      h.0,
      h.1,
      at_both (λ indices rows. SomeRoundFails (g.M.Mmcs.opens c.args.mmcs.now) c.args.setting.now.log_arities.now c.args.setting.now.log_global_max_height
          indices rows c.args.commitments.now (rounds_opened c.args.setting.now.openings.now))
          c.in-Ok.ensures.indices c.in-Ok.ensures.rows h.2,
    )) c.verify_rounds.ensures.refusal
