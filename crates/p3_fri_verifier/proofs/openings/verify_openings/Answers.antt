use Rattle.std.proofs.Common.{ℕ, ◌≤◌, ◌∙◌, sym, ap, arith, subst, length, Err, refl}
use Rattle.std.specs.List.{AllZip}
use Rattle.p3_fri_relation.specs.TestRounds.{HasSiblings}
use Rattle.std.proofs.lemmas.List.{length-map}
use Rattle.std.proofs.lemmas.Slice.Zip.{AllZip-long}
use Rattle.algebra.specs.Nested.{lists}
use Rattle.algebra.proofs.Lists.{length-tabulate}
use Rattle.algebra.proofs.Nested.{length-lists}
use Rattle.p3_fri_relation.specs.Heights.{matrices_of}
use Rattle.p3_fri_relation.specs.Views.{claims_of, parameters_of, proof_of, round_opened, rounds_opened, inputs_opened}
use Rattle.p3_fri_relation.proofs.ClaimedHeights.{greatest_height-bounds}
use Rattle.p3_fri_verifier.proofs.Replays.{false_true, same_err, ok_err, refused_as}
use Rattle.p3_fri_verifier.proofs.Opened.{IsRead, inputs_good_at, input_fault_at, in_order_at, ends_at, ends_of}
use Rattle.p3_fri_verifier.proofs.Opened.{opened_at, rounds_open_at, open_rounds_at, queries_fault_at}
use Rattle.p3_fri_verifier.proofs.Opened.{top_within, rounds_within}
use Rattle.p3_challenger_core.specs.Run.{moves}
use Rattle.p3_fri_relation.specs.Setting.{Setting}
use Rattle.p3_fri_verifier.proofs.openings.verify_openings.Given.{Over}
use Rattle.p3_fri_verifier.proofs.openings.verify_openings.Goals.{After-deref-3}
use Rattle.p3_fri_verifier.proofs.openings.verify_openings.Goals as goal

-- what the layers below compute and accept, named once
abbrev setting_at : (g : Over) → g.row.S.Denot → g.row.M.Denot → g.row.InputMmcs.Denot
    → Setting g.row.F.Denot g.row.EF.Denot g.row.C.Denot g.row.M-Commitment.Denot g.row.M-MultiProof.Denot
    g.row.InputMmcs-Commitment.Denot g.row.InputMmcs-MultiProof.Denot
setting_at g folding mmcs input_mmcs = record {
  fields = record {
    base = g.F.Field.ops;
    ext = g.EF.Field.ops;
    lift = g.EF.ExtensionField.lift;
    coefficients = g.EF.ExtensionField.coefficients;
    degree = g.EF.ExtensionField.DIMENSION;
    root = g.F.TwoAdicField.root;
    two_adicity = g.F.TwoAdicField.TWO_ADICITY;
    shift = g.F.Field.GENERATOR;
  };
  fold = g.S.FriFoldingStrategy.row_fold folding;
  extra_bits = g.S.FriFoldingStrategy.extra_query_index_bits folding;
  moves = moves g.C.CanObserve-1.observed g.C.CanObserve-2.observed g.C.CanSample.sampled
      g.EF.ExtensionField.of_coefficients g.EF.ExtensionField.DIMENSION g.C.CanSampleBits.sampled_bits;
  opens_input = g.InputMmcs.Mmcs.opens input_mmcs;
  opens_round = g.M.Mmcs.opens mmcs;
}

-- what was read of the proof
read : (g : Over) (c : After-deref-3 g)
    → IsRead (setting_at g c.args.known.now.folding.now c.args.known.now.params.now.mmcs c.args.known.now.input_mmcs.now)
    (parameters_of c.args.known.now.params.now) (claims_of (λ d. d.log_size) c.args.known.now.claims.now)
    (proof_of c.args.proof.now) c.args.alpha c.args.test.now.betas.now c.args.test.now.positions.now
    c.args.test.now.log_global_max_height (inputs_opened c.deref.result.now) c.args.test.now.log_arities.now
    c.as_slice.result.now (lists c.in-Ok.reduced_openings.items) c.deref-3.result.now
    g.F.TwoAdicField.TWO_ADICITY
read g c = record {
  tallest = c.requires.top;
  inputs_are = ap inputs_opened c.deref.ensures.value;
  scheduled = c.requires.schedule;
  opened = ap rounds_opened (sym c.as_slice.ensures.value);
  queries = c.requires.positions;
  counts = subst (λ la. AllZip (HasSiblings c.args.known.now.params.now.num_queries) la (rounds_opened c.args.proof.now.commit_phase_openings.items)) c.requires.schedule c.requires.counts.rounds;
  drawn = c.requires.betas ∙ ap length c.requires.schedule;
  ranged = c.requires.in_range;
  sums = c.in-Ok.ensures.sums;
  final_is = c.deref-3.ensures.value;
}

not_more : {a b c : ℕ} → a ≤ b → b ≤ c → a ≤ c
not_more l m = omega arith

pub open_inputs-requires-clause-within_two_adicity : goal.open_inputs-requires-clause-within_two_adicity
open_inputs-requires-clause-within_two_adicity g c =
    top_within _ _ _ _ c.requires.in_range c.requires.top

pub open_inputs-requires-clause-heights : goal.open_inputs-requires-clause-heights
open_inputs-requires-clause-heights g c k d l =
    let h = greatest_height-bounds c.args.known.now.params.now.log_blowup (matrices_of (claims_of (λ d. d.log_size) c.args.known.now.claims.now)) k d l in
    omega (arith, h, c.requires.top)

pub returns-in-Err-clause-exact : goal.returns-in-Err-clause-exact
returns-in-Err-clause-exact g c other = (
  (λ e. absurd (false_true e)),
  (λ o. (c.in-Err.ensures.exact (λ e. other (ap Err (same_err _ _ e)))).1
      (inputs_good_at _ _ _ _ _ _ _ _ c.requires.top _ (ap inputs_opened c.deref.ensures.value) o)),
)

pub returns-in-Err-clause-refusal : goal.returns-in-Err-clause-refusal
returns-in-Err-clause-refusal g c =
    input_fault_at (setting_at g c.args.known.now.folding.now c.args.known.now.params.now.mmcs c.args.known.now.input_mmcs.now) (parameters_of c.args.known.now.params.now) (claims_of (λ d. d.log_size) c.args.known.now.claims.now)
    (proof_of c.args.proof.now) c.args.alpha c.args.test.now.betas.now c.args.test.now.positions.now c.args.test.now.log_global_max_height c.requires.top
    (inputs_opened c.deref.result.now) (ap inputs_opened c.deref.ensures.value) c.in-Err.refusal c.in-Err.ensures.fault

pub verify_queries-requires-clause-count : goal.verify_queries-requires-clause-count
verify_queries-requires-clause-count g c = sym (length-lists c.in-Ok.reduced_openings.items)
    ∙ ap length c.in-Ok.ensures.sums ∙ length-tabulate _ _

pub verify_queries-requires-clause-in_order : goal.verify_queries-requires-clause-in_order
verify_queries-requires-clause-in_order g c =
    in_order_at (read g (goal.at.verify_queries-requires-clause-in_order g c).After-deref-3)
    g.met.F.TwoAdicField.two_adicity_law

pub verify_queries-requires-clause-commitments : goal.verify_queries-requires-clause-commitments
verify_queries-requires-clause-commitments g c =
    ap length c.deref-2.ensures.value ∙ c.requires.counts.commitments

pub verify_queries-requires-clause-openings : goal.verify_queries-requires-clause-openings
verify_queries-requires-clause-openings g c =
    ap length c.as_slice.ensures.value
    ∙ sym (length-map c.args.proof.now.commit_phase_openings.items round_opened)
    ∙ AllZip-long _ _ _ c.requires.counts.rounds

pub verify_queries-requires-clause-within_max_height : goal.verify_queries-requires-clause-within_max_height
verify_queries-requires-clause-within_max_height g c =
    not_more (top_within _ _ _ _ c.requires.in_range c.requires.top) c.requires.max_log_height

pub verify_queries-requires-clause-within_two_adicity : goal.verify_queries-requires-clause-within_two_adicity
verify_queries-requires-clause-within_two_adicity g c =
    top_within _ _ _ _ c.requires.in_range c.requires.top

pub verify_queries-requires-clause-within : goal.verify_queries-requires-clause-within
verify_queries-requires-clause-within g c =
    rounds_within _ _ _ _ _ c.requires.in_range c.requires.schedule c.requires.top

pub returns-clause-exact : goal.returns-clause-exact
returns-clause-exact g c other =
    let known = read g (goal.at.returns-clause-exact g c).After-deref-3 in
    let exact = c.verify_queries.ensures.exact other in (
      (λ ok. opened_at (setting_at g c.args.known.now.folding.now c.args.known.now.params.now.mmcs c.args.known.now.input_mmcs.now) (parameters_of c.args.known.now.params.now) (claims_of (λ d. d.log_size) c.args.known.now.claims.now)
          (proof_of c.args.proof.now) c.args.alpha c.args.test.now.betas.now c.args.test.now.positions.now c.args.test.now.log_global_max_height c.requires.top
          (inputs_opened c.deref.result.now) (ap inputs_opened c.deref.ensures.value)
          ((c.in-Ok.ensures.exact (λ e. ok_err _ _ e)).0 refl)
          (λ j l. ends_of known j l ((exact.0 ok).0 j l))
          (rounds_open_at known c.deref-2.ensures.value (exact.0 ok).1)),
      (λ o. exact.1 (
        (λ j l. ends_at known j l (o.good.queries_hold j l).ends),
        open_rounds_at known c.deref-2.ensures.value o.good.rounds_open,
      )),
    )

pub returns-clause-refusal : goal.returns-clause-refusal
returns-clause-refusal g c =
    refused_as _ _ c.verify_queries.result
    (queries_fault_at (read g (goal.at.returns-clause-refusal g c).After-deref-3) c.deref-2.ensures.value
    ((c.in-Ok.ensures.exact (λ e. ok_err _ _ e)).0 refl)) c.verify_queries.ensures.refusal
