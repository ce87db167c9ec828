use Rattle.std.proofs.Common.{◌≡◌, ◌∙◌, ◌^◌, ◌≤◌, ℕ, List, length, sym, ap, arith, subst}
use Rattle.std.specs.Prelude.{All, IfOk, IfErr}
use Rattle.std.specs.List.{AllZip}
use Rattle.algebra.specs.Nested.{lists}
use Rattle.p3_mmcs.specs.Batch.{max_height, dimensions_of}
use Rattle.p3_challenger_core.specs.Run.{moves}
use Rattle.p3_pcs.specs.Claims.{opened_values}
use Rattle.p3_fri_relation.specs.Setting.{Fields, Setting}
use Rattle.p3_fri_relation.specs.Views.{parameters_of, proof_of}
use Rattle.p3_fri_folding.specs.Schedule.{tallest}
use Rattle.p3_fri_batch.specs.Rounds.{opened_of}
use Rattle.p3_fri_prover.specs.Inputs.{HaveHeights, AreInputs}
use Rattle.p3_fri_prover.specs.Openings.{OpensBatch}
use Rattle.p3_fri_prover.specs.Proved.{IsProved, positions}
use Rattle.p3_fri_prover.specs.Prover.{ProverRefusal}
use Rattle.p3_fri_prover.proofs.Refused.{refused_memory}
use Rattle.p3_fri_opening_prover.specs.Opening.{heights, top, words}
use Rattle.p3_fri_opening_prover.specs.declared.setting.ProverSetting.{ProverSetting}
use Rattle.p3_fri_opening_prover.proofs.Matrices.{data_bounded}
use Rattle.p3_fri_opening_prover.proofs.Refused.{no_check_refused}
use Rattle.p3_fri_opening_prover.proofs.Tallest.{words_have}
use Rattle.p3_fri_opening_prover.proofs.Tested.{top_within, none_above, tall_heights, small_heights}
use Rattle.p3_fri_opening_prover.proofs.Tested.{are_inputs, Made, of_words, of_made, made_have}
use Rattle.p3_fri_opening_prover.proofs.words.prove_words.Given.{Over}
use Rattle.p3_fri_opening_prover.proofs.words.prove_words.Goals.{After-deref-2}
use Rattle.p3_fri_opening_prover.proofs.words.prove_words.Goals as goal

abbrev fields_of : (g : Over) → Fields g.row.F.Denot g.row.EF.Denot
fields_of g = record {
  base = g.F.Field.ops;
  ext = g.EF.Field.ops;
  lift = g.EF.ExtensionField.lift;
  coefficients = g.EF.ExtensionField.coefficients;
  degree = g.EF.ExtensionField.DIMENSION;
  root = g.F.TwoAdicField.root;
  two_adicity = g.F.TwoAdicField.TWO_ADICITY;
  shift = g.F.Field.GENERATOR;
}

-- what the layers below compute and accept, named once
abbrev setting_at : (g : Over) → ProverSetting g.row.S.Denot g.row.M.Denot g.row.InputMmcs.Denot
    → Setting g.row.F.Denot g.row.EF.Denot g.row.C.Denot g.row.M-Commitment.Denot
    g.row.M-MultiProof.Denot g.row.InputMmcs-Commitment.Denot g.row.InputMmcs-MultiProof.Denot
setting_at g s = record {
  fields = fields_of g;
  fold = g.S.FriFoldingStrategy.row_fold s.folding.now;
  extra_bits = g.S.FriFoldingStrategy.extra_query_index_bits s.folding.now;
  moves = moves g.C.CanObserve-1.observed g.C.CanObserve-2.observed g.C.CanSample.sampled
      g.EF.ExtensionField.of_coefficients g.EF.ExtensionField.DIMENSION
      g.C.CanSampleBits.sampled_bits;
  opens_input = g.InputMmcs.Mmcs.opens s.input_mmcs.now;
  opens_round = g.M.Mmcs.opens s.params.now.mmcs;
}

-- the words that were made are the quotients'
words_are : (g : Over) (c : After-deref-2 g)
    → lists c.in-Ok.words.items ≡ words (fields_of g)
    (opened_of c.args.opened.now.rounds.now (opened_values c.args.opened.now.values.now.items))
    c.args.alpha
words_are g c =
    subst (λ xs. lists c.in-Ok.words.items ≡ words (fields_of g)
    (opened_of c.args.opened.now.rounds.now (opened_values xs)) c.args.alpha) c.deref.ensures.value
    c.in-Ok.ensures

-- with the log height that was found of the tallest
made_words : (g : Over) (c : After-deref-2 g) (log_height : ℕ)
    → ((hs : List ℕ) → HaveHeights hs (lists c.deref-2.result.now) → log_height ≡ tallest hs)
    → Made (fields_of g) (opened_of c.args.opened.now.rounds.now
    (opened_values c.args.opened.now.values.now.items)) c.args.alpha
    (lists c.in-Ok.words.items) log_height
made_words g c log_height tallest_is =
    let f = fields_of g in
    let ys = opened_values c.args.opened.now.values.now.items in
    let ms = opened_of c.args.opened.now.rounds.now ys in
    record {
      words_are = words_are g c;
      top_is = tallest_is (heights f ms) (subst (λ ws. HaveHeights (heights f ms) ws)
          (sym (ap lists c.deref-2.ensures.value ∙ words_are g c))
          (words_have ms f c.args.alpha (heights f ms)));
    }

pub returns-in-Err-clause-refused :
    goal.returns-in-Err-clause-refused
returns-in-Err-clause-refused g c =
    let s = setting_at g c.args.setting.now in
    let f = s.fields in
    let p = parameters_of c.args.setting.now.params.now in
    let ys = opened_values c.args.opened.now.values.now.items in
    let ms = opened_of c.args.opened.now.rounds.now ys in
    refused_memory s g.M.Mmcs.committed g.M.Mmcs.commitment_of p (heights f ms) (top f ms)
    (words f ms c.args.alpha) c.args.challenger.now g.C.GrindingChallenger.solution
    (tall_heights f c.args.opened.now.rounds.now ys p c.requires.tall_enough)

pub tallest_log_height-log_global_max_height-requires :
    goal.tallest_log_height-log_global_max_height-requires
tallest_log_height-log_global_max_height-requires g c =
    let f = fields_of g in
    let ys = opened_values c.args.opened.now.values.now.items in
    let ms = opened_of c.args.opened.now.rounds.now ys in
    let words_are =
    words_are g (goal.at.tallest_log_height-log_global_max_height-requires g c).After-deref-2 in
    record {
      words = (
        top f ms,
        subst (λ ws. AreInputs (top f ms) ws)
            (sym (ap lists c.deref-2.ensures.value ∙ words_are))
            (are_inputs f c.args.opened.now.rounds.now ys c.requires.rounds c.args.alpha
            c.requires.some_matrix),
      );
    }

pub prove_fri-requires-clause-inputs :
    goal.prove_fri-requires-clause-inputs
prove_fri-requires-clause-inputs g c =
    let made = made_words g (goal.at.prove_fri-requires-clause-inputs g c).After-deref-2 _
    c.tallest_log_height-log_global_max_height.ensures in
    of_made made AreInputs (are_inputs (fields_of g) c.args.opened.now.rounds.now
    (opened_values c.args.opened.now.values.now.items) c.requires.rounds c.args.alpha
    c.requires.some_matrix)

pub prove_fri-requires-clause-within_two_adicity :
    goal.prove_fri-requires-clause-within_two_adicity
prove_fri-requires-clause-within_two_adicity g c =
    let at = (goal.at.prove_fri-requires-clause-within_two_adicity g c).After-deref-2 in
    let made = made_words g at _ c.tallest_log_height-log_global_max_height.ensures in
    omega (
      arith,
      made.top_is,
      top_within (fields_of g) c.args.opened.now.rounds.now
          (opened_values c.args.opened.now.values.now.items),
    )

pub prove_fri-requires-clause-data_heights :
    goal.prove_fri-requires-clause-data_heights
prove_fri-requires-clause-data_heights g c =
    let f = fields_of g in
    let committed = g.InputMmcs.Mmcs.committed in
    let rounds = c.args.opened.now.rounds.now in
    let ys = opened_values c.args.opened.now.values.now.items in
    let made = made_words g (goal.at.prove_fri-requires-clause-data_heights g c).After-deref-2 _
    c.tallest_log_height-log_global_max_height.ensures in
    of_made made (λ t ws. All (λ d. max_height (dimensions_of (committed d.prover_data.now))
    ≤ 2 ^ t) c.args.opened.now.data.now)
    (data_bounded (λ d. committed d.prover_data.now) f.two_adicity (top f (opened_of rounds ys))
    rounds ys c.args.opened.now.data.now c.requires.rounds c.requires.values
    (none_above f rounds ys c.requires.rounds) c.requires.opened)

pub returns-clause-proved :
    goal.returns-clause-proved
returns-clause-proved g c =
    let s = setting_at g c.args.setting.now in
    let hs = heights s.fields
    (opened_of c.args.opened.now.rounds.now (opened_values c.args.opened.now.values.now.items)) in
    let made = made_words g (goal.at.returns-clause-proved g c).After-deref-2 _
    c.tallest_log_height-log_global_max_height.ensures in
    of_words made (λ t ws. IfOk c.prove_fri.result (λ proof. IsProved s
    (parameters_of c.args.setting.now.params.now) hs t ws c.args.challenger.now (proof_of proof)
    (length c.args.opened.now.data.now) c.prove_fri.new.challenger))
    (c.prove_fri.ensures.proved hs (made_have made))

pub returns-clause-inputs_opened :
    goal.returns-clause-inputs_opened
returns-clause-inputs_opened g c =
    let s = setting_at g c.args.setting.now in
    let hs = heights s.fields
    (opened_of c.args.opened.now.rounds.now (opened_values c.args.opened.now.values.now.items)) in
    let made = made_words g (goal.at.returns-clause-inputs_opened g c).After-deref-2 _
    c.tallest_log_height-log_global_max_height.ensures in
    of_words made (λ t ws. IfOk c.prove_fri.result (λ proof. AllZip (λ d o.
    OpensBatch s.opens_input t (positions s (parameters_of c.args.setting.now.params.now) hs t ws
    c.args.challenger.now (proof_of proof)) (g.InputMmcs.Mmcs.committed d.prover_data.now)
    (g.InputMmcs.Mmcs.commitment_of d.prover_data.now) o) c.args.opened.now.data.now
    (proof_of proof).inputs))
    (c.prove_fri.ensures.inputs_opened hs (made_have made))

pub returns-clause-refused :
    goal.returns-clause-refused
returns-clause-refused g c =
    let s = setting_at g c.args.setting.now in
    let hs = heights s.fields
    (opened_of c.args.opened.now.rounds.now (opened_values c.args.opened.now.values.now.items)) in
    let made = made_words g (goal.at.returns-clause-refused g c).After-deref-2 _
    c.tallest_log_height-log_global_max_height.ensures in
    of_words made (λ t ws. IfErr c.prove_fri.result (ProverRefusal s g.M.Mmcs.committed
    g.M.Mmcs.commitment_of (parameters_of c.args.setting.now.params.now) hs t ws
    c.args.challenger.now g.C.GrindingChallenger.solution))
    (c.prove_fri.ensures.refused hs (made_have made))

pub returns-clause-not_checked :
    goal.returns-clause-not_checked
returns-clause-not_checked g c =
    let s = setting_at g c.args.setting.now in
    let f = s.fields in
    let p = parameters_of c.args.setting.now.params.now in
    let rounds = c.args.opened.now.rounds.now in
    let ys = opened_values c.args.opened.now.values.now.items in
    let hs = heights f (opened_of rounds ys) in
    let made = made_words g (goal.at.returns-clause-not_checked g c).After-deref-2 _
    c.tallest_log_height-log_global_max_height.ensures in
    no_check_refused s g.M.Mmcs.committed g.M.Mmcs.commitment_of p hs
    c.tallest_log_height-log_global_max_height.result (lists c.in-Ok.words.items)
    c.args.challenger.now g.C.GrindingChallenger.solution
    (tall_heights f rounds ys p c.requires.tall_enough)
    (small_heights f rounds ys c.requires.rounds g.met.F.TwoAdicField.two_adicity_law)
    c.prove_fri.result (c.prove_fri.ensures.refused hs (made_have made))
