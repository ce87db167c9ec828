-- From the relation, and rows that are the words' and the tables', to what an accepted proof shows.
use Rattle.std.proofs.Common.{◌≡◌, ◌≢◌, ℕ, suc, ◌+◌, ◌-◌, ◌*◌, ◌^◌, ◌<◌, ◌≤◌, ◌⊎◌, List, [], ◌∷◌, length, refl, ap, ◌∙◌, subst, arith}
use Rattle.std.specs.Prelude.{All}
use Rattle.std.specs.List.{sum}
use Rattle.std.proofs.lemmas.List.Sums.{sum_by-cons}
use Rattle.p3_fri_relation.specs.Setting.{Fields, Setting, Parameters, CommitmentClaim, Proof}
use Rattle.p3_fri_relation.specs.Queries.{rounds_of}
use Rattle.p3_fri_relation.specs.Acceptance.{top_height, log_arities, test_replay, positions, FriAccepts}
use Rattle.p3_fri_relation.proofs.Instances.{instance_sum, instance_top}
use Rattle.fri_soundness.specs.Counting.{AllBut, HasFew, AtMost}
use Rattle.fri_soundness.specs.Curves.{IsBad}
use Rattle.fri_soundness.specs.FoldTests.{Step, indices, budget, HasRoom, IsBadIn, curve_degree}
use Rattle.fri_soundness.specs.CommittedWords.{last_height, last_word, AreWords, steps_of, next_word}
use Rattle.fri_soundness.specs.Batches.{OpenedColumn, batch_rows}
use Rattle.fri_soundness.proofs.SoundTests.{few_bad_in_step}
use Rattle.fri_soundness.proofs.SoundBatches.{few_batches}
use Rattle.algebra.specs.Rounds.{Round}
use Rattle.algebra.proofs.Lists.{Each, each_from_All, All_from_each}
use Rattle.fri_soundness.proofs.Counted.{counted, test_decided}
use Rattle.fri_soundness.proofs.SoundOpenings.{openings_are_sound}
use Rattle.p3_fri_soundness.specs.Bound.{lifted_root}
use Rattle.p3_fri_soundness.specs.Soundness.{IsPolynomialSetting, AreBound, AreOpenedFrom, columns, inputs_batched, rounds_drawn, PassesAt, NoneDrawnIsBad, DrawnPass, AreOpenedAsClaimed, steps_drawn, IsSound}
use Rattle.p3_fri_soundness.specs.BoundInputs.{TablesFit}
use Rattle.p3_fri_soundness.specs.Trees.{Tree, IsEncoded, opened_by, RoundsAgree, InputsAgree, rows_opened, rows_of_word}
use Rattle.p3_fri_soundness.specs.Laws.{setting}
use Rattle.p3_challenger_core.specs.Run.{Moves}
use Rattle.p3_fri_soundness.proofs.BoundRows.{position_passes, words_are, rows_are, rows_shown, drawn}
use Rattle.p3_fri_soundness.proofs.TreeRows.{rounds_agree, inputs_agree}
use Rattle.p3_fri_soundness.proofs.InputsMet.{inputs_met, had, rows_bound, fits}

last_height-is : {E : Type 0} (las : List ℕ) (betas : List E) (h : ℕ) → length betas ≡ length las → last_height h (rounds_of las betas) ≡ h - sum las
last_height-is [] betas h n = omega arith
last_height-is (a ∷ las) [] h n = absurd (omega (arith, n))
last_height-is (a ∷ las) (b ∷ betas) h n =
    let whole = sum_by-cons (λ r. r) a las in
    last_height-is las betas (h - a) (omega (arith, n)) ∙ omega arith

module _ {F E C Com Path InCom InPath : Type 0} (s : Setting F E C Com Path InCom InPath) (S : IsPolynomialSetting s) (p : Parameters) (claims : List (CommitmentClaim E InCom))
    (proof : Proof F E Com Path InPath) (words : List (List E)) (tables : List (List (List (List F)))) (c : C) (alpha : E)
    (accepts : FriAccepts s p claims proof c alpha) (from : AreOpenedFrom s p claims proof words tables c alpha)
    (inside : All (λ position. position < 2 ^ top_height p claims) (positions s p claims proof c)) where
  -- drawn positions pass
  pub drawn_pass : DrawnPass s p claims proof words tables c alpha
  drawn_pass j l = position_passes s p claims proof c alpha accepts S.folds (inputs_batched s p claims proof words tables c alpha)
      (inputs_met s p claims proof alpha S.folds.lift tables (positions s p claims proof c) accepts.instance_of.points from.tables_fit from.inputs inside)
      words from.words_long from.rounds inside j l

  -- passing is decided, so it is counted
  pub most_or_few : (failing : ℕ) → AllBut (PassesAt s p claims proof words tables c alpha) failing (indices (top_height p claims))
      ⊎ HasFew (PassesAt s p claims proof words tables c alpha) failing (indices (top_height p claims))
  most_or_few failing = counted (PassesAt s p claims proof words tables c alpha)
      (test_decided s.fields.ext S.field (lifted_root s) (inputs_batched s p claims proof words tables c alpha) (top_height p claims) (rounds_drawn s p claims proof words tables c alpha) words proof.final_poly)
      failing (indices (top_height p claims))

  -- columns of low degree with the claimed values, where most pass and no drawn challenge is bad
  pub opened_as_claimed : (failing : ℕ) → NoneDrawnIsBad s p claims proof words tables c alpha failing
      → AllBut (PassesAt s p claims proof words tables c alpha) failing (indices (top_height p claims))
      → AreOpenedAsClaimed s p claims proof words tables c alpha
  opened_as_claimed failing good most =
      let count = drawn s p claims proof c alpha accepts in
      let whole = instance_sum p claims s.fields.two_adicity accepts.instance_of.in_range in
      openings_are_sound s.fields.ext S.field s.fields.two_adicity (lifted_root s) S.roots (s.fields.lift s.fields.shift) S.shift
      _ (columns s p claims proof words tables) alpha p.log_blowup (top_height p claims) failing (instance_top p claims s.fields.two_adicity accepts.instance_of.in_range).1
      (λ g some. had s.fields p.log_blowup g claims tables some) good.batches
      (rounds_drawn s p claims proof words tables c alpha) words proof.final_poly
      (record {
        are_words = from.words_long;
        degree = accepts.counts.final_poly ∙ ap (λ n. 2 ^ n)
            (let last = last_height-is (log_arities p claims) (test_replay s p claims proof c).betas (top_height p claims) count in
            let e : p.log_final_poly_len ≡ last_height (top_height p claims) (rounds_drawn s p claims proof words tables c alpha) - p.log_blowup = omega (arith, last, whole) in e);
        room = good.room;
        none_bad = good.rounds;
      }) most

  pub few_bad_rounds_in : (failing : ℕ)
      → All (HasRoom s.fields.ext (lifted_root s) p.log_blowup (budget (top_height p claims) failing)) (steps_drawn s p claims proof words tables c alpha)
      → All (λ step. AtMost (IsBadIn s.fields.ext (lifted_root s) p.log_blowup (budget (top_height p claims) failing) step)
      (curve_degree s.fields.ext (lifted_root s) step.round.log_arity step.input * (budget (top_height p claims) failing step.height + 1))) (steps_drawn s p claims proof words tables c alpha)
  few_bad_rounds_in failing room =
      let count = drawn s p claims proof c alpha accepts in
      let whole = instance_sum p claims s.fields.two_adicity accepts.instance_of.in_range in
      All_from_each (few_in (budget (top_height p claims) failing)) (steps_drawn s p claims proof words tables c alpha)
      (each_step (budget (top_height p claims) failing) (top_height p claims) (rounds_drawn s p claims proof words tables c alpha) words
      (last_word s.fields.ext (lifted_root s) (inputs_batched s p claims proof words tables c alpha) (top_height p claims) (rounds_drawn s p claims proof words tables c alpha) words proof.final_poly)
      (instance_top p claims s.fields.two_adicity accepts.instance_of.in_range).1
      from.words_long
      (each_from_All (HasRoom s.fields.ext (lifted_root s) p.log_blowup (budget (top_height p claims) failing)) (steps_drawn s p claims proof words tables c alpha) room))
    where
      few_in : (e : ℕ → ℕ) → Step E → Type 0
      few_in e step = AtMost (IsBadIn s.fields.ext (lifted_root s) p.log_blowup e step) (curve_degree s.fields.ext (lifted_root s) step.round.log_arity step.input * (e step.height + 1))

      each_step : (e : ℕ → ℕ) (h : ℕ) (rounds : List (Round E)) (ws : List (List E)) (last : List E) → h ≤ s.fields.two_adicity → AreWords h rounds ws
          → Each (HasRoom s.fields.ext (lifted_root s) p.log_blowup e) (steps_of (inputs_batched s p claims proof words tables c alpha) h rounds ws last)
          → Each (few_in e) (steps_of (inputs_batched s p claims proof words tables c alpha) h rounds ws last)
      each_step e h [] ws last t are r = tt
      each_step e h (r ∷ rounds) [] last t are room = tt
      each_step e h (r ∷ rounds) (ys ∷ ws) last t are room =
          let height = h - r.log_arity in
          let step : Step E = record { round = r; height = height; word = ys; input = inputs_batched s p claims proof words tables c alpha height; next = next_word ws last } in (
            few_bad_in_step s.fields.ext S.field s.fields.two_adicity (lifted_root s) S.roots p.log_blowup e step room.0 (omega (arith, t, are.1))
                (are.0 ∙ ap (λ n. 2 ^ n) (let split : h ≡ h - r.log_arity + r.log_arity = omega (arith, are.1) in split)),
            each_step e height rounds ws last (omega (arith, t)) are.2 room.1,
          )

  pub few_bad_batches_of : (failing h : ℕ) → h ≤ top_height p claims → columns s p claims proof words tables h ≢ []
      → (length (columns s p claims proof words tables h) + 1) * budget (top_height p claims) failing h + 2 ^ (h - p.log_blowup) ≤ 2 ^ h
      → AtMost (IsBad s.fields.ext (batch_rows s.fields.ext (lifted_root s) (s.fields.lift s.fields.shift) h (columns s p claims proof words tables h)) (2 ^ (h - p.log_blowup))
      (length (columns s p claims proof words tables h) - 1) (budget (top_height p claims) failing h))
      ((length (columns s p claims proof words tables h) - 1) * (budget (top_height p claims) failing h + 1))
  few_bad_batches_of failing h b some room =
      let ts = columns s p claims proof words tables h in
      let one : 0 < length ts = positive ts some in
      let more : length ts + 1 ≡ length ts - 1 + 2 = omega (arith, one) in
      few_batches s.fields.ext S.field s.fields.two_adicity (lifted_root s) S.roots (s.fields.lift s.fields.shift) S.shift h (2 ^ (h - p.log_blowup)) (length ts - 1)
      (budget (top_height p claims) failing h) ts (omega (arith, b, (instance_top p claims s.fields.two_adicity accepts.instance_of.in_range).1)) (omega (arith, one))
      (subst (λ n. n * budget (top_height p claims) failing h + 2 ^ (h - p.log_blowup) ≤ 2 ^ h) more room)
    where
      positive : (us : List (OpenedColumn E)) → us ≢ [] → 0 < length us
      positive [] n = absurd (n refl)
      positive (u ∷ us) n = omega arith

  pub is_sound : IsSound s p claims proof words tables c alpha
  is_sound = record {
    drawn_pass = drawn_pass;
    most_or_few = most_or_few;
    few_bad_rounds = few_bad_rounds_in;
    few_bad_batches = few_bad_batches_of;
    opened = opened_as_claimed;
  }

-- as many words as rounds
words_count : {E : Type 0} (las : List ℕ) (betas : List E) (h : ℕ) (words : List (List E)) → length betas ≡ length las → AreWords h (rounds_of las betas) words
    → length words ≡ length las
words_count [] betas h [] n are = refl
words_count [] betas h (ys ∷ words) n are = absurd are
words_count (a ∷ las) [] h words n are = absurd (omega (arith, n))
words_count (a ∷ las) (b ∷ betas) h [] n are = absurd are
words_count (a ∷ las) (b ∷ betas) h (ys ∷ words) n are = ap suc (words_count las betas (h - a) words (omega (arith, n)) are.2)

-- what trees open that don't collide with other openings
pub opened_from_trees : {F E C Com Path InCom InPath : Type 0} (f : Fields F E) (extra_bits : ℕ) (moves : Moves C F E Com) (input_tree : Tree F InCom InPath)
    (round_tree : Tree E Com Path) (input_len round_len : ℕ) → IsEncoded input_tree input_len → IsEncoded round_tree round_len
    → (p : Parameters) (claims : List (CommitmentClaim E InCom)) (proof : Proof F E Com Path InPath) (words : List (List E)) (tables : List (List (List (List F)))) (c : C) (alpha : E)
    (input_paths : List InPath) (round_paths : List Path)
    → let s = setting F E C Com Path InCom InPath f extra_bits moves (opened_by input_tree) (opened_by round_tree) in
    FriAccepts s p claims proof c alpha → AreWords (top_height p claims) (rounds_drawn s p claims proof words tables c alpha) words → TablesFit f p.log_blowup claims tables
    → RoundsAgree s input_tree round_tree p claims proof words tables c alpha round_paths → InputsAgree s input_tree round_tree p claims proof words tables c alpha input_paths
    → AreOpenedFrom s p claims proof words tables c alpha
opened_from_trees {F} {E} {C} {Com} {Path} {InCom} {InPath} f extra_bits moves input_tree round_tree input_len round_len ie re p claims proof words tables c alpha input_paths round_paths accepts are fit rounds inputs =
    let s = setting F E C Com Path InCom InPath f extra_bits moves (opened_by input_tree) (opened_by round_tree) in
    record {
      words_long = are;
      rounds = rows_shown s p claims proof c alpha accepts words
          (words_count (log_arities p claims) (test_replay s p claims proof c).betas (top_height p claims) words (drawn s p claims proof c alpha accepts) are)
          (λ k l. let from_zero : 0 + k ≡ k = omega arith in
          subst (λ n. rows_opened s input_tree round_tree p claims proof words tables c alpha n ≡ rows_of_word s input_tree round_tree p claims proof words tables c alpha n) from_zero
          (rounds_agree f extra_bits moves input_tree round_tree input_len round_len ie re p claims proof words tables c alpha 0 (length (log_arities p claims))
          proof.commitments proof.rounds round_paths accepts.openings.rounds_open rounds k l));
      tables_fit = fit;
      inputs = λ j l. inputs_agree f extra_bits moves input_tree round_tree input_len round_len ie re p claims proof words tables c alpha j l
          claims proof.inputs tables input_paths accepts.openings.inputs_open inputs;
    }

-- what binding commitments open
pub opened_from_bound : {F E C Com Path InCom InPath : Type 0} (s : Setting F E C Com Path InCom InPath) (p : Parameters) (claims : List (CommitmentClaim E InCom))
    (proof : Proof F E Com Path InPath) (words : List (List E)) (tables : List (List (List (List F)))) (c : C) (alpha : E)
    → FriAccepts s p claims proof c alpha → AreBound s p claims proof words tables → AreOpenedFrom s p claims proof words tables c alpha
opened_from_bound s p claims proof words tables c alpha accepts bound = record {
  words_long = words_are s p claims proof c alpha accepts words bound.rounds;
  rounds = rows_are s p claims proof c alpha accepts words bound.rounds;
  tables_fit = fits s p.log_blowup (top_height p claims) (positions s p claims proof c) claims tables bound.inputs;
  inputs = λ j l. rows_bound s p.log_blowup (top_height p claims) (positions s p claims proof c) j l claims proof.inputs tables accepts.openings.inputs_open bound.inputs;
}
