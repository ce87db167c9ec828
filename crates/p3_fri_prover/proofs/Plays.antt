-- A test that was played, put together from its rounds and its queries.
use Rattle.std.proofs.Common.{◌≡◌, ◌⊎◌, inl, inr, ℕ, zero, suc, ◌+◌, ◌-◌, ◌^◌, ◌<◌, ◌≤◌}
use Rattle.std.proofs.Common.{List, [], ◌∷◌, length, get_or, sum, remove, Option, Some}
use Rattle.std.proofs.Common.{refl, sym, ap, ◌∙◌, arith, subst}
use Rattle.std.specs.declared.vec.Vec.{Vec}
use Rattle.std.specs.Vec.{vec_len}
use Rattle.std.proofs.Math.Pow.{pow_mono}
use Rattle.algebra.specs.Nested.{lists}
use Rattle.p3_matrix.specs.declared.dense.RowMajorMatrix.{RowMajorMatrix}
use Rattle.p3_challenger_core.specs.Run.{After, Moves, moves}
use Rattle.p3_fri_folding.specs.declared.error.FriProverError.{FriProverError}
use Rattle.p3_fri_folding.specs.declared.error.FriProverError.TheVariants as Why
use Rattle.p3_fri_folding.specs.declared.pow_phase.PowPhase.TheVariants.{Batch, CommitPhase, Query}
use Rattle.p3_fri_pow.specs.Pow.{NonePasses}
use Rattle.p3_fri_transcript.specs.Replay.{RoundsReplay, rounds_replay}
use Rattle.p3_fri_transcript.specs.Replay.{polynomial_observed}
use Rattle.p3_fri_transcript.specs.Steps.{FriNumbers}
use Rattle.p3_fri_transcript.proofs.Replays.{queries_any}
use Rattle.p3_fri_relation.specs.Setting.{Fields}
use Rattle.p3_fri_prover.specs.Inputs.{of_length}
use Rattle.p3_fri_prover.specs.Refusals.{RoundsRefusal}
use Rattle.p3_fri_prover.specs.Rounds.{CanFold, AreCommitted, NoRoundWitness}
use Rattle.p3_fri_prover.specs.Played.{CanPlay, AllCommitted, IsPlayed, PlayRefusal}
use Rattle.p3_fri_prover.specs.Played.{polynomial_of, AreQueriesPlayed, QueriesRefusal}
use Rattle.p3_fri_prover.proofs.Committed.{word_so_far}
use Rattle.p3_fri_prover.proofs.Lists.{list_at}

-- where no witness passes, there are bits
pub bits_asked : {C W : Type 0} (observe : C → W → C) (draw_bits : C → ℕ → After C ℕ) (c : C)
    (bits : ℕ) (witness : W) → NonePasses observe draw_bits c bits → 0 < bits
bits_asked observe draw_bits c zero witness none = absurd (none witness refl)
bits_asked observe draw_bits c (suc bits) witness none = omega arith

pub lists_removed : {E A : Type 0} (vectors : List (Vec E A)) (k : ℕ)
    → lists (remove vectors k) ≡ remove (lists vectors) k
lists_removed [] zero = refl
lists_removed [] (suc k) = refl
lists_removed (v ∷ vectors) zero = refl
lists_removed (v ∷ vectors) (suc k) = ap (λ vs. v.items ∷ vs) (lists_removed vectors k)

-- the first of the inputs, and the others
pub record AreSplit {E A : Type 0} (inputs others : List (Vec E A)) (first : Vec E A) : Type 0 where
  pub some : 0 < length inputs
  pub first_is : first ≡ get_or inputs 0 first
  pub others_are : others ≡ remove inputs 0

module _ {E A : Type 0} {inputs others : List (Vec E A)} {first : Vec E A}
    (split : AreSplit inputs others first) where
  pub first_listed : get_or (lists inputs) 0 [] ≡ first.items
  first_listed = list_at inputs 0 first split.some split.first_is

  pub others_listed : lists others ≡ remove (lists inputs) 0
  others_listed = ap lists split.others_are ∙ lists_removed inputs 0

  pub first_length : vec_len first ≡ length (get_or (lists inputs) 0 [])
  first_length = first.ok.0 ∙ ap length (sym first_listed)

  -- what can be played can be folded
  pub playable_folds : (arities : List ℕ) (l most : ℕ)
      → CanPlay arities l most (length (get_or (lists inputs) 0 []))
      → CanFold (sum arities) most (vec_len first)
  playable_folds arities l most can = record {
    height = can.height;
    length_of_word = first_length ∙ can.length_of_word;
    within = can.within;
  }

  module _ {F C Com Data : Type 0} (committed : Data → List (RowMajorMatrix E))
      (commitment_of : Data → Com) (fields : Fields F E) (fold : ℕ → ℕ → ℕ → E → List E → E)
      (m : Moves C F E Com) (l : ℕ) (numbers : FriNumbers) (top : ℕ) (seeded : C)
      (solution : C → ℕ → Option F) (arities : List ℕ)
      (scheduled : arities ≡ numbers.log_arities) where
    -- the rounds, as they were played with the first input and the others
    abbrev Rounds : (commitments : List Com) (witnesses : List F) (kept : List Data)
        (word : List E) (reached : C) → Type 0
    Rounds commitments witnesses kept word reached =
        AreCommitted committed commitment_of m numbers.commit_pow_bits fields.base.zero solution
        fields.ext fold (λ k. of_length (lists others) (2 ^ k)) top first.items seeded arities
        commitments witnesses kept word reached

    pub all_committed : {commitments : List Com} {witnesses : List F} {kept : List Data}
        {word : List E} {reached : C} → Rounds commitments witnesses kept word reached
        → AllCommitted committed commitment_of fields fold m l numbers top (lists inputs) seeded
        solution commitments witnesses kept word reached
    all_committed {commitments} {witnesses} {kept} {word} {reached} rounds =
        let P : List (List E) → List E → List ℕ → Type 0 =
        λ words ys as'. AreCommitted committed commitment_of m numbers.commit_pow_bits
        fields.base.zero solution fields.ext fold (λ k. of_length words (2 ^ k)) top ys seeded as'
        commitments witnesses kept word reached in
        subst (P (remove (lists inputs) 0) (get_or (lists inputs) 0 [])) scheduled
        (subst (λ ys. P (remove (lists inputs) 0) ys arities) (sym first_listed)
        (subst (λ words. P words first.items arities) others_listed rounds))

    pub none_in_rounds : NoRoundWitness committed commitment_of m numbers.commit_pow_bits
        fields.base.zero solution fields.ext fold (λ k. of_length (lists others) (2 ^ k)) top
        first.items seeded arities
        → PlayRefusal committed commitment_of fields fold m l numbers top (lists inputs) seeded
        solution (Why.NoPowWitness CommitPhase)
    none_in_rounds none =
        let P : List (List E) → List E → List ℕ → Type 0 =
        λ words ys as'. NoRoundWitness committed commitment_of m numbers.commit_pow_bits
        fields.base.zero solution fields.ext fold (λ k. of_length words (2 ^ k)) top ys seeded as' in (
          bits_asked m.observe_value m.draw_bits
              (m.observe_commitment (rounds_replay m numbers.commit_pow_bits seeded
              none.stops.before none.stops.witnesses).state none.stops.next)
              numbers.commit_pow_bits fields.base.zero none.stops.none_passes,
          subst (P (remove (lists inputs) 0) (get_or (lists inputs) 0 [])) scheduled
              (subst (λ ys. P (remove (lists inputs) 0) ys arities) (sym first_listed)
              (subst (λ words. P words first.items arities) others_listed none)),
        )

    -- a refusal of the rounds is one of the test
    pub rounds_stop : (e : FriProverError)
        → RoundsRefusal committed commitment_of m numbers.commit_pow_bits fields.base.zero
        solution fields.ext fold (λ k. of_length (lists others) (2 ^ k)) top first.items seeded
        arities e
        → PlayRefusal committed commitment_of fields fold m l numbers top (lists inputs) seeded
        solution e
    rounds_stop (Why.NoPowWitness CommitPhase) refused = none_in_rounds refused
    rounds_stop (Why.NoPowWitness Batch) refused = absurd refused
    rounds_stop (Why.NoPowWitness Query) refused = absurd refused
    rounds_stop (Why.InputHeightTooSmall _ _) refused = absurd refused
    rounds_stop Why.FinalHeightOverflow refused = absurd refused
    rounds_stop Why.OutOfMemory refused = tt
    rounds_stop (Why.PointInEvaluationDomain _ _ _) refused = absurd refused

module _ {F E C Com Data : Type 0} {committed : Data → List (RowMajorMatrix E)}
    {commitment_of : Data → Com} (fields : Fields F E) {fold : ℕ → ℕ → ℕ → E → List E → E}
    {m : Moves C F E Com} (l : ℕ) (numbers : FriNumbers) {top : ℕ} (words : List (List E))
    {seeded : C} {solution : C → ℕ → Option F} {commitments : List Com} {witnesses : List F}
    {kept : List Data} {word : List E} {reached : C}
    (rounds : AllCommitted committed commitment_of fields fold m l numbers top words seeded solution
    commitments witnesses kept word reached) where
  -- what is left of the first input is long enough for the final polynomial
  pub last_word_long : (height : ℕ) → top ≡ height + sum numbers.log_arities → l ≤ height
      → length (get_or words 0 []) ≡ 2 ^ top → 2 ^ l ≤ length word
  last_word_long height is_top fits size =
      let left : top - sum numbers.log_arities ≡ height = omega (arith, is_top) in
      omega (
        arith,
        pow_mono fits,
        word_so_far fields.ext fold (λ k. of_length (remove words 0) (2 ^ k)) top
            numbers.log_arities rounds.betas (get_or words 0 []) word rounds.drawn size
            rounds.last_word
            ∙ ap (λ k. 2 ^ k) left,
      )

  -- a refusal of the queries after them is one of the test
  pub queries_stop : (own : FriNumbers) (e : FriProverError) → own ≡ numbers
      → QueriesRefusal fields m l own word reached e
      → PlayRefusal committed commitment_of fields fold m l numbers top words seeded solution e
  queries_stop own (Why.NoPowWitness Query) same refused =
      let N : C → FriNumbers → Type 0 =
      λ c n. NonePasses m.observe_value m.draw_bits
      (polynomial_observed m.observe_value fields.coefficients c (polynomial_of fields l word))
      n.query_pow_bits in
      let none_passes : N reached numbers = subst (N reached) same refused in (
        bits_asked m.observe_value m.draw_bits
            (polynomial_observed m.observe_value fields.coefficients reached
            (polynomial_of fields l word))
            numbers.query_pow_bits fields.base.zero none_passes,
        record {
          commitments = commitments;
          kept = kept;
          word = word;
          reached = reached;
          stops = record {
            witnesses = witnesses;
            count = rounds.witnesses_found ∙ sym rounds.commitments_made;
            found = rounds.found;
            passes = ap (λ (r : RoundsReplay _ _). r.passes) rounds.replay;
            none_passes = subst (λ c. N c numbers)
                (sym (ap (λ (r : RoundsReplay _ _). r.state) rounds.replay)) none_passes;
          };
          rounds = rounds;
        },
      )
  queries_stop own (Why.NoPowWitness Batch) same refused = absurd refused
  queries_stop own (Why.NoPowWitness CommitPhase) same refused = absurd refused
  queries_stop own (Why.InputHeightTooSmall _ _) same refused = absurd refused
  queries_stop own Why.FinalHeightOverflow same refused = absurd refused
  queries_stop own Why.OutOfMemory same refused = tt
  queries_stop own (Why.PointInEvaluationDomain _ _ _) same refused = absurd refused

  -- the queries after them end the test
  pub played_to_end : {final_poly : List E} {witness : F} {indices : List ℕ} {last : C}
      (own : FriNumbers) → own ≡ numbers
      → AreQueriesPlayed fields m l own word reached solution final_poly witness indices last
      → IsPlayed committed commitment_of fields fold m l numbers top words seeded solution
      commitments witnesses kept final_poly witness indices last
  played_to_end {final_poly} {witness} {indices} {last} own same ended = record {
    word = word;
    reached = reached;
    rounds = rounds;
    ended = subst (λ n. AreQueriesPlayed fields m l n word reached solution final_poly witness
        indices last) same ended;
  }

module _ {F E C A B : Type 0} (fields : Fields F E) (l : ℕ) (numbers : FriNumbers) (word : List E)
    (reached : C) (observe : C → F → C) (first : C → A → C) (second : C → B → C)
    (draw : C → After C F) (of_coefficients : List F → E) (dimension : ℕ)
    (draw_bits : C → ℕ → After C ℕ) where
  -- the queries don't look at how commitments are observed
  pub queries_alike : {solution : C → ℕ → Option F} {final_poly : List E} {witness : F}
      {indices : List ℕ} {last : C}
      → AreQueriesPlayed fields (moves observe first draw of_coefficients dimension draw_bits) l
      numbers word reached solution final_poly witness indices last
      → AreQueriesPlayed fields (moves observe second draw of_coefficients dimension draw_bits) l
      numbers word reached solution final_poly witness indices last
  queries_alike {final_poly = poly} {witness} ended = record {
    polynomial = ended.polynomial;
    queries = queries_any observe second first draw of_coefficients dimension draw_bits
        fields.coefficients numbers reached poly (Some witness) ∙ ended.queries;
    drawn = ended.drawn;
    found = ended.found;
  }

-- what a call refused, on the final polynomial of the word
pub queries_refused : {F E C Com : Type 0} (fields : Fields F E) (m : Moves C F E Com) (l : ℕ)
    (numbers : FriNumbers) (word : List E) (reached : C) (final_poly : List E) (e : FriProverError)
    → final_poly ≡ polynomial_of fields l word
    → (e ≡ Why.NoPowWitness Query) ⊎ (e ≡ Why.OutOfMemory)
    → (e ≡ Why.NoPowWitness Query → NonePasses m.observe_value m.draw_bits
    (polynomial_observed m.observe_value fields.coefficients reached final_poly)
    numbers.query_pow_bits)
    → QueriesRefusal fields m l numbers word reached e
queries_refused fields m l numbers word reached final_poly e is_polynomial (inl is) none =
    subst (QueriesRefusal fields m l numbers word reached) (sym is)
    (subst (λ poly. NonePasses m.observe_value m.draw_bits
    (polynomial_observed m.observe_value fields.coefficients reached poly) numbers.query_pow_bits)
    is_polynomial (none is))
queries_refused fields m l numbers word reached final_poly e is_polynomial (inr is) none =
    subst (QueriesRefusal fields m l numbers word reached) (sym is) tt
