-- Replays, put together from what single calls did.
use Rattle.std.proofs.Common.{◌≡◌, ℕ, ◌+◌, ◌<◌, ◌≤◌, true, ◌&&◌, IsTrue, List, [], ◌∷◌, ◌++◌}
use Rattle.std.proofs.Common.{length, take, drop, get_or, Option, Some, refl, sym, ap, ◌∙◌, arith}
use Rattle.std.proofs.Common.{subst}
use Rattle.std.proofs.Common.{append_assoc, append-nil}
use Rattle.std.proofs.lemmas.List.{drop_all, take_more, length-take}
use Rattle.algebra.specs.Field.{FieldOps}
use Rattle.p3_challenger_core.specs.Run.{After, Moves, moves, draws, grind_attempt}
use Rattle.p3_challenger_fs.specs.Turns.{bytes_observed}
use Rattle.p3_fri_pow.specs.Pow.{shown_attempt, sent_witness}
use Rattle.p3_fri_pow.proofs.Lists.{next_item}
use Rattle.p3_fri_transcript.specs.Steps.{FriNumbers}
use Rattle.p3_fri_transcript.specs.Replay.{RoundsReplay, rounds_replay, round_replay}
use Rattle.p3_fri_transcript.specs.Replay.{QueriesReplay, queries_replay, shown_queries_replay}
use Rattle.p3_fri_transcript.specs.Replay.{FriReplay, fri_replay, polynomial_observed}
use Rattle.p3_fri_transcript.specs.Found.{RoundsFound}
use Rattle.p3_fri_transcript.proofs.Events.{left_of}
use Rattle.p3_fri_transcript.proofs.Joining.{round_joined, found_joined, no_rounds}

-- the first entries of a list and the one there
pub take_next : {A : Type 0} (xs : List A) (i : ℕ) (x : A) → i < length xs → x ≡ get_or xs i x
    → take (i + 1) xs ≡ take i xs ++ x ∷ []
take_next xs i x less is = take_more xs i x less ∙ ap (λ y. take i xs ++ y ∷ []) (sym is)

module _ {C F E Com : Type 0} (m : Moves C F E Com) where
  module _ (coefficients : E → List F) (shape : FriNumbers) (c observed ground last : C)
      (final_poly : List E) where
    pub shown_queries_are : (witness : Option F) (indices : List ℕ)
        → observed ≡ polynomial_observed m.observe_value coefficients c final_poly
        → IsTrue (shown_attempt m.observe_value m.draw_bits observed shape.query_pow_bits witness).value
        → ground
        ≡ (shown_attempt m.observe_value m.draw_bits observed shape.query_pow_bits witness).state
        → indices ≡ (draws (λ s. m.draw_bits s shape.index_bits) ground shape.num_queries).value
        → last ≡ (draws (λ s. m.draw_bits s shape.index_bits) ground shape.num_queries).state
        → shown_queries_replay m coefficients shape c final_poly witness
        ≡ record { passes = true; indices = indices; state = last }
    unfolding shown_queries_replay
    shown_queries_are witness indices first passes second drawn state =
        let attempt : C → After C _ =
        λ s. shown_attempt m.observe_value m.draw_bits s shape.query_pow_bits witness in
        let draw : C → After C (List ℕ) =
        λ s. draws (λ t. m.draw_bits t shape.index_bits) s shape.num_queries in
        let at_ground : _ → QueriesReplay C =
        λ p. record { passes = p; indices = (draw ground).value; state = (draw ground).state } in
        ap (λ s. record {
          passes = (attempt s).value;
          indices = (draw (attempt s).state).value;
          state = (draw (attempt s).state).state;
        }) (sym first)
        ∙ ap (λ s. record {
          passes = (attempt observed).value;
          indices = (draw s).value;
          state = (draw s).state;
        }) (sym second)
        ∙ ap at_ground passes
        ∙ ap (λ xs. record { passes = true; indices = xs; state = (draw ground).state }) (sym drawn)
        ∙ ap (λ s. record { passes = true; indices = indices; state = s }) (sym state)

    -- with a witness
    pub queries_are : (witness : F) (indices : List ℕ)
        → observed ≡ polynomial_observed m.observe_value coefficients c final_poly
        → IsTrue (grind_attempt m.observe_value m.draw_bits observed shape.query_pow_bits witness).value
        → ground
        ≡ (grind_attempt m.observe_value m.draw_bits observed shape.query_pow_bits witness).state
        → indices ≡ (draws (λ s. m.draw_bits s shape.index_bits) ground shape.num_queries).value
        → last ≡ (draws (λ s. m.draw_bits s shape.index_bits) ground shape.num_queries).state
        → queries_replay m coefficients shape c final_poly witness
        ≡ record { passes = true; indices = indices; state = last }
    queries_are witness indices first passes second drawn state =
        shown_queries_are (Some witness) indices first passes second drawn state

  -- whether the queries pass is whether their proof of work does
  pub queries_pass : (coefficients : E → List F) (shape : FriNumbers) (c observed : C)
      (final_poly : List E) (witness : Option F)
      → observed ≡ polynomial_observed m.observe_value coefficients c final_poly
      → (shown_queries_replay m coefficients shape c final_poly witness).passes
      ≡ (shown_attempt m.observe_value m.draw_bits observed shape.query_pow_bits witness).value
  unfolding shown_queries_replay
  queries_pass coefficients shape c observed final_poly witness is =
      ap (λ s. (shown_attempt m.observe_value m.draw_bits s shape.query_pow_bits witness).value) (sym is)

  module _ (bits : ℕ) where
    -- from `now` on, with the commitments and witnesses from `i` on
    abbrev pub rounds_from : C → List Com → List F → ℕ → RoundsReplay C E
    rounds_from now commitments witnesses i =
        rounds_replay m bits now (drop i commitments) (drop i witnesses)

    -- none is left at the end
    rounds-end : (c : C) (commitments : List Com) (witnesses : List F) (i : ℕ)
        → length commitments ≤ i
        → rounds_from c commitments witnesses i ≡ record { passes = true; betas = []; state = c }
    unfolding rounds_replay
    rounds-end c commitments witnesses i reached =
        ap (λ ds. rounds_replay m bits c ds (drop i witnesses)) (drop_all i commitments reached)

    module _ (commitments : List Com) (witnesses : List F) (i : ℕ) (commitment : Com) (witness : F)
        (some_left : i < length commitments) (witness_left : i < length witnesses)
        (is_commitment : commitment ≡ get_or commitments i commitment)
        (is_witness : witness ≡ get_or witnesses i witness) where
      -- what is left begins with this round
      rounds-first : (c : C) → rounds_from c commitments witnesses i
          ≡ rounds_replay m bits c (commitment ∷ drop (i + 1) commitments)
          (witness ∷ drop (i + 1) witnesses)
      rounds-first c =
          ap (λ ds. rounds_replay m bits c ds (drop i witnesses))
          (next_item commitments i commitment some_left is_commitment)
          ∙ ap (λ ws. rounds_replay m bits c (commitment ∷ drop (i + 1) commitments) ws)
          (next_item witnesses i witness witness_left is_witness)

      -- where the rounds that are left pass, the next does
      rounds-pass : (c : C) → (rounds_from c commitments witnesses i).passes ≡ true
          → (round_replay m bits c commitment witness).passes ≡ true
      unfolding rounds_replay
      rounds-pass c pass =
          let next = round_replay m bits c commitment witness in
          left_of next.passes (rounds_from next.state commitments witnesses (i + 1)).passes
          (sym (ap (λ (r : RoundsReplay _ _). r.passes) (rounds-first c)) ∙ pass)

      -- the next round of those that are left, where it passes
      rounds-next : (c after : C) (beta : E)
          → round_replay m bits c commitment witness
          ≡ record { passes = true; betas = beta ∷ []; state = after }
          → rounds_from c commitments witnesses i
          ≡ (let left = rounds_from after commitments witnesses (i + 1) in
          record { passes = left.passes; betas = beta ∷ left.betas; state = left.state })
      unfolding rounds_replay
      rounds-next c after beta played =
          rounds-first c
          ∙ ap (λ (r : RoundsReplay _ _).
          let left = rounds_from r.state commitments witnesses (i + 1) in
          record { passes = r.passes && left.passes; betas = r.betas ++ left.betas; state = left.state })
          played

    -- from the state `now`, with these challenges drawn, the rounds from `i` on give what all
    -- rounds give from the start
    pub record IsAlong (start : C) (commitments : List Com) (witnesses : List F) (i : ℕ)
        (betas : List E) (now : C) : Type 0 where
      pub passes : (rounds_from now commitments witnesses i).passes
          ≡ (rounds_replay m bits start commitments witnesses).passes
      pub betas_drawn : betas ++ (rounds_from now commitments witnesses i).betas
          ≡ (rounds_replay m bits start commitments witnesses).betas
      pub state : (rounds_from now commitments witnesses i).state
          ≡ (rounds_replay m bits start commitments witnesses).state

    -- before the first round
    pub along-none : (start : C) (commitments : List Com) (witnesses : List F) (betas : List E)
        → betas ≡ [] → IsAlong start commitments witnesses 0 betas start
    along-none start commitments witnesses betas none = record {
      passes = refl;
      betas_drawn =
          ap (λ drawn. drawn ++ (rounds_replay m bits start commitments witnesses).betas) none;
      state = refl;
    }

    pub along-next : (start now after : C) (commitments : List Com) (witnesses : List F) (i : ℕ)
        (betas pushed : List E) (commitment : Com) (witness : F) (beta : E)
        → i < length commitments → i < length witnesses
        → commitment ≡ get_or commitments i commitment → witness ≡ get_or witnesses i witness
        → round_replay m bits now commitment witness
        ≡ record { passes = true; betas = beta ∷ []; state = after }
        → pushed ≡ betas ++ beta ∷ []
        → IsAlong start commitments witnesses i betas now
        → IsAlong start commitments witnesses (i + 1) pushed after
    along-next start now after commitments witnesses i betas pushed commitment witness beta some_left
        witness_left is_commitment is_witness played is_pushed along =
        let next =
        rounds-next commitments witnesses i commitment witness some_left witness_left is_commitment
        is_witness now after beta played in
        let left = rounds_from after commitments witnesses (i + 1) in
        record {
          passes = sym (ap (λ (r : RoundsReplay _ _). r.passes) next) ∙ along.passes;
          betas_drawn =
              ap (λ drawn. drawn ++ left.betas) is_pushed
              ∙ append_assoc betas (beta ∷ []) left.betas
              ∙ sym (ap (λ (r : RoundsReplay _ _). betas ++ r.betas) next) ∙ along.betas_drawn;
          state = sym (ap (λ (r : RoundsReplay _ _). r.state) next) ∙ along.state;
        }

    -- where all rounds pass, the next does
    pub along-passes : (start now : C) (commitments : List Com) (witnesses : List F) (i : ℕ)
        (betas : List E) (commitment : Com) (witness : F)
        → i < length commitments → i < length witnesses
        → commitment ≡ get_or commitments i commitment → witness ≡ get_or witnesses i witness
        → IsAlong start commitments witnesses i betas now
        → (rounds_replay m bits start commitments witnesses).passes ≡ true
        → (round_replay m bits now commitment witness).passes ≡ true
    along-passes start now commitments witnesses i betas commitment witness some_left witness_left
        is_commitment is_witness along pass =
        rounds-pass commitments witnesses i commitment witness some_left witness_left is_commitment
        is_witness now (along.passes ∙ pass)

    -- at the end all rounds were replayed
    pub along-end : (start now : C) (commitments : List Com) (witnesses : List F) (i : ℕ)
        (betas : List E) → length commitments ≤ i
        → IsAlong start commitments witnesses i betas now
        → rounds_replay m bits start commitments witnesses
        ≡ record { passes = true; betas = betas; state = now }
    along-end start now commitments witnesses i betas reached along =
        let all = rounds_replay m bits start commitments witnesses in
        let ended = rounds-end now commitments witnesses i reached in
        let passes : all.passes ≡ true =
        sym along.passes ∙ ap (λ (r : RoundsReplay _ _). r.passes) ended in
        let drawn : all.betas ≡ betas =
        sym along.betas_drawn ∙ ap (λ (r : RoundsReplay _ _). betas ++ r.betas) ended
        ∙ append-nil betas in
        let state : all.state ≡ now = sym along.state ∙ ap (λ (r : RoundsReplay _ _). r.state) ended in
        ap (λ p. record { passes = p; betas = all.betas; state = all.state }) passes
        ∙ ap (λ bs. record { passes = true; betas = bs; state = all.state }) drawn
        ∙ ap (λ s. record { passes = true; betas = betas; state = s }) state

    -- the rounds so far and the next one
    pub rounds_more : (start now after : C) (commitments : List Com) (found pushed : List F)
        (betas drawn : List E) (i : ℕ) (commitment : Com) (witness : F) (beta : E)
        → i < length commitments → commitment ≡ get_or commitments i commitment → length found ≡ i
        → rounds_replay m bits start (take i commitments) found
        ≡ record { passes = true; betas = betas; state = now }
        → round_replay m bits now commitment witness
        ≡ record { passes = true; betas = beta ∷ []; state = after }
        → pushed ≡ found ++ witness ∷ [] → drawn ≡ betas ++ beta ∷ []
        → rounds_replay m bits start (take (i + 1) commitments) pushed
        ≡ record { passes = true; betas = drawn; state = after }
    rounds_more start now after commitments found pushed betas drawn i commitment witness beta
        some_left is_commitment count so_far played is_pushed is_drawn =
        ap (λ ds. rounds_replay m bits start ds pushed)
        (take_next commitments i commitment some_left is_commitment)
        ∙ ap (λ ws. rounds_replay m bits start (take i commitments ++ commitment ∷ []) ws) is_pushed
        ∙ round_joined m bits start now after (take i commitments) found betas commitment witness beta
        (omega (arith, length-take i commitments, count)) so_far played
        ∙ ap (λ bs. record { passes = true; betas = bs; state = after }) (sym is_drawn)

    -- and the witnesses that a search gave
    pub found_more : (zero : F) (solution : C → ℕ → Option F) (start now : C)
        (commitments : List Com) (found pushed : List F) (betas : List E) (i : ℕ) (commitment : Com)
        (witness : F)
        → i < length commitments → commitment ≡ get_or commitments i commitment → length found ≡ i
        → rounds_replay m bits start (take i commitments) found
        ≡ record { passes = true; betas = betas; state = now }
        → RoundsFound m zero solution bits start (take i commitments) found
        → sent_witness zero solution (m.observe_commitment now commitment) bits ≡ Some witness
        → pushed ≡ found ++ witness ∷ []
        → RoundsFound m zero solution bits start (take (i + 1) commitments) pushed
    found_more zero solution start now commitments found pushed betas i commitment witness some_left
        is_commitment count so_far found_so_far last is_pushed =
        let P : List Com → List F → Type 0 =
        λ ds ws. RoundsFound m zero solution bits start ds ws in
        let reached : (rounds_replay m bits start (take i commitments) found).state ≡ now =
        ap (λ (r : RoundsReplay _ _). r.state) so_far in
        subst (λ ds. P ds pushed) (sym (take_next commitments i commitment some_left is_commitment))
        (subst (P (take i commitments ++ commitment ∷ [])) (sym is_pushed)
        (found_joined m zero solution bits start (take i commitments) found commitment witness
        (omega (arith, length-take i commitments, count)) found_so_far
        (ap (λ s. sent_witness zero solution (m.observe_commitment s commitment) bits) reached ∙ last)))

    -- no round gives no challenge
    pub rounds-none : (c : C) (witnesses : List F) (betas : List E) → betas ≡ []
        → rounds_replay m bits c [] witnesses ≡ record { passes = true; betas = betas; state = c }
    rounds-none c witnesses betas none =
        no_rounds m bits c witnesses
        ∙ ap (λ bs. record { passes = true; betas = bs; state = c }) (sym none)

  module _ (coefficients : E → List F) (shape : FriNumbers) (ops : FieldOps F) (stream : List ℕ)
      (c seeded : C) (commitments : List Com) (witnesses : List F) (final_poly : List E)
      (witness : Option F) (first : seeded ≡ bytes_observed ops m.observe_value c stream)
      (pass : (fri_replay m coefficients shape ops stream c commitments witnesses final_poly
      witness).passes ≡ true) where
    -- where a whole test passes, its rounds do
    pub fri_passes :
        (rounds_replay m shape.commit_pow_bits seeded commitments witnesses).passes ≡ true
    unfolding fri_replay
    fri_passes =
        let bits = shape.commit_pow_bits in
        let begun = bytes_observed ops m.observe_value c stream in
        let rounds = rounds_replay m bits begun commitments witnesses in
        ap (λ s. (rounds_replay m bits s commitments witnesses).passes) first
        ∙ left_of rounds.passes
        (shown_queries_replay m coefficients shape rounds.state final_poly witness).passes pass

    -- and its queries
    pub fri_queries_pass : (after : C) (betas : List E)
        → rounds_replay m shape.commit_pow_bits seeded commitments witnesses
        ≡ record { passes = true; betas = betas; state = after }
        → (shown_queries_replay m coefficients shape after final_poly witness).passes ≡ true
    unfolding fri_replay
    fri_queries_pass after betas rounds =
        let both = λ (r : RoundsReplay _ _).
        r.passes && (shown_queries_replay m coefficients shape r.state final_poly witness).passes in
        let bits = shape.commit_pow_bits in
        sym (ap (λ s. both (rounds_replay m bits s commitments witnesses)) (sym first) ∙ ap both rounds)
        ∙ pass

-- the queries don't look at how commitments are observed
pub queries_any : {C F E A B : Type 0} (observe : C → F → C) (first : C → A → C) (second : C → B → C)
    (draw : C → After C F) (of_coefficients : List F → E) (dimension : ℕ)
    (draw_bits : C → ℕ → After C ℕ) (coefficients : E → List F) (shape : FriNumbers) (c : C)
    (final_poly : List E) (witness : Option F)
    → shown_queries_replay (moves observe first draw of_coefficients dimension draw_bits)
    coefficients shape c final_poly witness
    ≡ shown_queries_replay (moves observe second draw of_coefficients dimension draw_bits)
    coefficients shape c final_poly witness
unfolding shown_queries_replay
queries_any observe first second draw of_coefficients dimension draw_bits coefficients shape c
    final_poly witness = refl

-- the same with the last state under another name
pub fri_ends : {C E : Type 0} (replay : FriReplay C E) (betas : List E) (indices : List ℕ)
    (last found : C)
    → replay ≡ record { passes = true; betas = betas; indices = indices; state = last }
    → last ≡ found
    → replay ≡ record { passes = true; betas = betas; indices = indices; state = found }
fri_ends replay betas indices last found is same =
    is ∙ ap (λ s. record { passes = true; betas = betas; indices = indices; state = s }) same
