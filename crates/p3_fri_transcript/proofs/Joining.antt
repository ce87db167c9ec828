-- Replays joined, for a prover that plays its rounds one by one: the rounds so far and the next one
-- are all rounds up to it, and all rounds and the queries are the whole test.
use Rattle.std.proofs.Common.{◌≡◌, ℕ, Bool, true, false, ◌&&◌, List, [], ◌∷◌, ◌++◌, length}
use Rattle.std.proofs.Common.{Option, Some, refl, sym, ap, ◌∙◌, arith}
use Rattle.std.specs.List.{All}
use Rattle.std.proofs.lemmas.List.Elements.{All-nil, All-cons}
use Rattle.algebra.specs.Field.{FieldOps}
use Rattle.p3_challenger_core.specs.Run.{Moves}
use Rattle.p3_challenger_fs.specs.Turns.{bytes_observed}
use Rattle.p3_fri_pow.specs.Pow.{sent_witness}
use Rattle.p3_fri_pow.proofs.Found.{sent_zero}
use Rattle.p3_fri_transcript.specs.Steps.{FriNumbers}
use Rattle.p3_fri_transcript.specs.Replay.{RoundsReplay, rounds_replay, round_replay}
use Rattle.p3_fri_transcript.specs.Replay.{QueriesReplay, shown_queries_replay}
use Rattle.p3_fri_transcript.specs.Replay.{FriReplay, fri_replay}
use Rattle.p3_fri_transcript.specs.Found.{RoundsFound}

and_true : (p : Bool) → p && true ≡ p
and_true true = refl
and_true false = refl

and_assoc : (p q r : Bool) → p && (q && r) ≡ (p && q) && r
and_assoc true q r = refl
and_assoc false q r = refl

module _ {C F E Com : Type 0} (m : Moves C F E Com) where
  -- what a round adds to those before it
  abbrev with_round : ℕ → Com → F → RoundsReplay C E → RoundsReplay C E
  with_round bits commitment witness before =
      let last = round_replay m bits before.state commitment witness in
      record {
        passes = before.passes && last.passes;
        betas = before.betas ++ last.betas;
        state = last.state;
      }

  rounds-append : (bits : ℕ) (c : C) (commitments : List Com) (witnesses : List F)
      (commitment : Com) (witness : F) → length commitments ≡ length witnesses
      → rounds_replay m bits c (commitments ++ commitment ∷ []) (witnesses ++ witness ∷ [])
      ≡ with_round bits commitment witness (rounds_replay m bits c commitments witnesses)
  unfolding rounds_replay
  rounds-append bits c [] [] commitment witness same =
      let last = round_replay m bits c commitment witness in
      ap (λ p. record { passes = p; betas = last.betas; state = last.state }) (and_true last.passes)
  rounds-append bits c [] (w ∷ ws) commitment witness same = cc
  rounds-append bits c (d ∷ ds) [] commitment witness same = cc
  rounds-append bits c (d ∷ ds) (w ∷ ws) commitment witness same =
      let first = round_replay m bits c d w in
      let before = rounds_replay m bits first.state ds ws in
      let last = round_replay m bits before.state commitment witness in
      let put : RoundsReplay C E → RoundsReplay C E =
      λ r. record { passes = first.passes && r.passes; betas = first.betas ++ r.betas; state = r.state } in
      ap put (rounds-append bits first.state ds ws commitment witness (omega (arith, same)))
      ∙ ap (λ p. record {
        passes = p;
        betas = first.betas ++ (before.betas ++ last.betas);
        state = last.state;
      }) (and_assoc first.passes before.passes last.passes)

  -- no round
  pub no_rounds : (bits : ℕ) (c : C) (witnesses : List F)
      → rounds_replay m bits c [] witnesses ≡ record { passes = true; betas = []; state = c }
  unfolding rounds_replay
  no_rounds bits c witnesses = refl

  -- the rounds so far, which led from `start` to `now`, and one more, which led to `after`
  pub round_joined : (bits : ℕ) (start now after : C) (commitments : List Com) (witnesses : List F)
      (betas : List E) (commitment : Com) (witness : F) (beta : E)
      → length witnesses ≡ length commitments
      → rounds_replay m bits start commitments witnesses
      ≡ record { passes = true; betas = betas; state = now }
      → round_replay m bits now commitment witness
      ≡ record { passes = true; betas = beta ∷ []; state = after }
      → rounds_replay m bits start (commitments ++ commitment ∷ []) (witnesses ++ witness ∷ [])
      ≡ record { passes = true; betas = betas ++ beta ∷ []; state = after }
  round_joined bits start now after commitments witnesses betas commitment witness beta count so_far
      played =
      let put : RoundsReplay C E → RoundsReplay C E =
      λ r. record { passes = r.passes; betas = betas ++ r.betas; state = r.state } in
      rounds-append bits start commitments witnesses commitment witness (sym count)
      ∙ ap (with_round bits commitment witness) so_far ∙ ap put played

  -- and so of the witnesses that a search gives
  pub found_joined : (zero : F) (solution : C → ℕ → Option F) (bits : ℕ) (start : C)
      (commitments : List Com) (witnesses : List F) (commitment : Com) (witness : F)
      → length witnesses ≡ length commitments
      → RoundsFound m zero solution bits start commitments witnesses
      → sent_witness zero solution
      (m.observe_commitment (rounds_replay m bits start commitments witnesses).state commitment) bits
      ≡ Some witness
      → RoundsFound m zero solution bits start (commitments ++ commitment ∷ [])
      (witnesses ++ witness ∷ [])
  unfolding rounds_replay
  found_joined zero solution bits start [] [] commitment witness count found last = (last, tt)
  found_joined zero solution bits start [] (w ∷ ws) commitment witness count found last = absurd cc
  found_joined zero solution bits start (d ∷ ds) [] commitment witness count found last = absurd cc
  found_joined zero solution bits start (d ∷ ds) (w ∷ ws) commitment witness count found last =
      let next = (round_replay m bits start d w).state in
      let fewer : length ws ≡ length ds = omega (arith, count) in
      (found.0, found_joined zero solution bits next ds ws commitment witness fewer found.1 last)

  -- at no bits each of them is zero
  pub found_zero : (zero : F) (solution : C → ℕ → Option F) (bits : ℕ) (c : C)
      (commitments : List Com) (witnesses : List F) → length witnesses ≡ length commitments
      → RoundsFound m zero solution bits c commitments witnesses
      → bits ≡ 0 → All (λ w. w ≡ zero) witnesses
  found_zero zero solution bits c commitments [] count found none = All-nil (λ w. w ≡ zero)
  found_zero zero solution bits c [] (w ∷ ws) count found none = absurd (omega (arith, count))
  found_zero zero solution bits c (d ∷ ds) (w ∷ ws) count found none =
      All-cons (λ v. v ≡ zero) w ws
      (sent_zero zero solution (m.observe_commitment c d) bits w found.0 none)
      (found_zero zero solution bits (round_replay m bits c d w).state ds ws
      (omega (arith, count)) found.1 none)

  module _ (coefficients : E → List F) (shape : FriNumbers) where
    -- all rounds and the queries after them
    pub queries_joined : (ops : FieldOps F) (stream : List ℕ) (c seeded after last : C)
        (commitments : List Com) (witnesses : List F) (final_poly : List E) (witness : Option F)
        (betas : List E) (indices : List ℕ)
        → seeded ≡ bytes_observed ops m.observe_value c stream
        → rounds_replay m shape.commit_pow_bits seeded commitments witnesses
        ≡ record { passes = true; betas = betas; state = after }
        → shown_queries_replay m coefficients shape after final_poly witness
        ≡ record { passes = true; indices = indices; state = last }
        → fri_replay m coefficients shape ops stream c commitments witnesses final_poly witness
        ≡ record { passes = true; betas = betas; indices = indices; state = last }
    unfolding fri_replay
    queries_joined ops stream c seeded after last commitments witnesses final_poly witness betas
        indices first rounds queries =
        let bits = shape.commit_pow_bits in
        let queried : C → QueriesReplay C =
        λ s. shown_queries_replay m coefficients shape s final_poly witness in
        let from_rounds : RoundsReplay C E → FriReplay C E =
        λ r. record {
          passes = r.passes && (queried r.state).passes;
          betas = r.betas;
          indices = (queried r.state).indices;
          state = (queried r.state).state;
        } in
        let from_queries : QueriesReplay C → FriReplay C E =
        λ q. record { passes = q.passes; betas = betas; indices = q.indices; state = q.state } in
        ap (λ s. from_rounds (rounds_replay m bits s commitments witnesses)) (sym first)
        ∙ ap from_rounds rounds ∙ ap from_queries queries

-- once the stream is absorbed, the replay with none is that of the whole
module _ {C F E Com : Type 0} (m : Moves C F E Com) (coefficients : E → List F) (shape : FriNumbers)
    (ops : FieldOps F) (stream : List ℕ) (c seeded : C)
    (absorbed : seeded ≡ bytes_observed ops m.observe_value c stream) (commitments : List Com)
    (witnesses : List F) (final_poly : List E) (witness : Option F) where
  abbrev replay_from : List ℕ → C → FriReplay C E
  replay_from bytes s =
      fri_replay m coefficients shape ops bytes s commitments witnesses final_poly witness

  pub replay_absorbed : replay_from stream c ≡ replay_from [] seeded
  unfolding fri_replay
  replay_absorbed =
      let all : C → FriReplay C E =
      λ s.
      let rounds = rounds_replay m shape.commit_pow_bits s commitments witnesses in
      let queries = shown_queries_replay m coefficients shape rounds.state final_poly witness in
      record {
        passes = rounds.passes && queries.passes;
        betas = rounds.betas;
        indices = queries.indices;
        state = queries.state;
      } in
      ap all (sym absorbed)
