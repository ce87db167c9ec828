-- The replay of a test by its rounds and its queries: what is drawn, how many, and where positions
-- lie.
use Rattle.std.proofs.Common.{◌≡◌, ℕ, suc, ◌+◌, ◌/◌, ◌^◌, ◌<◌, List, [], ◌∷◌, length}
use Rattle.std.proofs.Common.{refl, ap, ◌∙◌, arith, pow_pos}
use Rattle.std.specs.List.{All}
use Rattle.std.proofs.Math.Nat.{div-lt_iff_lt-mul}
use Rattle.std.proofs.lemmas.Nat.{pow-add}
use Rattle.std.proofs.lemmas.List.{length-map}
use Rattle.std.proofs.lemmas.List.Elements.{All-map, All-weaker}
use Rattle.p3_challenger_core.specs.Run.{Moves}
use Rattle.p3_fri_transcript.specs.Replay.{rounds_replay, round_replay, shown_queries_replay, fri_replay}
use Rattle.p3_fri_relation.specs.Setting.{Setting, Parameters, CommitmentClaim, Proof}
use Rattle.p3_fri_relation.specs.Acceptance.{top_height, test_replay, rounds_replayed}
use Rattle.p3_fri_relation.specs.Acceptance.{positions}
use Rattle.p3_fri_transcript.proofs.Indices.{length-draws}

module _ {C F E Com : Type 0} (m : Moves C F E Com) where
  -- a challenge for each round
  pub length-betas : (bits : ℕ) (c : C) (commitments : List Com) (witnesses : List F)
      → length commitments ≡ length witnesses
      → length (rounds_replay m bits c commitments witnesses).betas ≡ length commitments
  unfolding rounds_replay
  length-betas bits c [] [] same = refl
  length-betas bits c [] (w ∷ ws) same = refl
  length-betas bits c (d ∷ ds) [] same = absurd (omega (arith, same))
  length-betas bits c (d ∷ ds) (w ∷ ws) same = ap (λ n. suc n) (length-betas bits (round_replay m bits c d w).state ds ws (omega (arith, same)))

module _ {F E C Com Path InCom InPath : Type 0} (s : Setting F E C Com Path InCom InPath)
    (p : Parameters) (claims : List (CommitmentClaim E InCom)) (proof : Proof F E Com Path InPath)
    (c : C) where
  -- the challenges are the rounds', the indices and the last state the queries', and the test
  -- passes where both do
  pub replay-betas : (test_replay s p claims proof c).betas ≡ (rounds_replayed s p claims proof c).betas
  unfolding fri_replay
  replay-betas = refl

  -- as many challenges as commitments
  pub length-replay_betas : length proof.commitments ≡ length proof.commit_witnesses
      → length (test_replay s p claims proof c).betas ≡ length proof.commitments
  length-replay_betas same = ap length replay-betas ∙ length-betas s.moves p.commit_pow_bits _ proof.commitments proof.commit_witnesses same

  -- a position for each query
  pub length-positions : length (positions s p claims proof c) ≡ p.num_queries
  unfolding fri_replay shown_queries_replay
  length-positions = length-map _ _ ∙ length-draws _ _ p.num_queries

  -- positions lie in the word of the greatest log height, where the indices fit their width
  pub positions-below : All (λ index. index < 2 ^ (top_height p claims + s.extra_bits)) (test_replay s p claims proof c).indices
      → All (λ position. position < 2 ^ top_height p claims) (positions s p claims proof c)
  positions-below fit = All-map (λ position. position < 2 ^ top_height p claims) (λ index. index / 2 ^ s.extra_bits) (test_replay s p claims proof c).indices
      (All-weaker (λ index. index < 2 ^ (top_height p claims + s.extra_bits)) (λ index. index / 2 ^ s.extra_bits < 2 ^ top_height p claims)
      (λ index below. (div-lt_iff_lt-mul (pow_pos s.extra_bits)).1 (rw (← pow-add 2 (top_height p claims) s.extra_bits) below))
      (test_replay s p claims proof c).indices fit)
