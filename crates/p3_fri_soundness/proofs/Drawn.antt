-- Each drawn position is one of the word of the greatest log height.
use Rattle.std.proofs.Common.{◌+◌, ◌^◌, ◌<◌, List, refl, All}
use Rattle.p3_fri_relation.specs.Setting.{Setting, Parameters, CommitmentClaim, Proof}
use Rattle.p3_fri_relation.specs.Acceptance.{top_height, positions, test_replay, log_arities}
use Rattle.p3_fri_relation.specs.TestRounds.{bound_numbers}
use Rattle.p3_fri_relation.proofs.TestReplays.{positions-below}
use Rattle.p3_fri_transcript.specs.Replay.{fri_replay, shown_queries_replay}
use Rattle.p3_fri_transcript.proofs.Indices.{draws_are_indices}
use Rattle.p3_fri_soundness.specs.Laws.{DrawsFit}

module _ {F E C Com Path InCom InPath : Type 0} (s : Setting F E C Com Path InCom InPath) (p : Parameters) (claims : List (CommitmentClaim E InCom))
    (proof : Proof F E Com Path InPath) (c : C) (fit : DrawsFit s.moves (top_height p claims + s.extra_bits)) where
  indices_below : All (λ index. index < 2 ^ (top_height p claims + s.extra_bits)) (test_replay s p claims proof c).indices
  unfolding fri_replay shown_queries_replay
  indices_below = (draws_are_indices (λ d. s.moves.draw_bits d (top_height p claims + s.extra_bits))
      (bound_numbers p (log_arities p claims) (top_height p claims) s.extra_bits) fit _ _ refl).below

  pub drawn_inside : All (λ position. position < 2 ^ top_height p claims) (positions s p claims proof c)
  drawn_inside = positions-below s p claims proof c indices_below
