-- What a prover asks for, and why it refuses.
use Rattle.std.specs.Prelude.{ℕ, ◌+◌, ◌<◌, ◌≤◌, ◌⊎◌, List, All, Option, ⊤}
use Rattle.p3_challenger_fs.specs.Turns.{bytes_observed}
use Rattle.p3_matrix.specs.declared.dense.RowMajorMatrix.{RowMajorMatrix}
use Rattle.p3_fri_folding.specs.declared.error.FriProverError.{FriProverError}
use Rattle.p3_fri_folding.specs.declared.error.FriProverError.TheVariants.{InputHeightTooSmall}
use Rattle.p3_fri_folding.specs.declared.error.FriProverError.TheVariants.{FinalHeightOverflow}
use Rattle.p3_fri_transcript.specs.Steps.{fri_stream}
use Rattle.p3_fri_relation.specs.Setting.{Setting, Parameters}
use Rattle.p3_fri_prover.specs.Played.{PlayRefusal}
use Rattle.p3_fri_prover.specs.Proved.{fri_numbers}
use Rattle.p3_fri_relation.specs.TallEnough.{IsTallEnough}
use Rattle.p3_fri_prover.specs.Refusals.{HeightsRefusal}

-- the parameters are in a prover's range: the log blowup is below 64, a round's arity may be more
-- than one, and the challenger draws as many bits at once as an index has in a field of this
-- two-adicity, and as each difficulty of the test
pub record IsInProverRange (p : Parameters) (two_adicity extra_bits max_sample_bits : ℕ)
    : Type 0 where
  pub blowup : p.log_blowup < 64
  pub cap : 0 < p.max_log_arity
  pub index_bits : two_adicity + extra_bits ≤ max_sample_bits
  pub commit_bits : p.commit_pow_bits ≤ max_sample_bits
  pub query_bits : p.query_pow_bits ≤ max_sample_bits

-- the refusals for a height
abbrev pub IsForHeight : FriProverError → Type 0
IsForHeight (InputHeightTooSmall log_input_height log_final_height) = ⊤
IsForHeight FinalHeightOverflow = ⊤
IsForHeight _ = ⊥

-- of words of these log heights, of which `top` is the first's, from the challenger's state `c`
module _ {F E C Com Data Path InCom InPath : Type 0} (s : Setting F E C Com Path InCom InPath)
    (committed : Data → List (RowMajorMatrix E)) (commitment_of : Data → Com) (p : Parameters)
    (heights : List ℕ) (top : ℕ) (words : List (List E)) (c : C) where
  -- the state in which the first round begins
  abbrev pub seeded : C
  seeded = bytes_observed s.fields.base s.moves.observe_value c
      (fri_stream s.fields.degree (fri_numbers p heights top s.extra_bits))

  -- why a prover refuses: for a height, wherever one can't be proved, and else for what stops the
  -- transcript, or for want of memory
  abbrev pub ProverRefusal : (solution : C → ℕ → Option F) → FriProverError → Type 0
  ProverRefusal solution e = HeightsRefusal p heights e
      ⊎ (All (IsTallEnough p) heights
      × PlayRefusal committed commitment_of s.fields s.fold s.moves p.log_final_poly_len
      (fri_numbers p heights top s.extra_bits) top words seeded solution e)
