-- What a proof has that the prover made of words, from a challenger's state on.
use Rattle.std.specs.Prelude.{◌≡◌, ℕ, ◌-◌, ◌/◌, ◌^◌, ◌≤◌, IsTrue, EachIndex, List, [], All}
use Rattle.std.specs.Prelude.{slice_index_or}
use Rattle.algebra.specs.Field.{FieldOps}
use Rattle.algebra.specs.Rounds.{entry_of, AreLowDegreeWords}
use Rattle.p3_fri_folding.specs.Schedule.{schedule}
use Rattle.p3_fri_transcript.specs.Steps.{FriNumbers}
use Rattle.p3_fri_transcript.specs.Replay.{FriReplay}
use Rattle.p3_fri_relation.specs.Setting.{Setting, Parameters, Proof, final_height}
use Rattle.p3_fri_relation.specs.Queries.{Source}
use Rattle.p3_fri_relation.specs.TestRounds.{bound_numbers, HasCounts, AreCanonicalInTest}
use Rattle.p3_fri_relation.specs.TestRounds.{RoundsOpen, QueryEnds}
use Rattle.p3_fri_relation.specs.TestRounds as test
use Rattle.p3_fri_prover.specs.Inputs.{input_of}

module _ (p : Parameters) (heights : List ℕ) (top : ℕ) where
  abbrev pub log_arities : List ℕ
  log_arities = schedule heights (final_height p) p.max_log_arity

  -- what the transcript of words of these log heights is bound to
  abbrev pub fri_numbers : (extra_bits : ℕ) → FriNumbers
  fri_numbers extra_bits = bound_numbers p log_arities top extra_bits

-- queries meet the words' entries, and begin with the first word's
abbrev pub entries_met : {E : Type 0} → FieldOps E → (heights : List ℕ) (top : ℕ)
    (words : List (List E)) → Source E
entries_met ops heights top words = record {
  met = λ j position h. entry_of ops (input_of heights words h) (position / 2 ^ (top - h));
  first = λ j position. slice_index_or (slice_index_or words 0 []) position ops.zero;
}

-- words of these log heights, of which `top` is the first's, the challenger's state, and the proof
module _ {F E C Com Path InCom InPath : Type 0} (s : Setting F E C Com Path InCom InPath)
    (p : Parameters) (heights : List ℕ) (top : ℕ) (words : List (List E)) (c : C)
    (proof : Proof F E Com Path InPath) where
  -- what is drawn along the test
  abbrev pub replayed : FriReplay C E
  replayed = test.replayed s p (log_arities p heights top) top proof c

  abbrev pub positions : List ℕ
  positions = test.positions s p (log_arities p heights top) top proof c

  -- words of low degree, none lower than the final word
  pub record AreLow : Type 0 where
    pub tall_enough : All (λ h. final_height p ≤ h) heights
    pub degrees : AreLowDegreeWords s.fields.ext (λ k. s.fields.lift (s.fields.root k)) p.log_blowup
        (input_of heights words)

  -- the proof is one of these words and of so many batches, and the challenger is left in the state
  -- `last`
  pub record IsProved (num_data : ℕ) (last : C) : Type 0 where
    pub counts : HasCounts p proof (log_arities p heights top) num_data
    pub canonical : AreCanonicalInTest p proof s.fields.base.zero
    pub passes : IsTrue replayed.passes
    pub state : replayed.state ≡ last
    pub rounds_open : RoundsOpen s p (log_arities p heights top) top proof
        (entries_met s.fields.ext heights top words) replayed.betas positions
    pub chains_end : AreLow → EachIndex positions
        (QueryEnds s p (log_arities p heights top) top proof
        (entries_met s.fields.ext heights top words) replayed.betas positions)
