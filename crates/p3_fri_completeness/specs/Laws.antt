-- Completeness, as one statement.
use Rattle.std.specs.Prelude.{◌≡◌, ℕ, ◌+◌, Bool, IsTrue, List}
use Rattle.p3_challenger_core.specs.Run.{Moves}
use Rattle.p3_matrix.specs.declared.Dimensions.{Dimensions}
use Rattle.p3_fri_relation.specs.Setting.{Fields, Opening, Setting, Parameters}
use Rattle.p3_fri_relation.specs.Setting.{CommitmentClaim, Proof}
use Rattle.p3_fri_relation.specs.Acceptance.{top_height, test_replay, batch_replayed, Accepts}
use Rattle.p3_fri_batch.specs.Words.{Opened}
use Rattle.p3_fri_completeness.specs.Honest.{AreTwoAdic, DrawsFit, IsHonestlyOpened}

-- whether rows are those that indices open
abbrev pub Test : (A Com Path : Type 0) → Type 0
Test A Com Path = Com → List Dimensions → List ℕ → List (List (List A)) → Path → Bool

-- openings that a test tells
abbrev pub told_by : {A Com Path : Type 0} → Test A Com Path → Opening A Com Path
told_by test commitment dimensions indices rows path =
    IsTrue (test commitment dimensions indices rows path)

module _ (F E C Com Path InCom InPath : Type 0) where
  -- over all fields, folds, challengers, and commitments whose openings can be told
  abbrev pub setting : Fields F E → (fold : ℕ → ℕ → ℕ → E → List E → E) → (extra_bits : ℕ)
      → Moves C F E Com → Test F InCom InPath → Test E Com Path
      → Setting F E C Com Path InCom InPath
  setting f fold extra_bits moves input_test round_test = record {
    fields = f;
    fold = fold;
    extra_bits = extra_bits;
    moves = moves;
    opens_input = told_by input_test;
    opens_round = told_by round_test;
  }

  -- what an honest prover opens, with the challenge and from the state to which a passing proof of
  -- work leads, is accepted, and the test ends in the state in which it leaves the challenger
  abbrev pub HonestOpeningsAreAccepted : Type 0
  HonestOpeningsAreAccepted =
      (f : Fields F E) (fold : ℕ → ℕ → ℕ → E → List E → E) (extra_bits : ℕ)
      (moves : Moves C F E Com) (input_test : Test F InCom InPath) (round_test : Test E Com Path)
      (p : Parameters) (claims : List (CommitmentClaim E InCom))
      (rounds : List (List (Opened F E))) (c : C) (proof : Proof F E Com Path InPath) (last : C)
      → let s = setting f fold extra_bits moves input_test round_test in
      let before = batch_replayed s p claims proof c in
      AreTwoAdic f → DrawsFit moves (top_height p claims + extra_bits) → IsTrue before.passes
      → IsHonestlyOpened s p claims rounds before.alpha before.state proof last
      → Accepts s p claims proof c × ((test_replay s p claims proof before.state).state ≡ last)
