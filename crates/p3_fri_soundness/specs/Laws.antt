-- What acceptance shows, as statements over all fields, challengers and commitments.
use Rattle.std.specs.Prelude.{◌≢◌, ℕ, ◌+◌, ◌^◌, ◌<◌, Bool, IsTrue, List}
use Rattle.algebra.specs.Field.{IsField, IsHomomorphism}
use Rattle.algebra.specs.TwoAdic.{AreRoots}
use Rattle.algebra.specs.Folds.{fold_value}
use Rattle.p3_challenger_core.specs.Run.{Moves}
use Rattle.p3_matrix.specs.declared.Dimensions.{Dimensions}
use Rattle.p3_fri_relation.specs.Setting.{Fields, Opening, Setting, Parameters, CommitmentClaim}
use Rattle.p3_fri_relation.specs.Setting.{Proof}
use Rattle.p3_fri_relation.specs.Acceptance.{top_height, batch_replayed, Accepts}
use Rattle.fri_soundness.specs.CommittedWords.{AreWords}
use Rattle.p3_fri_soundness.specs.BoundInputs.{TablesFit}
use Rattle.p3_fri_soundness.specs.Soundness.{AreBound, AreOpenedFrom, IsSound, rounds_drawn}
use Rattle.p3_fri_soundness.specs.Trees.{Tree, IsEncoded, opened_by, RoundsAgree, InputsAgree}

-- a test of openings: whether these rows are those that the indices open
abbrev pub OpeningTest : (A Com Path : Type 0) → Type 0
OpeningTest A Com Path = Com → List Dimensions → List ℕ → List (List (List A)) → Path → Bool

-- the openings that pass a test
abbrev pub passed_by : {A Com Path : Type 0} → OpeningTest A Com Path → Opening A Com Path
passed_by test commitment dimensions indices rows path =
    IsTrue (test commitment dimensions indices rows path)

-- a field with roots of unity and a shift that isn't zero, and a field that extends it
pub record AreTwoAdicFields {F E : Type 0} (f : Fields F E) : Type 0 where
  pub base : IsField f.base
  pub ext : IsField f.ext
  pub lifts : IsHomomorphism f.base f.ext f.lift
  pub roots : AreRoots f.base f.two_adicity f.root
  pub shift : f.shift ≢ f.base.zero

-- what a challenger draws as `bits` bits is a number of so many
abbrev pub DrawsFit : {C F E Com : Type 0} → Moves C F E Com → (bits : ℕ) → Type 0
DrawsFit {C} m bits = (c : C) → (m.draw_bits c bits).value < 2 ^ bits

module _ (F E C Com Path InCom InPath : Type 0) where
  -- rows are folded as polynomials, over these fields, challenger and openings
  abbrev pub setting : Fields F E → (extra_bits : ℕ) → Moves C F E Com
      → Opening F InCom InPath → Opening E Com Path → Setting F E C Com Path InCom InPath
  setting f extra_bits moves opens_input opens_round = record {
    fields = f;
    fold = fold_value f.ext (λ k. f.lift (f.root k));
    extra_bits = extra_bits;
    moves = moves;
    opens_input = opens_input;
    opens_round = opens_round;
  }

  -- An accepted proof is sound for all words and tables whose rows it opens.
  abbrev pub AcceptedProofsAreSound : Type 0
  AcceptedProofsAreSound =
      (f : Fields F E) (extra_bits : ℕ) (moves : Moves C F E Com)
      (input_test : OpeningTest F InCom InPath) (round_test : OpeningTest E Com Path)
      (p : Parameters) (claims : List (CommitmentClaim E InCom))
      (c : C) (proof : Proof F E Com Path InPath)
      (words : List (List E)) (tables : List (List (List (List F))))
      → let s = setting f extra_bits moves (passed_by input_test) (passed_by round_test) in
      let before = batch_replayed s p claims proof c in
      AreTwoAdicFields f → DrawsFit moves (top_height p claims + extra_bits)
      → Accepts s p claims proof c
      → AreOpenedFrom s p claims proof words tables before.state before.alpha
      → IsSound s p claims proof words tables before.state before.alpha

  -- Where each commitment, of the rounds and of the inputs, opens to one word or one list of tables
  -- alone, an accepted proof opens the rows of these.
  abbrev pub BoundWordsAreOpened : Type 0
  BoundWordsAreOpened =
      (f : Fields F E) (extra_bits : ℕ) (moves : Moves C F E Com)
      (input_test : OpeningTest F InCom InPath) (round_test : OpeningTest E Com Path)
      (p : Parameters) (claims : List (CommitmentClaim E InCom))
      (c : C) (proof : Proof F E Com Path InPath)
      (words : List (List E)) (tables : List (List (List (List F))))
      → let s = setting f extra_bits moves (passed_by input_test) (passed_by round_test) in
      let before = batch_replayed s p claims proof c in
      Accepts s p claims proof c → AreBound s p claims proof words tables
      → AreOpenedFrom s p claims proof words tables before.state before.alpha

  -- Over trees of SHA-256: where the same commitments have other openings at the drawn positions,
  -- to the rows of words and tables, an accepted proof opens the rows of these and is sound, or one
  -- of its openings collides with the other at some index.
  abbrev pub TreesAreSound : Type 0
  TreesAreSound =
      (f : Fields F E) (extra_bits : ℕ) (moves : Moves C F E Com)
      (input_tree : Tree F InCom InPath) (round_tree : Tree E Com Path)
      (input_len round_len : ℕ) (p : Parameters) (claims : List (CommitmentClaim E InCom))
      (c : C) (proof : Proof F E Com Path InPath)
      (words : List (List E)) (tables : List (List (List (List F))))
      (input_paths : List InPath) (round_paths : List Path)
      → let s = setting f extra_bits moves (opened_by input_tree) (opened_by round_tree) in
      let before = batch_replayed s p claims proof c in
      AreTwoAdicFields f → DrawsFit moves (top_height p claims + extra_bits)
      → IsEncoded input_tree input_len → IsEncoded round_tree round_len
      → Accepts s p claims proof c
      → AreWords (top_height p claims)
      (rounds_drawn s p claims proof words tables before.state before.alpha) words
      → TablesFit f p.log_blowup claims tables
      → RoundsAgree s input_tree round_tree p claims proof words tables before.state before.alpha
      round_paths
      → InputsAgree s input_tree round_tree p claims proof words tables before.state before.alpha
      input_paths
      → AreOpenedFrom s p claims proof words tables before.state before.alpha
      × IsSound s p claims proof words tables before.state before.alpha
