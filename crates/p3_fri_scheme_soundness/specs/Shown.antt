-- What an accepted proof shows, of all words and tables.
use Rattle.std.specs.Prelude.{ℕ, List}
use Rattle.std.specs.declared.vec.Vec.{Vec}
use Rattle.algebra.specs.Nested.{lists}
use Rattle.p3_fri_relation.specs.Setting.{Setting, Parameters, CommitmentClaim, Proof}
use Rattle.p3_fri_relation.specs.Acceptance.{batch_replayed, top_height}
use Rattle.fri_soundness.specs.CommittedWords.{AreWords}
use Rattle.p3_fri_soundness.specs.BoundInputs.{TablesFit}
use Rattle.p3_fri_soundness.specs.Soundness.{AreBound, AreOpenedFrom, IsSound, rounds_drawn}
use Rattle.p3_fri_soundness.specs.Trees.{Tree, RoundsAgree, InputsAgree}

-- the tree of elements with such an encoding: a commitment is its root, and a proof has the paths
abbrev pub tree_of : {A X Y : Type 0} → (encoding : A → List ℕ)
    → Tree A (List ℕ) (Vec (Vec (List ℕ) X) Y)
tree_of encoding = record {
  bytes = encoding;
  root = λ commitment. commitment;
  paths = λ path. lists path.items;
}

module _ {F E C Com Path InCom InPath : Type 0} (s : Setting F E C Com Path InCom InPath)
    (p : Parameters) (claims : List (CommitmentClaim E InCom)) (proof : Proof F E Com Path InPath)
    (c : C) where
  -- from this state on the rows that the proof opens are those of these words and tables
  abbrev pub OpensRowsOf : (words : List (List E)) (tables : List (List (List (List F)))) → Type 0
  OpensRowsOf words tables =
      let before = batch_replayed s p claims proof c in
      AreOpenedFrom s p claims proof words tables before.state before.alpha

  -- The proof is sound for all words and tables whose rows it opens, and opens the rows of those to
  -- which alone the commitments open.
  pub record IsSoundProof : Type 0 where
    pub sound : (words : List (List E)) (tables : List (List (List (List F))))
        → OpensRowsOf words tables
        → let before = batch_replayed s p claims proof c in
        IsSound s p claims proof words tables before.state before.alpha
    pub opened : (words : List (List E)) (tables : List (List (List (List F))))
        → AreBound s p claims proof words tables → OpensRowsOf words tables

  -- Where the same trees have other openings at the drawn positions, to the rows of words and
  -- tables, the proof opens the rows of these, or one of its openings collides with the other.
  abbrev pub OpensOrCollides : Tree F InCom InPath → Tree E Com Path → Type 0
  OpensOrCollides input_tree round_tree =
      (words : List (List E)) (tables : List (List (List (List F))))
      (input_paths : List InPath) (round_paths : List Path)
      → let before = batch_replayed s p claims proof c in
      AreWords (top_height p claims)
      (rounds_drawn s p claims proof words tables before.state before.alpha) words
      → TablesFit s.fields p.log_blowup claims tables
      → RoundsAgree s input_tree round_tree p claims proof words tables before.state before.alpha
      round_paths
      → InputsAgree s input_tree round_tree p claims proof words tables before.state before.alpha
      input_paths
      → OpensRowsOf words tables
