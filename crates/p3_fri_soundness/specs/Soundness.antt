-- What an accepted proof shows of the words and the tables whose rows it opens.
use Rattle.std.specs.Prelude.{◌≡◌, ◌≢◌, ℕ, ◌+◌, ◌-◌, ◌*◌, ◌^◌, ◌≤◌, ◌⊎◌, List, [], length, All}
use Rattle.std.specs.Prelude.{Option, EachIndex, slice_index}
use Rattle.std.specs.List.{AllZip}
use Rattle.algebra.specs.Field.{IsField}
use Rattle.algebra.specs.TwoAdic.{AreRoots}
use Rattle.algebra.specs.Rounds.{Round}
use Rattle.p3_fri_relation.specs.Setting.{Setting, Parameters, CommitmentClaim, Proof}
use Rattle.p3_fri_relation.specs.Heights.{matrices_of, has_height}
use Rattle.p3_fri_relation.specs.Inputs.{rows_at}
use Rattle.p3_fri_relation.specs.Queries.{rounds_of}
use Rattle.p3_fri_relation.specs.Acceptance.{top_height, log_arities, test_replay, positions}
use Rattle.fri_soundness.specs.Counting.{AllBut, HasFew, AtMost}
use Rattle.fri_soundness.specs.Curves.{IsBad}
use Rattle.fri_soundness.specs.FoldTests.{Step, HasRoom, IsBadIn, NoneIsBad, budget, indices}
use Rattle.fri_soundness.specs.FoldTests.{curve_degree}
use Rattle.fri_soundness.specs.CommittedWords.{AreWords, PassesTest, test_steps}
use Rattle.fri_soundness.specs.Batches.{OpenedColumn, batch_rows}
use Rattle.fri_soundness.specs.Openings.{batch_inputs, IsFairBatch, AreOpened}
use Rattle.p3_fri_soundness.specs.Bound.{BindWords, RoundsOpenedFrom, lifted_root}
use Rattle.p3_fri_soundness.specs.Bound.{FoldsPolynomials}
use Rattle.p3_fri_soundness.specs.BoundInputs.{BindsTables, TablesFit, columns_claimed}
use Rattle.p3_fri_soundness.specs.BoundInputs.{rows_claimed}

module _ {F E C Com Path InCom InPath : Type 0} (s : Setting F E C Com Path InCom InPath) where
  -- the extension is a field that has the roots of unity, with a shift that isn't zero, and rows
  -- are folded as polynomials
  pub record IsPolynomialSetting : Type 0 where
    pub field : IsField s.fields.ext
    pub folds : FoldsPolynomials s
    pub roots : AreRoots s.fields.ext s.fields.two_adicity (lifted_root s)
    pub shift : s.fields.lift s.fields.shift ≢ s.fields.ext.zero

  module _ (p : Parameters) (claims : List (CommitmentClaim E InCom))
      (proof : Proof F E Com Path InPath) (words : List (List E))
      (tables : List (List (List (List F)))) where
    -- each commitment, of the rounds and of the inputs, opens to these alone
    pub record AreBound : Type 0 where
      pub rounds : BindWords s (log_arities p claims) (top_height p claims) proof.commitments words
      pub inputs : AllZip (BindsTables s p.log_blowup (top_height p claims)) claims tables

    -- the tables' columns with the values claimed of them, by log height
    abbrev pub columns : ℕ → List (OpenedColumn E)
    columns h = columns_claimed s.fields p.log_blowup h claims tables

    -- from the challenger's state `c` as the test begins, with the batching challenge `alpha`
    module _ (c : C) (alpha : E) where
      -- the batches of the columns' quotients
      abbrev pub inputs_batched : ℕ → Option (List E)
      inputs_batched = batch_inputs s.fields.ext (lifted_root s) (s.fields.lift s.fields.shift)
          (has_height p.log_blowup (matrices_of claims)) columns alpha

      -- the rounds with the challenges that are drawn for them
      abbrev pub rounds_drawn : List (Round E)
      rounds_drawn = rounds_of (log_arities p claims) (test_replay s p claims proof c).betas

      -- the words and tables fit the rounds and the claims, and the rows that the proof opens are
      -- theirs
      pub record AreOpenedFrom : Type 0 where
        pub words_long : AreWords (top_height p claims) rounds_drawn words
        pub rounds : RoundsOpenedFrom s p claims proof alpha c words
        pub tables_fit : TablesFit s.fields p.log_blowup claims tables
        pub inputs : EachIndex (positions s p claims proof c) (λ j. rows_at j proof.inputs
            ≡ rows_claimed s.fields p.log_blowup (top_height p claims)
            (slice_index (positions s p claims proof c) j) claims tables)

      -- a query at this position would be answered
      abbrev pub PassesAt : (position : ℕ) → Type 0
      PassesAt position = PassesTest s.fields.ext (lifted_root s) inputs_batched
          (top_height p claims) rounds_drawn words proof.final_poly position

      -- the steps of the test with these rounds
      abbrev pub steps_drawn : List (Step E)
      steps_drawn = test_steps s.fields.ext (lifted_root s) inputs_batched (top_height p claims)
          rounds_drawn words proof.final_poly

      -- for so many failing positions each round and each batch has room, and none of the
      -- challenges drawn for them is bad
      pub record NoneDrawnIsBad (failing : ℕ) : Type 0 where
        pub room : All (HasRoom s.fields.ext (lifted_root s) p.log_blowup
            (budget (top_height p claims) failing)) steps_drawn
        pub rounds : NoneIsBad s.fields.ext (lifted_root s) p.log_blowup
            (budget (top_height p claims) failing) steps_drawn
        pub batches : (h : ℕ) → h ≤ top_height p claims → columns h ≢ []
            → IsFairBatch s.fields.ext (lifted_root s) (s.fields.lift s.fields.shift)
            (has_height p.log_blowup (matrices_of claims)) columns alpha h (2 ^ (h - p.log_blowup))
            (budget (top_height p claims) failing h)

      -- every position that is drawn passes
      abbrev pub DrawnPass : Type 0
      DrawnPass = EachIndex (positions s p claims proof c)
          (λ j. PassesAt (slice_index (positions s p claims proof c) j))

      -- wherever positions pass each column is a polynomial of low degree that has the value
      -- claimed of it
      abbrev pub AreOpenedAsClaimed : Type 0
      AreOpenedAsClaimed = AreOpened s.fields.ext (lifted_root s) (s.fields.lift s.fields.shift)
          (has_height p.log_blowup (matrices_of claims)) columns alpha p.log_blowup
          (top_height p claims) rounds_drawn words proof.final_poly

      -- What an accepted proof shows. The drawn positions pass, and all but `failing` do or few do;
      -- of each round's and each batch's challenges few are bad; and where none drawn is, and all
      -- but `failing` pass, the columns are as claimed.
      pub record IsSound : Type 0 where
        pub drawn_pass : DrawnPass
        pub most_or_few : (failing : ℕ) → AllBut PassesAt failing (indices (top_height p claims))
            ⊎ HasFew PassesAt failing (indices (top_height p claims))
        pub few_bad_rounds : (failing : ℕ)
            → All (HasRoom s.fields.ext (lifted_root s) p.log_blowup
            (budget (top_height p claims) failing)) steps_drawn
            → All (λ step. AtMost (IsBadIn s.fields.ext (lifted_root s) p.log_blowup
            (budget (top_height p claims) failing) step)
            (curve_degree s.fields.ext (lifted_root s) step.round.log_arity step.input
            * (budget (top_height p claims) failing step.height + 1))) steps_drawn
        pub few_bad_batches : (failing h : ℕ) → h ≤ top_height p claims → columns h ≢ []
            → (length (columns h) + 1) * budget (top_height p claims) failing h
            + 2 ^ (h - p.log_blowup) ≤ 2 ^ h
            → AtMost (IsBad s.fields.ext (batch_rows s.fields.ext (lifted_root s)
            (s.fields.lift s.fields.shift) h (columns h)) (2 ^ (h - p.log_blowup))
            (length (columns h) - 1) (budget (top_height p claims) failing h))
            ((length (columns h) - 1) * (budget (top_height p claims) failing h + 1))
        pub opened : (failing : ℕ) → NoneDrawnIsBad failing
            → AllBut PassesAt failing (indices (top_height p claims)) → AreOpenedAsClaimed
