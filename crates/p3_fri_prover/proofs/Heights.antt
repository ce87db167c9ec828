-- The words that are handed in, by log height: what their heights are, and rounds over them.
use Rattle.std.proofs.Common.{◌≡◌, ◌≢◌, ℕ, ◌^◌, ◌<◌, ◌≤◌, List, [], ◌∷◌, length, get_or, sum}
use Rattle.std.proofs.Common.{Option, Some, refl, sym, ap, ◌∙◌, subst, remove}
use Rattle.std.specs.Prelude.{All, if◌then◌else◌}
use Rattle.std.proofs.lemmas.Bool.{eq-eqb}
use Rattle.algebra.specs.Field.{FieldOps}
use Rattle.p3_matrix.specs.declared.dense.RowMajorMatrix.{RowMajorMatrix}
use Rattle.p3_challenger_core.specs.Run.{Moves}
use Rattle.p3_fri_folding.specs.Schedule.{IsStrictlyFalling, tallest}
use Rattle.p3_fri_prover.specs.Inputs.{HaveHeights, input_of, of_length, AreInputs}
use Rattle.p3_fri_prover.specs.Rounds.{KeepWords, AreCommitted}
use Rattle.p3_fri_prover.proofs.Inputs.{heights_unique, input_of_others, rounds_agree, words_agree}
use Rattle.p3_fri_prover.proofs.Inputs.{first_word}

module _ {E : Type 0} where
  -- the first word is that of its log height
  pub first_is_input : (heights : List ℕ) (words : List (List E)) (top : ℕ)
      → HaveHeights heights words → heights ≢ [] → tallest heights ≡ top
      → input_of heights words top ≡ Some (get_or words 0 [])
  first_is_input [] words top have some first = absurd (some refl)
  first_is_input (h ∷ hs) [] top have some first = absurd have
  first_is_input (h ∷ hs) (w ∷ ws) top have some first =
      ap (λ t. if t then Some w else input_of hs ws top) (eq-eqb top h (sym first))

  -- any heights that words have are those that they were handed in with
  module _ (top : ℕ) (words : List (List E)) (inputs : AreInputs top words) (heights : List ℕ)
      (have : HaveHeights heights words) where
    same_heights : inputs.heights ≡ heights
    same_heights = heights_unique inputs.heights heights words inputs.have have

    pub heights_fall : IsStrictlyFalling heights
    heights_fall = subst (λ hs. IsStrictlyFalling hs) same_heights inputs.falling

    pub some_height : heights ≢ []
    some_height = subst (λ hs. hs ≢ []) same_heights inputs.some

    pub first_height : tallest heights ≡ top
    first_height = subst (λ hs. tallest hs ≡ top) same_heights inputs.first

    pub first_length : length (get_or words 0 []) ≡ 2 ^ top
    first_length = first_word heights words top have some_height first_height

    pub first_input : input_of heights words top ≡ Some (get_or words 0 [])
    first_input = first_is_input heights words top have some_height first_height

-- rounds that looked the further words up by length are rounds over the words by log height
module _ {E Com Data : Type 0} (committed : Data → List (RowMajorMatrix E))
    (commitment_of : Data → Com) {C F : Type 0} (m : Moves C F E Com) (bits : ℕ) (zero : F)
    (solution : C → ℕ → Option F) (ops : FieldOps E) (fold : ℕ → ℕ → ℕ → E → List E → E)
    (heights : List ℕ) (words : List (List E)) (top : ℕ) (have : HaveHeights heights words)
    (is_top : tallest heights ≡ top) (first : List E) (start : C) (arities : List ℕ)
    (positive : All (λ a. 0 < a) arities) (within : sum arities ≤ top) where
  agree : (h : ℕ) → h < top → of_length (remove words 0) (2 ^ h) ≡ input_of heights words h
  agree h l = input_of_others heights words top h have is_top l

  pub committed_by_height : (commitments : List Com) (witnesses : List F) (kept : List Data)
      (word : List E) (now : C)
      → AreCommitted committed commitment_of m bits zero solution ops fold
      (λ k. of_length (remove words 0) (2 ^ k)) top first start arities commitments witnesses kept
      word now
      → AreCommitted committed commitment_of m bits zero solution ops fold
      (input_of heights words) top first start arities commitments witnesses kept word now
  committed_by_height commitments witnesses kept word now a = record {
    betas = a.betas;
    drawn = a.drawn;
    commitments_made = a.commitments_made;
    witnesses_found = a.witnesses_found;
    data_kept = a.data_kept;
    replay = a.replay;
    found = a.found;
    words = subst (λ ws. KeepWords committed commitment_of arities ws commitments kept)
        (words_agree ops fold (λ k. of_length (remove words 0) (2 ^ k)) (input_of heights words)
        arities a.betas top first positive within agree) a.words;
    last_word = a.last_word
        ∙ rounds_agree ops fold (λ k. of_length (remove words 0) (2 ^ k)) (input_of heights words)
        arities a.betas top first positive within agree;
  }
