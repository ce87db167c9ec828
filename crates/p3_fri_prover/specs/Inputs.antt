-- The words that a prover folds.
use Rattle.std.specs.Prelude.{◌≡◌, ◌≢◌, ℕ, ◌^◌, ◌==◌, if◌then◌else◌, List, [], ◌∷◌, length, All}
use Rattle.std.specs.Prelude.{slice_index_or, Option, Some, None}
use Rattle.std.specs.Int.{IsPowerOfTwo}
use Rattle.std.specs.List.{AllZip, zip}
use Rattle.algebra.specs.Field.{FieldOps}
use Rattle.algebra.specs.Polynomial.{tabulate}
use Rattle.algebra.specs.Rounds.{Round, rolled_in, entry_of}
use Rattle.p3_fri_folding.specs.Schedule.{IsStrictlyFalling, tallest}
use Rattle.p3_fri_relation.specs.FoldedQuery.{value_at}

module _ {E : Type 0} where
  -- each word has the log height beside it
  abbrev pub HaveHeights : (heights : List ℕ) (words : List (List E)) → Type 0
  HaveHeights heights words = AllZip (λ h word. length word ≡ 2 ^ h) heights words

  -- the word of a log height, if there is one
  abbrev pub input_of : (heights : List ℕ) (words : List (List E)) (h : ℕ) → Option (List E)
  input_of heights words h = value_at (zip heights words) h

  -- the first word of a length, if there is one
  abbrev pub of_length : (words : List (List E)) (n : ℕ) → Option (List E)
  of_length [] n = None
  of_length (word ∷ words) n = if length word == n then Some word else of_length words n

  -- each length is a power of two
  abbrev pub HavePowerLengths : (words : List (List E)) → Type 0
  HavePowerLengths words = All (λ word. IsPowerOfTwo (length word)) words

  -- words that a low-degree test can be made of: some, each shorter than the one before it, with
  -- the log height `top` of the first
  pub record AreInputs (top : ℕ) (words : List (List E)) : Type 0 where
    pub heights : List ℕ
    pub have : HaveHeights heights words
    pub falling : IsStrictlyFalling heights
    pub some : heights ≢ []
    pub first : tallest heights ≡ top

module _ {E : Type 0} (F : FieldOps E) where
  -- a folded word with the input, if there is one, rolled in
  abbrev pub rolled_word : (round : Round E) (input : Option (List E)) (word : List E) → List E
  rolled_word round input word = tabulate (length word)
      (λ i. rolled_in F round (entry_of F input i) (slice_index_or word i F.zero))
