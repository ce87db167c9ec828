-- A test of folding over words that are fixed: the positions that pass, and the challenges that are
-- bad.
use Rattle.std.specs.Prelude.{◌≡◌, ℕ, ◌+◌, ◌-◌, ◌*◌, ◌/◌, ◌^◌, ◌<◌, ◌≤◌, ⊤, List, [], ◌∷◌}
use Rattle.std.specs.Prelude.{◌++◌, length, slice_index_or, Option, Some, None, All}
use Rattle.algebra.specs.Field.{FieldOps, IsField}
use Rattle.algebra.specs.Polynomial.{val, tabulate}
use Rattle.algebra.specs.Interpolation.{interpolant}
use Rattle.algebra.specs.TwoAdic.{AreRoots, pt, row_points}
use Rattle.algebra.specs.Words.{word}
use Rattle.algebra.specs.Folds.{neighbours, fold_value}
use Rattle.algebra.specs.Rounds.{Round, rolled_in, entry_of, folded_entry}
use Rattle.fri_soundness.specs.Counting.{AllBut, AtMost}
use Rattle.fri_soundness.specs.Curves.{Row, IsBad}

-- one round of a test: it folds a word to the log height `height`, rolls in an input if there is
-- one, and claims that the next word comes of it
pub record Step (A : Type 0) : Type 0 where
  pub round : Round A
  pub height : ℕ
  pub word : List A
  pub input : Option (List A)
  pub next : List A

-- all indices of a word of log height `h`
abbrev pub indices : (h : ℕ) → List ℕ
indices h = tabulate (2 ^ h) (λ i. i)

-- how many rows of log height `h` can fail altogether, where `failing` positions of log height
-- `top` do
abbrev pub budget : (top failing : ℕ) → (h : ℕ) → ℕ
budget top failing h = failing / 2 ^ (top - h)

module _ {A : Type 0} (F : FieldOps A) (w : ℕ → A) where
  -- entry `i` of the input, if there is an input
  abbrev pub input_entries : Option (List A) → ℕ → List A
  input_entries None i = []
  input_entries (Some us) i = slice_index_or us i F.zero ∷ []

  -- Row `i` of the curve on which the folds of `ys` by the log arity `a` lie: the coefficients of
  -- the polynomial through the word's row, then the input's entry.
  abbrev pub curve_row : (h a : ℕ) (input : Option (List A)) (ys : List A) (i : ℕ) → Row A
  curve_row h a input ys i = record {
    point = pt F w i h;
    entries = interpolant F (row_points F w i a h) (neighbours ys i a) ++ input_entries input i;
  }

  -- all rows of that curve
  abbrev pub curve_rows : (h a : ℕ) (input : Option (List A)) (ys : List A) → List (Row A)
  curve_rows h a input ys = tabulate (2 ^ h) (curve_row h a input ys)

  -- its degree in the challenge
  abbrev pub curve_degree : (a : ℕ) → Option (List A) → ℕ
  curve_degree a None = 2 ^ a - 1
  curve_degree a (Some us) = 2 ^ a

  -- entry `i` of the next word is the fold of row `i`, with the input's entry rolled in
  abbrev pub FoldsTo : Step A → ℕ → Type 0
  FoldsTo s i = slice_index_or s.next i F.zero
      ≡ rolled_in F s.round (entry_of F s.input i)
      (folded_entry (fold_value F w) s.height s.round s.word i)

  -- a query at this position finds each step's next word as folded
  abbrev pub Passes : List (Step A) → (position : ℕ) → Type 0
  Passes [] position = ⊤
  Passes (s ∷ steps) position =
      let row = position / 2 ^ s.round.log_arity in
      FoldsTo s row × Passes steps row

  -- from the word `ys`, of log height `h`, each step goes on where the one before it ended, and the
  -- last ends at the word of the final polynomial `c`
  abbrev pub AreSteps : (h : ℕ) (ys : List A) (c : List A) → List (Step A) → Type 0
  AreSteps h ys c [] = ys ≡ word F w h c
  AreSteps h ys c (s ∷ steps) = (s.word ≡ ys) × (length ys ≡ 2 ^ h)
      × (s.height + s.round.log_arity ≡ h) × AreSteps s.height s.next c steps

  -- a polynomial of `d` coefficients has the word's values at each index of which `Q` holds
  pub record AgreesWhere (h d : ℕ) (Q : ℕ → Type 0) (ys : List A) : Type 0 where
    pub polynomial : List A
    pub degree : length polynomial ≡ d
    pub values : (i : ℕ) → i < 2 ^ h → Q i
        → slice_index_or ys i F.zero ≡ val F polynomial (pt F w i h)

  -- at this log blowup, with a budget `e h` of rows for each log height
  module _ (log_blowup : ℕ) (e : ℕ → ℕ) where
    -- the final polynomial is as long as the log height at which the steps end says
    abbrev pub EndsLow : (h : ℕ) (c : List A) → List (Step A) → Type 0
    EndsLow h c [] = length c ≡ 2 ^ (h - log_blowup)
    EndsLow h c (s ∷ steps) = EndsLow s.height c steps

    -- the step's curve has rows enough for the budget
    pub record HasRoom (s : Step A) : Type 0 where
      pub blowup : log_blowup ≤ s.height
      pub enough : (curve_degree s.round.log_arity s.input + 2) * e s.height
          + 2 ^ (s.height - log_blowup) ≤ 2 ^ s.height

    -- the challenge is bad for the curve of the step's word and input
    abbrev pub IsBadIn : (s : Step A) (beta : A) → Type 0
    IsBadIn s beta = IsBad F (curve_rows s.height s.round.log_arity s.input s.word)
        (2 ^ (s.height - log_blowup)) (curve_degree s.round.log_arity s.input) (e s.height) beta

    -- no step has a bad challenge
    abbrev pub NoneIsBad : List (Step A) → Type 0
    NoneIsBad steps = All (λ s. ¬ (IsBadIn s s.round.beta)) steps

    -- of each step's rows all but the budget pass it and the steps behind it
    abbrev pub FewFail : List (Step A) → Type 0
    FewFail [] = ⊤
    FewFail (s ∷ steps) =
        AllBut (λ row. FoldsTo s row × Passes steps row) (e s.height) (indices s.height)
        × FewFail steps

    -- each input agrees with a polynomial of low degree where its step's rows pass
    abbrev pub InputsAgree : List (Step A) → Type 0
    InputsAgree [] = ⊤
    InputsAgree (s ∷ steps) = ((us : List A) → s.input ≡ Some us
        → AgreesWhere s.height (2 ^ (s.height - log_blowup))
        (λ row. FoldsTo s row × Passes steps row) us)
        × InputsAgree steps

-- A step has at most as many bad challenges as its curve's degree times the budget and one.
abbrev pub FewAreBadInSteps : Type 0 → Type 0
FewAreBadInSteps A = (F : FieldOps A) → IsField F → (top : ℕ) (w : ℕ → A) → AreRoots F top w
    → (log_blowup : ℕ) (e : ℕ → ℕ) (s : Step A) → HasRoom F w log_blowup e s
    → s.height + s.round.log_arity ≤ top → length s.word ≡ 2 ^ (s.height + s.round.log_arity)
    → AtMost (IsBadIn F w log_blowup e s)
    (curve_degree F w s.round.log_arity s.input * (e s.height + 1))

-- Where few rows of each step fail and no challenge is bad, the word agrees with a polynomial of
-- low degree at all positions that pass, and each input does.
abbrev pub TestsAreSound : Type 0 → Type 0
TestsAreSound A = (F : FieldOps A) → IsField F → (top : ℕ) (w : ℕ → A) → AreRoots F top w
    → (log_blowup : ℕ) (e : ℕ → ℕ) (h : ℕ) (ys c : List A) (steps : List (Step A)) → h ≤ top
    → AreSteps F w h ys c steps → EndsLow F w log_blowup e h c steps
    → All (HasRoom F w log_blowup e) steps → NoneIsBad F w log_blowup e steps
    → FewFail F w log_blowup e steps
    → AgreesWhere F w h (2 ^ (h - log_blowup)) (Passes F w steps) ys
    × InputsAgree F w log_blowup e steps
