-- A test whose rounds fold committed words, and queries that open the words' rows.
use Rattle.std.specs.Prelude.{◌≡◌, ℕ, ◌-◌, ◌^◌, ◌<◌, ◌≤◌, ◌⊎◌, ⊤, List, [], ◌∷◌, length}
use Rattle.std.specs.Prelude.{slice_index_or, Option, Some, All}
use Rattle.algebra.specs.Field.{FieldOps, IsField}
use Rattle.algebra.specs.Polynomial.{val}
use Rattle.algebra.specs.TwoAdic.{AreRoots, pt}
use Rattle.algebra.specs.Words.{word}
use Rattle.algebra.specs.Folds.{fold_value}
use Rattle.algebra.specs.Rounds.{Round, rows_met, chain, chain_rows}
use Rattle.algebra.specs.Rounds.{entry_of, AreValuesMet}
use Rattle.fri_soundness.specs.Counting.{AllBut, HasFew}
use Rattle.fri_soundness.specs.FoldTests.{Step, AgreesWhere, Passes, HasRoom, NoneIsBad}
use Rattle.fri_soundness.specs.FoldTests.{InputsAgree, FewFail, budget, indices}

-- the first of the words that are left, or else the last word
abbrev pub next_word : {A : Type 0} → (words : List (List A)) (last : List A) → List A
next_word [] last = last
next_word (zs ∷ words) last = zs

-- a step for each round and the word that it folds, from the log height `h` down
abbrev pub steps_of : {A : Type 0} (inputs : ℕ → Option (List A)) (h : ℕ)
    (rounds : List (Round A)) (words : List (List A)) (last : List A) → List (Step A)
steps_of inputs h [] words last = []
steps_of inputs h (r ∷ rounds) [] last = []
steps_of inputs h (r ∷ rounds) (ys ∷ words) last =
    let height = h - r.log_arity in
    record {
      round = r;
      height = height;
      word = ys;
      input = inputs height;
      next = next_word words last;
    } ∷ steps_of inputs height rounds words last

-- a word for each round, as long as the log height that the round folds
abbrev pub AreWords : {A : Type 0} (h : ℕ) (rounds : List (Round A)) (words : List (List A))
    → Type 0
AreWords h [] [] = ⊤
AreWords h [] (ys ∷ words) = ⊥
AreWords h (r ∷ rounds) [] = ⊥
AreWords h (r ∷ rounds) (ys ∷ words) =
    (length ys ≡ 2 ^ h) × (r.log_arity ≤ h) × AreWords (h - r.log_arity) rounds words

-- the log height to which all rounds lead
abbrev pub last_height : {A : Type 0} (h : ℕ) (rounds : List (Round A)) → ℕ
last_height h [] = h
last_height h (r ∷ rounds) = last_height (h - r.log_arity) rounds

module _ {A : Type 0} (F : FieldOps A) (w : ℕ → A) where
  -- From the value `first` at the position `q`, the chain of a query folds the words' rows, and it
  -- ends at the final polynomial's value.
  pub record IsAnswered (h : ℕ) (rounds : List (Round A)) (words : List (List A)) (c : List A)
      (values : ℕ → Option A) (siblings : List (List A)) (first : A) (q : ℕ) : Type 0 where
    pub rows : chain_rows F (fold_value F w) values rounds siblings
        (record { index = q; log_height = h; value = first })
        ≡ rows_met rounds words q
    pub ends : (chain F (fold_value F w) values rounds siblings
        (record { index = q; log_height = h; value = first })).value
        ≡ val F c (pt F w (chain F (fold_value F w) values rounds siblings
        (record { index = q; log_height = h; value = first })).index
        (chain F (fold_value F w) values rounds siblings
        (record { index = q; log_height = h; value = first })).log_height)

  -- with inputs by log height, these rounds and words from the log height `h`, and the final
  -- polynomial `c`
  module _ (inputs : ℕ → Option (List A)) (h : ℕ) (rounds : List (Round A))
      (words : List (List A)) (c : List A) where
    -- the word of the final polynomial
    abbrev pub last_word : List A
    last_word = word F w (last_height h rounds) c

    -- the steps of the test
    abbrev pub test_steps : List (Step A)
    test_steps = steps_of inputs h rounds words last_word

    -- the word with which the test begins
    abbrev pub first_word : List A
    first_word = next_word words last_word

    -- at this position the greatest input is the first word, and all steps pass
    abbrev pub PassesTest : (position : ℕ) → Type 0
    PassesTest q = (entry_of F (inputs h) q ≡ Some (slice_index_or first_word q F.zero))
        × Passes F w test_steps q

    -- the words fit, and for so many failing positions each step has room and a challenge that
    -- isn't bad
    pub record IsFair (log_blowup failing : ℕ) : Type 0 where
      pub are_words : AreWords h rounds words
      pub degree : length c ≡ 2 ^ (last_height h rounds - log_blowup)
      pub room : All (HasRoom F w log_blowup (budget h failing)) test_steps
      pub none_bad : NoneIsBad F w log_blowup (budget h failing) test_steps

    -- wherever positions pass, the first word and every input are of low degree; and of each step's
    -- rows few fail
    pub record IsLowWherePassed (log_blowup failing : ℕ) : Type 0 where
      pub first : AgreesWhere F w h (2 ^ (h - log_blowup)) (Passes F w test_steps) first_word
      pub greatest : (us : List A) → inputs h ≡ Some us
          → AgreesWhere F w h (2 ^ (h - log_blowup)) PassesTest us
      pub later : InputsAgree F w log_blowup (budget h failing) test_steps
      pub few : FewFail F w log_blowup (budget h failing) test_steps

-- A query that rows of the words answer is at a position that passes.
abbrev pub AnswersPass : Type 0 → Type 0
AnswersPass A = (F : FieldOps A) (w : ℕ → A) (inputs : ℕ → Option (List A)) (h : ℕ)
    (rounds : List (Round A)) (words : List (List A)) (c : List A) → AreWords h rounds words
    → (q : ℕ) → q < 2 ^ h → (values : ℕ → Option A) → AreValuesMet F inputs h q values
    → (siblings : List (List A)) (first : A) → values h ≡ Some first
    → IsAnswered F w h rounds words c values siblings first q
    → PassesTest F w inputs h rounds words c q

-- Where all but `failing` positions pass a fair test, the words are of low degree there.
abbrev pub FairTestsAreSound : Type 0 → Type 0
FairTestsAreSound A = (F : FieldOps A) → IsField F → (top : ℕ) (w : ℕ → A) → AreRoots F top w
    → (inputs : ℕ → Option (List A)) (h : ℕ) (rounds : List (Round A))
    (words : List (List A)) (c : List A) (log_blowup failing : ℕ) → h ≤ top
    → IsFair F w inputs h rounds words c log_blowup failing
    → AllBut (PassesTest F w inputs h rounds words c) failing (indices h)
    → IsLowWherePassed F w inputs h rounds words c log_blowup failing

-- Either all but `failing` positions pass, or those that do are fewer than all by more than that.
abbrev pub PassingIsCounted : Type 0 → Type 0
PassingIsCounted A = (F : FieldOps A) → IsField F → (w : ℕ → A)
    (inputs : ℕ → Option (List A)) (h : ℕ) (rounds : List (Round A)) (words : List (List A))
    (c : List A) (failing : ℕ)
    → AllBut (PassesTest F w inputs h rounds words c) failing (indices h)
    ⊎ HasFew (PassesTest F w inputs h rounds words c) failing (indices h)
