-- Rows that are folded round by round, at several challenges a round.
use Rattle.std.specs.Prelude.{◌≡◌, ℕ, ◌+◌, ◌*◌, ◌^◌, ◌<◌, ◌≤◌, ⊤, List, [], ◌∷◌, length, map, drop}
use Rattle.std.specs.Prelude.{slice_index_or, Bool, true, false}
use Rattle.algebra.specs.Field.{FieldOps, pow}
use Rattle.algebra.specs.Polynomial.{val, tabulate}
use Rattle.algebra.specs.TwoAdic.{AreRoots, pt}
use Rattle.p3_fri_core.specs.Folds.{fold_value}
use Rattle.p3_converse.specs.Positions.{part}
use Rattle.p3_converse.specs.Trees.{Tree, leaf, node, Subtrees, no_subtrees, subtree}
use Rattle.p3_converse.specs.Unfolding.{row_values, IsUnfolding, IsUnfoldingWithInput}

-- the sum of the rounds' log arities
abbrev pub log_sum : List (ℕ × Bool) → ℕ
log_sum [] = 0
log_sum (round ∷ rounds) = round.0 + log_sum rounds

-- the value in front, where there is an input
abbrev pub with_input : {X : Type 0} → Bool → X → List X → List X
with_input false x xs = xs
with_input true x xs = x ∷ xs

-- for each round with an input, the sum of the log arities after it
abbrev pub input_logs : List (ℕ × Bool) → List ℕ
input_logs [] = []
input_logs (round ∷ rounds) = with_input round.1 (log_sum rounds) (input_logs rounds)

-- the inputs of the rounds after this one
abbrev pub later_inputs : {A : Type 0} (round : ℕ × Bool) → List (List A) → List (List A)
later_inputs (a, false) inputs = inputs
later_inputs (a, true) inputs = drop 1 inputs

module _ {A : Type 0} (F : FieldOps A) (w : ℕ → A) (i h : ℕ) where
  -- fold `m` at `beta` of the values `ys`: that of the `m`-th `2^a` of them, to log height `h + s`,
  -- as row `m` of the `2^s` rows behind row `i`
  abbrev pub fold_at : (s a : ℕ) (beta : A) (ys : List A) (m : ℕ) → A
  fold_at s a beta ys m = fold_value F w (i * 2 ^ s + m) (h + s) a beta (part ys m (2 ^ a))

  -- the `2^s` folds, each with `beta^(2^a)` times the value of the round's input, if it has one
  abbrev pub folded : (round : ℕ × Bool) (s : ℕ) (beta : A) (inputs : List (List A)) (ys : List A)
      → List A
  folded (a, false) s beta inputs ys = tabulate (2 ^ s) (fold_at s a beta ys)
  folded (a, true) s beta inputs ys = tabulate (2 ^ s) (λ m. F.add (fold_at s a beta ys m)
      (F.mul (pow F beta (2 ^ a)) (slice_index_or (slice_index_or inputs 0 []) m F.zero)))

  -- over row `i` of log height `h` the values `ys` have the tree's branches for the rounds, with
  -- these inputs: a leaf's value is the last, and at each challenge of a node the folds have the
  -- branches of the tree beside it for the later rounds
  abbrev mutual
    pub Branches : (rounds : List (ℕ × Bool)) (inputs : List (List A)) (ys : List A) → Tree A
        → Type 0
    Branches [] inputs ys (leaf p) = ys ≡ val F p (pt F w i h) ∷ []
    Branches (round ∷ rounds) inputs ys (leaf p) = ⊥
    Branches [] inputs ys (node ts) = ⊥
    Branches (round ∷ rounds) inputs ys (node ts) = EachBranch round rounds inputs ys ts

    pub EachBranch : (round : ℕ × Bool) (rounds : List (ℕ × Bool)) (inputs : List (List A))
        (ys : List A) → Subtrees A → Type 0
    EachBranch round rounds inputs ys no_subtrees = ⊤
    EachBranch round rounds inputs ys (subtree beta t ts) =
        Branches rounds (later_inputs round inputs) (folded round (log_sum rounds) beta inputs ys) t
        × EachBranch round rounds inputs ys ts

  -- for each of the logs `s`, the values of the polynomial beside it at the `2^s` points behind row
  -- `i`
  abbrev pub input_values : (logs : List ℕ) → List (List A) → List (List A)
  input_values [] polys = []
  input_values (s ∷ logs) [] = []
  input_values (s ∷ logs) (p ∷ polys) = row_values F w i h s p ∷ input_values logs polys

module _ {A : Type 0} (F : FieldOps A) where
  -- over every family of roots of unity, values that have the tree's branches for the rounds, with
  -- inputs of the rounds' lengths, are those of `word` and of `inputs`
  pub record IsTreeUnfolding (rounds : List (ℕ × Bool)) (tree : Tree A) (word : List A)
      (inputs : List (List A)) : Type 0 where
    pub values : (top : ℕ) (w : ℕ → A) → AreRoots F top w
        → (i h : ℕ) (ys : List A) (us : List (List A))
        → h + log_sum rounds ≤ top → i < 2 ^ h → length ys ≡ 2 ^ log_sum rounds
        → map (λ u. length u) us ≡ map (λ s. 2 ^ s) (input_logs rounds)
        → Branches F w i h rounds us ys tree
        → (ys ≡ row_values F w i h (log_sum rounds) word)
        × (us ≡ input_values F w i h (input_logs rounds) inputs)

  -- a round is undone: the word's polynomial, and the inputs' ones with this round's in front
  abbrev pub IsRoundUnfolding : (round : ℕ × Bool) (betas : List A) (polys : List (List A))
      (word : List A) (later inputs : List (List A)) → Type 0
  IsRoundUnfolding (a, false) betas polys word later inputs =
      IsUnfolding F a betas polys word × (inputs ≡ later)
  IsRoundUnfolding (a, true) betas polys word later inputs = (input : List A)
      × IsUnfoldingWithInput F a betas polys word input × (inputs ≡ input ∷ later)
