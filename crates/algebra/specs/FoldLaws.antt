-- The statements of the law functions on folds, rounds of folding, smaller domains and periodic
-- columns, for every field over the type `A` with a family of roots of unity.
use Rattle.std.specs.Prelude.{◌≡◌, ℕ, ◌+◌, ◌-◌, ◌/◌, ◌%◌, ◌^◌, ◌<◌, ◌≤◌, List, Option, length}
use Rattle.algebra.specs.Field.{FieldOps, IsField, pow}
use Rattle.algebra.specs.Polynomial.{val}
use Rattle.algebra.specs.TwoAdic.{AreRoots, pt}
use Rattle.algebra.specs.Words.{coset_word, IsWord}
use Rattle.algebra.specs.Folds.{fold_value, partly_folded, IsFoldOfBinaryFolds, LowersDegrees}
use Rattle.algebra.specs.Rounds.{Round, total_log_arity, after_rounds, words_folded}
use Rattle.algebra.specs.Rounds.{siblings_met, rows_met, chain, chain_rows, link_in}
use Rattle.algebra.specs.Rounds.{AreValuesMet, AreLowDegreeWords, final_polynomial}
use Rattle.algebra.specs.Reduction.{reduced}
use Rattle.algebra.specs.Periodic.{column_polynomial, periodic_value}

-- folds of rows, at each challenge
pub record RowsFold {A : Type 0} (F : FieldOps A) (w : ℕ → A) (top : ℕ) : Type 0 where
  -- a fold of log arity `b + a` is one of `a`, neighbours by neighbours, and then one of `b` at the
  -- challenge's `2^a`-th power
  pub in_steps : (i h b a : ℕ) (beta : A) (ys : List A) → i < 2 ^ h → h + (b + a) ≤ top
      → length ys ≡ 2 ^ (b + a)
      → fold_value F w i h b (pow F beta (2 ^ a)) (partly_folded F w i h b a beta ys)
      ≡ fold_value F w i h (b + a) beta ys
  -- so one of log arity `a` is `a` folds by two
  pub binary : (i h a : ℕ) (beta : A) (ys : List A) → i < 2 ^ h → h + a ≤ top
      → length ys ≡ 2 ^ a → IsFoldOfBinaryFolds F w i h a beta ys
  -- degrees fall
  pub degrees : LowersDegrees F w top (fold_value F w)

abbrev pub Folds : Type 0 → Type 0
Folds A = (F : FieldOps A) → IsField F → (top : ℕ) (w : ℕ → A) → AreRoots F top w → RowsFold F w top

-- the chain of the query at the index `q` of a word of log height `k`, with the siblings that it
-- meets in the words of the rounds
pub record ChainMeetsWords {A : Type 0} (F : FieldOps A) (fold : ℕ → ℕ → ℕ → A → List A → A)
    (inputs : ℕ → Option (List A)) (values : ℕ → Option A) (k : ℕ) (rounds : List (Round A))
    (ys : List A) (q : ℕ) : Type 0 where
  -- it ends at the entry of the last word at the index shifted by all log arities
  pub last :
      chain F fold values rounds
      (siblings_met rounds (words_folded F fold inputs k rounds ys) q) (link_in F k ys q)
      ≡ link_in F (k - total_log_arity rounds) (after_rounds F fold inputs k rounds ys)
      (q / 2 ^ total_log_arity rounds)
  -- and the rows that it folds are those of the words
  pub rows :
      chain_rows F fold values rounds
      (siblings_met rounds (words_folded F fold inputs k rounds ys) q) (link_in F k ys q)
      ≡ rows_met rounds (words_folded F fold inputs k rounds ys) q

abbrev pub ChainsMeetWords : Type 0 → Type 0
ChainsMeetWords A = (F : FieldOps A) (fold : ℕ → ℕ → ℕ → A → List A → A)
    (inputs : ℕ → Option (List A)) (values : ℕ → Option A) (k : ℕ) (rounds : List (Round A))
    (ys : List A) (q : ℕ) → length ys ≡ 2 ^ k → total_log_arity rounds ≤ k → q < 2 ^ k
    → AreValuesMet F inputs k q values → ChainMeetsWords F fold inputs values k rounds ys q

-- where each fold lowers degrees, a word and inputs of low degrees lead to a word of low degree
abbrev pub RoundsLowerDegrees : Type 0 → Type 0
RoundsLowerDegrees A = (F : FieldOps A) → IsField F → (top : ℕ) (w : ℕ → A)
    (fold : ℕ → ℕ → ℕ → A → List A → A) → LowersDegrees F w top fold
    → (inputs : ℕ → Option (List A)) (log_blowup : ℕ) → AreLowDegreeWords F w log_blowup inputs
    → (k : ℕ) (rounds : List (Round A)) (ys : List A) → k ≤ top
    → total_log_arity rounds + log_blowup ≤ k → IsWord F w k (2 ^ (k - log_blowup)) ys
    → IsWord F w (k - total_log_arity rounds) (2 ^ (k - total_log_arity rounds - log_blowup))
    (after_rounds F fold inputs k rounds ys)

-- and where the rounds lead to the log height `l + log_blowup`, the chain of each query ends at the
-- value of the final polynomial
abbrev pub ChainsEndAtFinalPolynomials : Type 0 → Type 0
ChainsEndAtFinalPolynomials A = (F : FieldOps A) → IsField F → (top : ℕ) (w : ℕ → A)
    → AreRoots F top w → (fold : ℕ → ℕ → ℕ → A → List A → A) → LowersDegrees F w top fold
    → (inputs : ℕ → Option (List A)) (values : ℕ → Option A) (k l log_blowup : ℕ)
    (rounds : List (Round A)) (ys : List A) (q : ℕ) → AreLowDegreeWords F w log_blowup inputs
    → IsWord F w k (2 ^ (k - log_blowup)) ys → k ≤ top
    → total_log_arity rounds + (l + log_blowup) ≡ k → q < 2 ^ k → AreValuesMet F inputs k q values
    → chain F fold values rounds
    (siblings_met rounds (words_folded F fold inputs k rounds ys) q) (link_in F k ys q)
    ≡ record {
      index = q / 2 ^ total_log_arity rounds;
      log_height = l + log_blowup;
      value = val F (final_polynomial F w l (after_rounds F fold inputs k rounds ys))
          (pt F w (q / 2 ^ total_log_arity rounds) (l + log_blowup));
    }

-- on a coset of `2^k` points a polynomial has the values of what it is modulo
-- `X^(2^k) - shift^(2^k)`
abbrev pub WordsReduce : Type 0 → Type 0
WordsReduce A = (F : FieldOps A) → IsField F → (top : ℕ) (w : ℕ → A) → AreRoots F top w
    → (shift : A) (k : ℕ) (c : List A) → k ≤ top
    → coset_word F w shift k (reduced F (2 ^ k) (pow F shift (2 ^ k)) c)
    ≡ coset_word F w shift k c

-- the value of a column of period `2^a` over `2^n` rows at the `i`-th point of a coset of
-- `2^(n + b)` points is that of the column's polynomial at the point of the coset of `2^(a + b)`
-- points, by the shift's `2^(n - a)`-th power, whose index is what `i` is modulo their number
abbrev pub PeriodicValuesRepeat : Type 0 → Type 0
PeriodicValuesRepeat A = (F : FieldOps A) → IsField F → (top : ℕ) (w : ℕ → A) → AreRoots F top w
    → (a n b i : ℕ) (shift : A) (column : List A) → a ≤ n → n + b ≤ top
    → periodic_value F w a n column (F.mul shift (pow F (w (n + b)) i))
    ≡ val F (column_polynomial F w a column)
    (F.mul (pow F shift (2 ^ (n - a))) (pow F (w (a + b)) (i % 2 ^ (a + b))))
