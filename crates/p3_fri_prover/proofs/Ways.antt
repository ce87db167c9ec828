-- The way of an index through the rounds: the words, their heights and the rows in which it lies,
-- round by round.
use Rattle.std.proofs.Common.{◌≡◌, ℕ, zero, suc, ◌+◌, ◌-◌, ◌/◌, ◌%◌, ◌^◌, ◌<◌, ◌≤◌, List, []}
use Rattle.std.proofs.Common.{◌∷◌, Option, length, get_or, remove, sum, refl, sym, ap, ap₂, ◌∙◌}
use Rattle.std.proofs.Common.{arith}
use Rattle.std.proofs.lemmas.List.Sums.{sum_by-cons}
use Rattle.algebra.specs.Field.{FieldOps}
use Rattle.algebra.specs.Folds.{neighbours}
use Rattle.algebra.specs.Rounds.{total_log_arity, after_round, words_folded}
use Rattle.algebra.specs.Rounds.{rows_met, siblings_met}
use Rattle.algebra.proofs.Rounds.{length-after_round, total-nil, total-cons}
use Rattle.p3_fri_relation.specs.Setting.{RoundOpening}
use Rattle.p3_fri_relation.specs.Queries.{rounds_of, heights_after, row_indices, siblings_at}
use Rattle.p3_fri_prover.specs.Openings.{index_into}
use Rattle.p3_field_core.proofs.IndexPowers.{index_cut}

-- the height of the word that round `k` folds
abbrev pub height_before : (log_arities : List ℕ) (h k : ℕ) → ℕ
height_before log_arities h k = get_or (h ∷ heights_after log_arities h) k 0

pub sum-cons : (a : ℕ) (arities : List ℕ) → sum (a ∷ arities) ≡ a + sum arities
sum-cons a arities = sum_by-cons (λ a. a) a arities

-- the row in which the index of round `k` lies
pub row_index : (log_arities : List ℕ) (q k : ℕ) → k < length log_arities
    → get_or (row_indices log_arities q) k 0
    ≡ index_into log_arities q k / 2 ^ get_or log_arities k 0
row_index [] q k l = absurd (omega (arith, l))
row_index (a ∷ arities) q zero l = refl
row_index (a ∷ arities) q (suc k) l = row_index arities (q / 2 ^ a) k (omega (arith, l))

-- each round lowers the height by its log arity
pub height_lowered : (log_arities : List ℕ) (h k : ℕ) → sum log_arities ≤ h → k < length log_arities
    → get_or (heights_after log_arities h) k 0 + get_or log_arities k 0
    ≡ height_before log_arities h k
height_lowered [] h k s l = absurd (omega (arith, l))
height_lowered (a ∷ arities) h zero s l = omega (arith, s, sum-cons a arities)
height_lowered (a ∷ arities) h (suc k) s l =
    height_lowered arities (h - a) k (omega (arith, s, sum-cons a arities)) (omega (arith, l))

-- an index stays below its word's length
pub index_below : (log_arities : List ℕ) (h q k : ℕ) → sum log_arities ≤ h → q < 2 ^ h
    → k ≤ length log_arities
    → index_into log_arities q k < 2 ^ height_before log_arities h k
index_below arities h q zero s below l = below
index_below [] h q (suc k) s below l = absurd (omega (arith, l))
index_below (a ∷ arities) h q (suc k) s below l =
    index_below arities (h - a) (q / 2 ^ a) k (omega (arith, s, sum-cons a arities))
    (index_cut q h a below (omega (arith, s, sum-cons a arities))) (omega (arith, l))

module _ {E : Type 0} where
  -- how far the rounds lower the height
  pub total_of_rounds : (log_arities : List ℕ) (betas : List E) → length betas ≡ length log_arities
      → total_log_arity (rounds_of log_arities betas) ≡ sum log_arities
  total_of_rounds [] [] n = total-nil E
  total_of_rounds [] (b ∷ betas) n = absurd (omega (arith, n))
  total_of_rounds (a ∷ arities) [] n = absurd (omega (arith, n))
  total_of_rounds (a ∷ arities) (b ∷ betas) n =
      total-cons (record { log_arity = a; beta = b }) (rounds_of arities betas)
      ∙ ap (λ m. a + m) (total_of_rounds arities betas (omega (arith, n)))
      ∙ sym (sum-cons a arities)

module _ {E : Type 0} (F : FieldOps E) (fold : ℕ → ℕ → ℕ → E → List E → E)
    (inputs : ℕ → Option (List E)) where
  -- the words that the rounds fold
  abbrev pub words : (log_arities : List ℕ) (betas : List E) (h : ℕ) (ys : List E) → List (List E)
  words log_arities betas h ys = words_folded F fold inputs h (rounds_of log_arities betas) ys

  pub length_of_word : (log_arities : List ℕ) (betas : List E) (h : ℕ) (ys : List E) (k : ℕ)
      → length betas ≡ length log_arities → length ys ≡ 2 ^ h → k < length log_arities
      → length (get_or (words log_arities betas h ys) k []) ≡ 2 ^ height_before log_arities h k
  length_of_word [] betas h ys k n y l = absurd (omega (arith, l))
  length_of_word (a ∷ arities) [] h ys k n y l = absurd (omega (arith, n))
  length_of_word (a ∷ arities) (b ∷ betas) h ys zero n y l = y
  length_of_word (a ∷ arities) (b ∷ betas) h ys (suc k) n y l =
      length_of_word arities betas (h - a)
      (after_round F fold inputs (h - a) (record { log_arity = a; beta = b }) ys) k
      (omega (arith, n))
      (length-after_round F fold inputs (h - a) (record { log_arity = a; beta = b }) ys)
      (omega (arith, l))

  -- the row that round `k` meets
  pub row_met_at : (log_arities : List ℕ) (betas : List E) (h : ℕ) (ys : List E) (q k : ℕ)
      → length betas ≡ length log_arities → k < length log_arities
      → get_or (rows_met (rounds_of log_arities betas) (words log_arities betas h ys) q) k []
      ≡ neighbours (get_or (words log_arities betas h ys) k [])
      (index_into log_arities q k / 2 ^ get_or log_arities k 0) (get_or log_arities k 0)
  row_met_at [] betas h ys q k n l = absurd (omega (arith, l))
  row_met_at (a ∷ arities) [] h ys q k n l = absurd (omega (arith, n))
  row_met_at (a ∷ arities) (b ∷ betas) h ys q zero n l = refl
  row_met_at (a ∷ arities) (b ∷ betas) h ys q (suc k) n l =
      row_met_at arities betas (h - a)
      (after_round F fold inputs (h - a) (record { log_arity = a; beta = b }) ys) (q / 2 ^ a) k
      (omega (arith, n)) (omega (arith, l))

  -- the siblings in the row that round `k` meets
  abbrev pub siblings_in : (log_arities : List ℕ) (betas : List E) (h : ℕ) (ys : List E) (q k : ℕ)
      → List E
  siblings_in log_arities betas h ys q k =
      remove (neighbours (get_or (words log_arities betas h ys) k [])
      (index_into log_arities q k / 2 ^ get_or log_arities k 0) (get_or log_arities k 0))
      (index_into log_arities q k % 2 ^ get_or log_arities k 0)

  -- where each round opens these, they are all that the query meets
  pub siblings_are_met : {Path : Type 0} (log_arities : List ℕ) (betas : List E) (h : ℕ)
      (ys : List E) (q j : ℕ) (openings : List (RoundOpening E Path))
      → length betas ≡ length log_arities → length openings ≡ length log_arities
      → ((k : ℕ) (o : RoundOpening E Path) → k < length log_arities
      → get_or (get_or openings k o).siblings j [] ≡ siblings_in log_arities betas h ys q k)
      → siblings_at j openings
      ≡ siblings_met (rounds_of log_arities betas) (words log_arities betas h ys) q
  siblings_are_met [] betas h ys q j [] n m each = refl
  siblings_are_met [] betas h ys q j (o ∷ os) n m each = absurd (omega (arith, m))
  siblings_are_met (a ∷ arities) [] h ys q j openings n m each = absurd (omega (arith, n))
  siblings_are_met (a ∷ arities) (b ∷ betas) h ys q j [] n m each = absurd (omega (arith, m))
  siblings_are_met (a ∷ arities) (b ∷ betas) h ys q j (o ∷ os) n m each =
      ap₂ (λ x xs. x ∷ xs) (each 0 o (omega arith))
      (siblings_are_met arities betas (h - a)
      (after_round F fold inputs (h - a) (record { log_arity = a; beta = b }) ys) (q / 2 ^ a) j os
      (omega (arith, n)) (omega (arith, m)) (λ k d l. each (suc k) d (omega (arith, l))))
