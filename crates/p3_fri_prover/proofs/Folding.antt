-- A word as the rows of a round, and the word after the round.
use Rattle.std.proofs.Common.{◌≡◌, ℕ, zero, suc, ◌+◌, ◌/◌, ◌%◌, ◌^◌, ◌<◌, List, [], ◌∷◌}
use Rattle.std.proofs.Common.{length, get_or, take, drop, ◌++◌, ap, ◌∙◌, arith, pow_pos}
use Rattle.std.proofs.lemmas.Nat.{pow-add}
use Rattle.std.proofs.Math.Nat.{mul-div_cancel, mul-mod_left}
use Rattle.std.proofs.Math.Seq.{take-append_seam}
use Rattle.algebra.specs.Field.{FieldOps}
use Rattle.algebra.specs.Polynomial.{tabulate}
use Rattle.algebra.specs.Folds.{neighbours}
use Rattle.algebra.specs.Rounds.{Round, after_round, rolled_in, entry_of, folded_entry}
use Rattle.algebra.proofs.Lists.{tabulate-equal, length-tabulate, get_or-tabulate}
use Rattle.p3_matrix.specs.declared.dense.RowMajorMatrix.{RowMajorMatrix}
use Rattle.p3_matrix.specs.Matrix.{rows}
use Rattle.p3_matrix.specs.Rows.{rows_of}
use Rattle.p3_matrix.proofs.Rows.{length-rows_of, get_or-rows_of}
use Rattle.p3_mmcs.specs.Batch.{HavePowerHeights, dimensions_of}
use Rattle.p3_fri_folding.specs.Strategy.{folded_rows}
use Rattle.p3_fri_prover.specs.Inputs.{of_length, rolled_word}

-- how many rows a word has
rows_in_word : (n h a : ℕ) → n ≡ 2 ^ (h + a) → n / 2 ^ a ≡ 2 ^ h
rows_in_word n h a e = ap (λ m. m / 2 ^ a) (e ∙ pow-add 2 h a) ∙ mul-div_cancel (2 ^ h) (pow_pos a)

pub whole_rows : (n h a : ℕ) → n ≡ 2 ^ (h + a) → n % 2 ^ a ≡ 0
whole_rows n h a e = ap (λ m. m % 2 ^ a) (e ∙ pow-add 2 h a) ∙ mul-mod_left (2 ^ h) (2 ^ a)

module _ {E : Type 0} (a h : ℕ) (ys : List E) (whole : length ys ≡ 2 ^ (h + a)) where
  pub height_of_rows : length (rows_of (2 ^ a) ys) ≡ 2 ^ h
  height_of_rows = length-rows_of (2 ^ a) ys ∙ rows_in_word (length ys) h a whole

  pub row_is_neighbours : (i : ℕ) → i < 2 ^ h → get_or (rows_of (2 ^ a) ys) i [] ≡ neighbours ys i a
  row_is_neighbours i l =
      get_or-rows_of (2 ^ a) ys i [] (omega (arith, l, rows_in_word (length ys) h a whole))

module _ {E : Type 0} (matrix : RowMajorMatrix E) where
  pub one_power_height : (h : ℕ) → length (rows matrix) ≡ 2 ^ h
      → HavePowerHeights (dimensions_of (matrix ∷ []))
  one_power_height h e zero d l = (h, e)
  one_power_height h e (suc k) d l = absurd (omega (arith, l))

-- rows that can be folded
module _ {E : Type 0} (F : FieldOps E) (fold : ℕ → ℕ → ℕ → E → List E → E) (others : List (List E))
    (h a : ℕ) (beta : E) (ys : List E) (whole : length ys ≡ 2 ^ (h + a)) where
  abbrev this_round : Round E
  this_round = record { log_arity = a; beta = beta }

  -- the folded rows with the input of their number rolled in are the word after the round
  pub word_after : (leaves : List (List E)) (folded rolled : List E)
      → leaves ≡ rows_of (2 ^ a) ys → folded ≡ folded_rows fold h a beta leaves
      → rolled ≡ rolled_word F this_round (of_length others (length folded)) folded
      → rolled ≡ after_round F fold (λ k. of_length others (2 ^ k)) h this_round ys
  unfolding after_round
  word_after leaves folded rolled e f g =
      g ∙ ap (λ n. tabulate n (λ i. rolled_in F this_round
      (entry_of F (of_length others n) i) (get_or folded i F.zero))) size
      ∙ tabulate-equal (2 ^ h)
      (λ i. rolled_in F this_round (entry_of F (of_length others (2 ^ h)) i) (get_or folded i F.zero))
      (λ i. rolled_in F this_round (entry_of F (of_length others (2 ^ h)) i)
      (folded_entry fold h this_round ys i))
      (λ i l. ap (λ v. rolled_in F this_round (entry_of F (of_length others (2 ^ h)) i) v)
      (ap (λ zs. get_or zs i F.zero) f
      ∙ get_or-tabulate (2 ^ h) (λ i. fold i h a beta (get_or leaves i [])) i F.zero l
      ∙ ap (λ row. fold i h a beta row)
      (ap (λ r. get_or r i []) e ∙ row_is_neighbours a h ys whole i l)))
    where
      size : length folded ≡ 2 ^ h
      size = ap length f ∙ length-tabulate (2 ^ h) (λ i. fold i h a beta (get_or leaves i []))

-- a written list in a vector of its length
pub written : {E : Type 0} (n : ℕ) (now before : List E) → n ≡ length now
    → take n (now ++ drop (length now) before) ≡ now
written n now before e = ap (λ m. take m (now ++ drop (length now) before)) e
    ∙ take-append_seam now (drop (length now) before)
