-- Folding a word in place, row by row and round by round.
use Rattle.std.proofs.Common.{◌≡◌, ℕ, length-set, inl, inr, zero, suc, ◌+◌, ◌-◌, ◌*◌, ◌^◌, ◌<◌, ◌≤◌, List, [], ◌∷◌, ◌++◌, length, get_or, take, drop, set, refl, sym, ap, ◌∙◌, arith, add-one, drop-cons}
use Rattle.std.specs.Prelude.{replicate}
use Rattle.std.specs.List.{slice_range}
use Rattle.std.proofs.Math.Nat.{div-one, mod-one}
use Rattle.std.proofs.lemmas.Bool.Decides.{nat_tests, leb_tells}
use Rattle.std.proofs.lemmas.List.{take_more_set, drop-set-lt, drop-drop, append-nil, length-replicate}
use Rattle.algebra.specs.Field.{FieldOps}
use Rattle.algebra.specs.Polynomial.{tabulate}
use Rattle.algebra.proofs.Lists.{length-tabulate}
use Rattle.p3_fri_core.specs.Folds.{fold_value, folded_word, folded_rounds}
use Rattle.p3_fri_core.specs.Schedule.{schedule, stops, rounds_through, rounds_over}

-- a row of one more entry
tabulate-suc : {A : Type 0} (n : ℕ) (f : ℕ → A) → tabulate (suc n) f ≡ tabulate n f ++ f n ∷ []
tabulate-suc zero f = refl
tabulate-suc (suc n) f = ap (λ (rest : List _). f zero ∷ rest) (tabulate-suc n (λ i. f (suc i)))

-- a part of what two lists share
pub slice_range-shared : {A : Type 0} (i from to : ℕ) (xs ys : List A) → i ≤ from → drop i xs ≡ drop i ys → slice_range xs from to ≡ slice_range ys from to
slice_range-shared i from to xs ys before shared =
    let e : i + (from - i) ≡ from = omega arith in
    let x = drop-drop (from - i) i xs in
    let y = drop-drop (from - i) i ys in
    ap (take (to - from)) (rw (← e) (sym x ∙ ap (drop (from - i)) shared ∙ y))

-- the first `i` entries of a word are done, and the others are as they were
pub record IsDoneBelow {A : Type 0} (f : ℕ → A) (old now : List A) (i : ℕ) : Type 0 where
  pub done : take i now ≡ tabulate i f
  pub rest : drop i now ≡ drop i old
  pub size : length now ≡ length old

-- one entry more is done
pub done-more : {A : Type 0} (f : ℕ → A) (old now : List A) (i : ℕ) (v : A) → i < length now → IsDoneBelow f old now i → v ≡ f i → IsDoneBelow f old (set now i v) (i + 1)
done-more f old now i v inside so_far e = record {
  done = take_more_set now i v inside ∙ rw (so_far.done, e, add-one i) (sym (tabulate-suc i f));
  rest = drop-set-lt (i + 1) now i v (omega arith) ∙ sym (drop-drop 1 i now) ∙ ap (drop 1) so_far.rest ∙ drop-drop 1 i old;
  size = length-set now i v ∙ so_far.size;
}

-- a schedule for the cap 1 has a round for each height passed
pub schedule-ones : (height final : ℕ) → schedule (height ∷ []) final 1 ≡ replicate (height - final) 1
unfolding schedule stops rounds_through rounds_over
schedule-ones height final = elim (leb_tells height final) [ inl w ↦ low w.1 | inr w ↦ high w.1 ]
  where
    low : height ≤ final → schedule (height ∷ []) final 1 ≡ replicate (height - final) 1
    low below =
        let none : height - final ≡ 0 = omega arith in
        let e : schedule (height ∷ []) final 1 ≡ [] = grind (arith, nat_tests) in
        e ∙ (rw none)

    high : final < height → schedule (height ∷ []) final 1 ≡ replicate (height - final) 1
    high above =
        let e : schedule (height ∷ []) final 1 ≡ rounds_over (height - final) 1 ++ [] = grind (arith, nat_tests) in
        e ∙ rw (append-nil {A = ℕ} (rounds_over (height - final) 1), div-one (height - final), mod-one (height - final)) (append-nil {A = ℕ} (replicate (height - final) 1))

-- and so many rounds
pub length-schedule_ones : (height final : ℕ) → length (schedule (height ∷ []) final 1) ≡ height - final
length-schedule_ones height final = rw (schedule-ones height final) (length-replicate (height - final) 1)

module _ {A : Type 0} (F : FieldOps A) (w : ℕ → A) where
  -- a folded word has the length of its log height
  pub length-folded_word : (h a : ℕ) (beta : A) (ys : List A) → length (folded_word F w h a beta ys) ≡ 2 ^ h
  unfolding folded_word
  length-folded_word h a beta ys = length-tabulate (2 ^ h) (λ i. fold_value F w i h a beta (slice_range ys (i * 2 ^ a) (i * 2 ^ a + 2 ^ a)))

  -- the first of the rounds
  folded_rounds-next : (k n : ℕ) (beta : A) (betas ys : List A) → 0 < n → folded_rounds F w k (replicate n 1) (beta ∷ betas) ys ≡ folded_rounds F w (k - 1) (replicate (n - 1) 1) betas (folded_word F w (k - 1) 1 beta ys)
  folded_rounds-next k zero beta betas ys some = absurd (omega arith)
  folded_rounds-next k (suc n) beta betas ys some = let e : suc n - 1 ≡ n = omega arith in rw e

  -- the rounds after round `i` fold what that round made of the word
  pub rounds-more : (betas : List A) (i : ℕ) (beta : A) (k : ℕ) (word folded : List A) → i < length betas → beta ≡ get_or betas i beta → folded ≡ folded_word F w (k - 1) 1 beta word
      → folded_rounds F w (k - 1) (replicate (length betas - (i + 1)) 1) (drop (i + 1) betas) folded ≡ folded_rounds F w k (replicate (length betas - i) 1) (drop i betas) word
  rounds-more betas i beta k word folded inside at e =
      let left : length betas - i - 1 ≡ length betas - (i + 1) = omega arith in
      let next : drop i betas ≡ beta ∷ drop (i + 1) betas = drop-cons betas i beta inside ∙ rw (← at, add-one i) in
      rw (next, folded_rounds-next k (length betas - i) beta (drop (i + 1) betas) word (omega arith), left, e)
