-- From a query's answers to its position's passing, and from a fair test to words of low degree.
use Rattle.std.proofs.Common.{◌≡◌, ℕ, ◌+◌, ◌-◌, ◌/◌, ◌%◌, ◌^◌, ◌<◌, ◌≤◌, List, [], ◌∷◌, Option, Some}
use Rattle.std.proofs.Common.{length, insert, refl, sym, ap, ◌∙◌, subst, arith, pow_pos}
use Rattle.std.proofs.Math.Nat.{div-lt_iff_lt-mul}
use Rattle.std.proofs.lemmas.Nat.{pow-add}
use Rattle.algebra.specs.Field.{FieldOps, IsField}
use Rattle.algebra.specs.Polynomial.{val}
use Rattle.algebra.specs.TwoAdic.{AreRoots, pt}
use Rattle.algebra.specs.Words.{word}
use Rattle.algebra.specs.Folds.{fold_value}
use Rattle.algebra.specs.Rounds.{Round, rolled_in, entry_of, rows_met, chain, chain_rows, AreValuesMet}
use Rattle.algebra.proofs.Lists.{tail_eq, get_or-tabulate, each_from_All}
use Rattle.fri_soundness.specs.Counting.{AllBut}
use Rattle.fri_soundness.specs.FoldTests.{Step, Passes, AreSteps, EndsLow, HasRoom, IsBadIn, indices, budget}
use Rattle.fri_soundness.specs.CommittedWords.{steps_of, next_word, AreWords, IsAnswered, last_height, last_word, test_steps, first_word}
use Rattle.fri_soundness.specs.CommittedWords.{PassesTest, IsFair, IsLowWherePassed}
use Rattle.fri_soundness.proofs.SoundTests.{all_but-tabulate, sound}
use Rattle.fri_soundness.proofs.Levels.{few_fail, budgets_cover, Cover}
use Rattle.fri_soundness.proofs.ChainsPass.{chain_passes}

some-injective : {A : Type 0} {a b : A} → Some a ≡ Some b → a ≡ b
some-injective e = cc

module _ {A : Type 0} (F : FieldOps A) (w : ℕ → A) (values : ℕ → Option A) where
  -- the link at which the rounds leave a chain
  chain_end : (h : ℕ) (rounds : List (Round A)) (words siblings : List (List A)) (q : ℕ) (v : A) → AreWords h rounds words → q < 2 ^ h
      → chain_rows F (fold_value F w) values rounds siblings (record { index = q; log_height = h; value = v }) ≡ rows_met rounds words q
      → ((chain F (fold_value F w) values rounds siblings (record { index = q; log_height = h; value = v })).log_height ≡ last_height h rounds)
      × ((chain F (fold_value F w) values rounds siblings (record { index = q; log_height = h; value = v })).index < 2 ^ last_height h rounds)
  chain_end h [] [] siblings q v are l rows = (refl, l)
  chain_end h [] (ys ∷ words) siblings q v are l rows = absurd are
  chain_end h (r ∷ rounds) [] siblings q v are l rows = absurd are
  chain_end h (r ∷ rounds) (ys ∷ words) [] q v are l rows = absurd cc
  chain_end h (r ∷ rounds) (ys ∷ words) (s ∷ siblings) q v are l rows =
      let height = h - r.log_arity in
      let row = q / 2 ^ r.log_arity in
      let split : h ≡ height + r.log_arity = omega (arith, are.1) in
      let below : q < 2 ^ (height + r.log_arity) = subst (λ n. q < 2 ^ n) split l in
      let below_row : row < 2 ^ height = (div-lt_iff_lt-mul (pow_pos r.log_arity)).1 (rw (← pow-add 2 height r.log_arity) below) in
      chain_end height rounds words siblings row (rolled_in F r (values height) (fold_value F w row height r.log_arity r.beta (insert s (q % 2 ^ r.log_arity) v)))
      are.2 below_row (tail_eq rows)

module _ {A : Type 0} (F : FieldOps A) (w : ℕ → A) (inputs : ℕ → Option (List A)) where
  pub answer_passes : (h : ℕ) (rounds : List (Round A)) (words : List (List A)) (c : List A) → AreWords h rounds words
      → (q : ℕ) → q < 2 ^ h → (values : ℕ → Option A) → AreValuesMet F inputs h q values
      → (siblings : List (List A)) (first : A) → values h ≡ Some first
      → IsAnswered F w h rounds words c values siblings first q
      → PassesTest F w inputs h rounds words c q
  answer_passes h rounds words c are q l values met siblings first begins answered =
      let end = chain_end F w values h rounds words siblings q first are l answered.rows in
      let passes = chain_passes F w inputs values h rounds words siblings (last_word F w inputs h rounds words c) q first are l met answered.rows
      (answered.ends ∙ ap (λ n. val F c (pt F w (chain F (fold_value F w) values rounds siblings (record { index = q; log_height = h; value = first })).index n)) end.0
      ∙ sym (get_or-tabulate (2 ^ last_height h rounds) (λ i. val F c (pt F w i (last_height h rounds)))
      (chain F (fold_value F w) values rounds siblings (record { index = q; log_height = h; value = first })).index F.zero end.1)) in (
        ap (λ n. entry_of F (inputs h) n) (let e : q ≡ q / 1 = omega arith in e ∙ ap (λ m. q / 2 ^ m) (let z : 0 ≡ h - h = omega arith in z))
            ∙ sym (met h (omega arith)) ∙ begins ∙ ap (λ v. Some v) passes.1,
        passes.0,
      )

  module _ (c : List A) where
    are_steps : (h : ℕ) (rounds : List (Round A)) (words : List (List A)) (last : List A) → AreWords h rounds words → last ≡ word F w (last_height h rounds) c
        → AreSteps F w h (next_word words last) c (steps_of inputs h rounds words last)
    are_steps h [] [] last are e = e
    are_steps h [] (ys ∷ words) last are e = absurd are
    are_steps h (r ∷ rounds) [] last are e = absurd are
    are_steps h (r ∷ rounds) (ys ∷ words) last are e = (refl, are.0, omega (arith, are.1), are_steps (h - r.log_arity) rounds words last are.2 e)

    ends_low : (log_blowup : ℕ) (e : ℕ → ℕ) (h : ℕ) (rounds : List (Round A)) (words : List (List A)) (last : List A) → AreWords h rounds words
        → length c ≡ 2 ^ (last_height h rounds - log_blowup) → EndsLow F w log_blowup e h c (steps_of inputs h rounds words last)
    ends_low b e h [] [] last are n = n
    ends_low b e h [] (ys ∷ words) last are n = absurd are
    ends_low b e h (r ∷ rounds) [] last are n = absurd are
    ends_low b e h (r ∷ rounds) (ys ∷ words) last are n = ends_low b e (h - r.log_arity) rounds words last are.2 n

module _ {A : Type 0} (F : FieldOps A) (L : IsField F) (top : ℕ) (w : ℕ → A) (W : AreRoots F top w) (inputs : ℕ → Option (List A))
    (h : ℕ) (rounds : List (Round A)) (words : List (List A)) (c : List A) (log_blowup failing : ℕ) (within : h ≤ top)
    (fair : IsFair F w inputs h rounds words c log_blowup failing)
    (few : AllBut (PassesTest F w inputs h rounds words c) failing (indices h)) where
  abbrev steps : List (Step A)
  steps = test_steps F w inputs h rounds words c

  are : AreSteps F w h (first_word F w inputs h rounds words c) c steps
  are = are_steps F w inputs c h rounds words (last_word F w inputs h rounds words c) fair.are_words refl

  passing : AllBut (Passes F w steps) failing (indices h)
  passing = all_but-tabulate (PassesTest F w inputs h rounds words c) (Passes F w steps) failing (2 ^ h) (λ i. i) (λ i. i) (λ i l p. p.1) few

  exact : budget h failing h ≡ failing
  exact = ap (λ m. failing / 2 ^ m) (let z : h - h ≡ 0 = omega arith in z) ∙ (let e : failing / 1 ≡ failing = omega arith in e)

  pub fair_test_is_sound : IsLowWherePassed F w inputs h rounds words c log_blowup failing
  fair_test_is_sound =
      let few_rows = few_fail F w log_blowup (budget h failing) h failing (first_word F w inputs h rounds words c) c steps are
      (subst (λ n. Cover F w log_blowup (budget h failing) n steps) exact
      (budgets_cover F w log_blowup h failing h (first_word F w inputs h rounds words c) c steps (omega arith) are)) passing in
      let holds = sound F L top w W log_blowup (budget h failing) h (first_word F w inputs h rounds words c) c steps within are
      (ends_low F w inputs c log_blowup (budget h failing) h rounds words (last_word F w inputs h rounds words c) fair.are_words fair.degree)
      (each_from_All (HasRoom F w log_blowup (budget h failing)) steps fair.room)
      (each_from_All (λ (s : Step A). ¬ (IsBadIn F w log_blowup (budget h failing) s s.round.beta)) steps fair.none_bad)
      few_rows in
      record {
        first = holds.0;
        greatest = λ us is. record {
          polynomial = holds.0.polynomial;
          degree = holds.0.degree;
          values = λ i l p. some-injective (ap (λ o. entry_of F o i) (sym is) ∙ p.0) ∙ holds.0.values i l p.1;
        };
        later = holds.1;
        few = few_rows;
      }
