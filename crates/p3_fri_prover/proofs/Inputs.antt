-- The words that are handed in, by log height and by length.
use Rattle.std.proofs.Common.{◌≡◌, ◌≢◌, inl, inr, ℕ, zero, suc, ◌+◌, ◌-◌, ◌^◌, ◌<◌, ◌≤◌}
use Rattle.std.proofs.Common.{List, [], ◌∷◌, length, get_or, sum, Option}
use Rattle.std.proofs.Common.{Some, refl, sym, ap, ap₂, ◌∙◌, arith, remove}
use Rattle.std.specs.Prelude.{All, ◌==◌, if◌then◌else◌}
use Rattle.std.proofs.lemmas.Bool.Decides.{eqb_tells}
use Rattle.std.proofs.lemmas.Bool.{eq-eqb, ne_eqb}
use Rattle.algebra.specs.Field.{FieldOps}
use Rattle.algebra.specs.Polynomial.{tabulate}
use Rattle.algebra.specs.Rounds.{Round, after_round, after_rounds, words_folded, rolled_in, entry_of}
use Rattle.algebra.specs.Rounds.{folded_entry}
use Rattle.p3_fri_folding.specs.Schedule.{tallest}
use Rattle.p3_fri_relation.specs.Queries.{rounds_of}
use Rattle.p3_fri_prover.specs.Inputs.{HaveHeights, input_of, of_length, HavePowerLengths}
use Rattle.p3_fri_prover.proofs.Ways.{sum-cons}
use Rattle.p3_field_core.proofs.IndexPowers.{exponents_agree}

-- a word's length is that of its log height exactly where the heights are the same
same_test : (n h k : ℕ) → n ≡ 2 ^ k → (n == 2 ^ h) ≡ (h == k)
same_test n h k e = elim (eqb_tells h k) [
  | inl (t, same) ↦ eq-eqb n (2 ^ h) (e ∙ ap (λ m. 2 ^ m) (sym same)) ∙ sym t
  | inr (f, differ) ↦ ne_eqb n (2 ^ h) (λ s. differ (exponents_agree h k (sym s ∙ e))) ∙ sym f
]

module _ {E : Type 0} where
  -- the first word of a length is that of the log height
  pub of_length_is_input : (heights : List ℕ) (words : List (List E)) (h : ℕ)
      → HaveHeights heights words → of_length words (2 ^ h) ≡ input_of heights words h
  of_length_is_input [] [] h have = refl
  of_length_is_input [] (w ∷ ws) h have = absurd have
  of_length_is_input (k ∷ ks) [] h have = absurd have
  of_length_is_input (k ∷ ks) (w ∷ ws) h have =
      ap (λ t. if t then Some w else of_length ws (2 ^ h)) (same_test (length w) h k have.0)
      ∙ ap (λ u. if h == k then Some w else u) (of_length_is_input ks ws h have.1)

  pub heights_unique : (heights others : List ℕ) (words : List (List E))
      → HaveHeights heights words → HaveHeights others words → heights ≡ others
  heights_unique [] [] [] a b = refl
  heights_unique [] [] (w ∷ ws) a b = absurd a
  heights_unique [] (k ∷ ks) [] a b = absurd b
  heights_unique [] (k ∷ ks) (w ∷ ws) a b = absurd a
  heights_unique (h ∷ hs) [] [] a b = absurd a
  heights_unique (h ∷ hs) [] (w ∷ ws) a b = absurd b
  heights_unique (h ∷ hs) (k ∷ ks) [] a b = absurd a
  heights_unique (h ∷ hs) (k ∷ ks) (w ∷ ws) a b =
      ap₂ (λ x xs. x ∷ xs) (exponents_agree h k (sym a.0 ∙ b.0)) (heights_unique hs ks ws a.1 b.1)

  pub power_lengths : (heights : List ℕ) (words : List (List E)) → HaveHeights heights words
      → HavePowerLengths words
  power_lengths [] [] have k d l = absurd (omega (arith, l))
  power_lengths [] (w ∷ ws) have k d l = absurd have
  power_lengths (h ∷ hs) [] have k d l = absurd have
  power_lengths (h ∷ hs) (w ∷ ws) have zero d l = (h, have.0)
  power_lengths (h ∷ hs) (w ∷ ws) have (suc k) d l =
      power_lengths hs ws have.1 k d (omega (arith, l))

  -- below the first word's log height the others are looked up among themselves
  pub input_of_others : (heights : List ℕ) (words : List (List E)) (top h : ℕ)
      → HaveHeights heights words → tallest heights ≡ top → h < top
      → of_length (remove words 0) (2 ^ h) ≡ input_of heights words h
  input_of_others [] [] top h have first l = refl
  input_of_others [] (w ∷ ws) top h have first l = absurd have
  input_of_others (k ∷ ks) [] top h have first l = absurd have
  input_of_others (k ∷ ks) (w ∷ ws) top h have first l =
      of_length_is_input ks ws h have.1
      ∙ ap (λ t. if t then Some w else input_of ks ws h)
      (sym (ne_eqb h k (λ e. let less : h < k = omega (arith, l, first) in omega (arith, e, less))))

  pub first_word : (heights : List ℕ) (words : List (List E)) (top : ℕ)
      → HaveHeights heights words → heights ≢ [] → tallest heights ≡ top
      → length (get_or words 0 []) ≡ 2 ^ top
  first_word [] words top have some first = absurd (some refl)
  first_word (k ∷ ks) [] top have some first = absurd have
  first_word (k ∷ ks) (w ∷ ws) top have some first = have.0 ∙ ap (λ m. 2 ^ m) first

  pub some_word : (heights : List ℕ) (words : List (List E))
      → HaveHeights heights words → heights ≢ [] → 0 < length words
  some_word [] words have some = absurd (some refl)
  some_word (k ∷ ks) [] have some = absurd have
  some_word (k ∷ ks) (w ∷ ws) have some = omega arith

module _ {E : Type 0} (F : FieldOps E) (fold : ℕ → ℕ → ℕ → E → List E → E)
    (inputs others : ℕ → Option (List E)) where
  round_agrees : (h : ℕ) (r : Round E) (ys : List E) → inputs h ≡ others h
      → after_round F fold inputs h r ys ≡ after_round F fold others h r ys
  unfolding after_round
  round_agrees h r ys e =
      ap (λ u. tabulate (2 ^ h) (λ i. rolled_in F r (entry_of F u i) (folded_entry fold h r ys i))) e

  -- rounds read the inputs below the first word alone
  pub rounds_agree : (arities : List ℕ) (betas : List E) (top : ℕ) (ys : List E)
      → All (λ a. 0 < a) arities → sum arities ≤ top
      → ((h : ℕ) → h < top → inputs h ≡ others h)
      → after_rounds F fold inputs top (rounds_of arities betas) ys
      ≡ after_rounds F fold others top (rounds_of arities betas) ys
  rounds_agree [] betas top ys positive within agree = refl
  rounds_agree (a ∷ arities) [] top ys positive within agree = refl
  rounds_agree (a ∷ arities) (b ∷ betas) top ys positive within agree =
      let some : 0 < a = positive 0 0 (omega arith) in
      let total : a + sum arities ≤ top = omega (arith, within, sum-cons a arities) in
      ap (λ zs. after_rounds F fold inputs (top - a) (rounds_of arities betas) zs)
      (round_agrees (top - a) (record { log_arity = a; beta = b }) ys
      (agree (top - a) (omega (arith, some, total))))
      ∙ rounds_agree arities betas (top - a)
      (after_round F fold others (top - a) (record { log_arity = a; beta = b }) ys)
      (λ k d l. positive (suc k) d (omega (arith, l))) (omega (arith, total))
      (λ h l. agree h (omega (arith, l)))

  pub words_agree : (arities : List ℕ) (betas : List E) (top : ℕ) (ys : List E)
      → All (λ a. 0 < a) arities → sum arities ≤ top
      → ((h : ℕ) → h < top → inputs h ≡ others h)
      → words_folded F fold inputs top (rounds_of arities betas) ys
      ≡ words_folded F fold others top (rounds_of arities betas) ys
  words_agree [] betas top ys positive within agree = refl
  words_agree (a ∷ arities) [] top ys positive within agree = refl
  words_agree (a ∷ arities) (b ∷ betas) top ys positive within agree =
      let some : 0 < a = positive 0 0 (omega arith) in
      let total : a + sum arities ≤ top = omega (arith, within, sum-cons a arities) in
      ap (λ zs. ys ∷ words_folded F fold inputs (top - a) (rounds_of arities betas) zs)
      (round_agrees (top - a) (record { log_arity = a; beta = b }) ys
      (agree (top - a) (omega (arith, some, total))))
      ∙ ap (λ zss. ys ∷ zss) (words_agree arities betas (top - a)
      (after_round F fold others (top - a) (record { log_arity = a; beta = b }) ys)
      (λ k d l. positive (suc k) d (omega (arith, l))) (omega (arith, total))
      (λ h l. agree h (omega (arith, l))))
