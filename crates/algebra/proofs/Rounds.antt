-- The words after rounds of folding: their entries, their length and their degree.
use Rattle.std.proofs.Common.{◌≡◌, ℕ, ◌+◌, ◌-◌, ◌*◌, ◌^◌, ◌<◌, ◌≤◌, List, [], ◌∷◌, ◌++◌}
use Rattle.std.proofs.Common.{Option, Some, None, length, map, get_or, refl, sym, ap, ap₂, ◌∙◌}
use Rattle.std.proofs.Common.{arith}
use Rattle.std.proofs.lemmas.Nat.{pow-add}
use Rattle.std.proofs.lemmas.List.{length-map}
use Rattle.std.proofs.lemmas.List.Sums.{sum_by-cons}
use Rattle.algebra.specs.Field.{FieldOps, IsRing, pow}
use Rattle.algebra.specs.Polynomial.{val, tabulate}
use Rattle.algebra.specs.TwoAdic.{pt}
use Rattle.algebra.specs.Words.{word, IsWord}
use Rattle.algebra.specs.Folds.{folded_by, LowersDegrees}
use Rattle.algebra.specs.Rounds.{Round, total_log_arity, rolled_in, entry_of, folded_entry}
use Rattle.algebra.specs.Rounds.{after_round, after_rounds, words_folded, AreLowDegreeWords}
use Rattle.algebra.specs.Lists.{add_lists}
use Rattle.algebra.proofs.Values.{length-add_lists, val-add, val-scale}
use Rattle.algebra.proofs.Lists.{length-tabulate, get_or-tabulate, tabulate-equal}

pub total-nil : (A : Type 0) → total_log_arity {A = A} [] ≡ 0
unfolding total_log_arity
total-nil A = refl

module _ {A : Type 0} where
  pub total-cons : (r : Round A) (rounds : List (Round A))
      → total_log_arity (r ∷ rounds) ≡ r.log_arity + total_log_arity rounds
  unfolding total_log_arity
  total-cons r rounds = sum_by-cons (λ a. a) r.log_arity (map (λ r. r.log_arity) rounds)

module _ {A : Type 0} (F : FieldOps A) (fold : ℕ → ℕ → ℕ → A → List A → A)
    (inputs : ℕ → Option (List A)) where
  open F use {zero as 𝟘}

  pub length-after_round : (h : ℕ) (r : Round A) (ys : List A)
      → length (after_round F fold inputs h r ys) ≡ 2 ^ h
  unfolding after_round
  length-after_round h r ys =
      length-tabulate (2 ^ h)
      (λ i. rolled_in F r (entry_of F (inputs h) i) (folded_entry fold h r ys i))

  pub after_round-entry : (h : ℕ) (r : Round A) (ys : List A) (i : ℕ) (d : A) → i < 2 ^ h
      → get_or (after_round F fold inputs h r ys) i d
      ≡ rolled_in F r (entry_of F (inputs h) i) (folded_entry fold h r ys i)
  unfolding after_round
  after_round-entry h r ys i d l =
      get_or-tabulate (2 ^ h)
      (λ i. rolled_in F r (entry_of F (inputs h) i) (folded_entry fold h r ys i)) i d l

  -- one round more
  pub after_rounds-next : (k : ℕ) (rounds : List (Round A)) (r : Round A) (ys : List A)
      → after_rounds F fold inputs k (rounds ++ r ∷ []) ys
      ≡ after_round F fold inputs (k - total_log_arity rounds - r.log_arity) r
      (after_rounds F fold inputs k rounds ys)
  after_rounds-next k [] r ys =
      ap (λ n. after_round F fold inputs (n - r.log_arity) r ys)
      (let e : k ≡ k - total_log_arity {A = A} [] = omega (arith, total-nil A) in e)
  after_rounds-next k (s ∷ rounds) r ys =
      after_rounds-next (k - s.log_arity) rounds r
      (after_round F fold inputs (k - s.log_arity) s ys)
      ∙ ap (λ n. after_round F fold inputs (n - r.log_arity) r
      (after_rounds F fold inputs (k - s.log_arity) rounds
      (after_round F fold inputs (k - s.log_arity) s ys)))
      (let e : k - s.log_arity - total_log_arity rounds ≡ k - total_log_arity (s ∷ rounds) =
      omega (arith, total-cons s rounds) in e)

  pub words_folded-next : (k : ℕ) (rounds : List (Round A)) (r : Round A) (ys : List A)
      → words_folded F fold inputs k (rounds ++ r ∷ []) ys
      ≡ words_folded F fold inputs k rounds ys ++ after_rounds F fold inputs k rounds ys ∷ []
  words_folded-next k [] r ys = refl
  words_folded-next k (s ∷ rounds) r ys =
      ap (λ words. ys ∷ words)
      (words_folded-next (k - s.log_arity) rounds r
      (after_round F fold inputs (k - s.log_arity) s ys))

  pub length-after_rounds : (k : ℕ) (rounds : List (Round A)) (ys : List A) → length ys ≡ 2 ^ k
      → length (after_rounds F fold inputs k rounds ys) ≡ 2 ^ (k - total_log_arity rounds)
  length-after_rounds k [] ys n = n
      ∙ ap (λ m. 2 ^ m) (let e : k ≡ k - total_log_arity {A = A} [] = omega (arith, total-nil A) in
      e)
  length-after_rounds k (r ∷ rounds) ys n =
      length-after_rounds (k - r.log_arity) rounds
      (after_round F fold inputs (k - r.log_arity) r ys)
      (length-after_round (k - r.log_arity) r ys)
      ∙ ap (λ m. 2 ^ m) (let e : k - r.log_arity - total_log_arity rounds
      ≡ k - total_log_arity (r ∷ rounds) = omega (arith, total-cons r rounds) in e)

module _ {A : Type 0} (F : FieldOps A) (R : IsRing F) (w : ℕ → A) where
  infixl 65 ◌⊕◌
  infixl 70 ◌⊗◌
  open F use {zero as 𝟘, add as ◌⊕◌, mul as ◌⊗◌}

  pub word_as : (k m d n : ℕ) (ys : List A) → k ≡ m → d ≡ n → IsWord F w k d ys → IsWord F w m n ys
  word_as k m d n ys e f y = record {
    polynomial = y.polynomial;
    degree = y.degree ∙ f;
    values = y.values ∙ ap (λ j. word F w j y.polynomial) e;
  }

  -- a word and a multiple of another
  word_with_multiple : (h d : ℕ) (k : A) (f : ℕ → A) (us : List A)
      → IsWord F w h d (tabulate (2 ^ h) f) → IsWord F w h d us
      → IsWord F w h d (tabulate (2 ^ h) (λ i. f i ⊕ k ⊗ get_or us i 𝟘))
  word_with_multiple h d k f us y u = record {
    polynomial = add_lists F y.polynomial (map (λ a. k ⊗ a) u.polynomial);
    degree = length-add_lists F y.polynomial (map (λ a. k ⊗ a) u.polynomial) as_long ∙ y.degree;
    values = tabulate-equal (2 ^ h) (λ i. f i ⊕ k ⊗ get_or us i 𝟘)
        (λ i. val F (add_lists F y.polynomial (map (λ a. k ⊗ a) u.polynomial)) (pt F w i h))
        (λ i l. ap₂ (λ a b. a ⊕ k ⊗ b)
        (sym (get_or-tabulate (2 ^ h) f i 𝟘 l) ∙ entry i l (tabulate (2 ^ h) f) y)
        (entry i l us u)
        ∙ ap (λ v. val F y.polynomial (pt F w i h) ⊕ v)
        (sym (val-scale F R k u.polynomial (pt F w i h)))
        ∙ sym (val-add F R y.polynomial (map (λ a. k ⊗ a) u.polynomial) (pt F w i h) as_long));
  }
    where
      as_long : length y.polynomial ≡ length (map (λ a. k ⊗ a) u.polynomial)
      as_long = y.degree ∙ sym (length-map u.polynomial (λ a. k ⊗ a) ∙ u.degree)

      entry : (i : ℕ) → i < 2 ^ h → (zs : List A) (z : IsWord F w h d zs)
          → get_or zs i 𝟘 ≡ val F z.polynomial (pt F w i h)
      entry i l zs z = ap (λ xs. get_or xs i 𝟘) z.values
          ∙ get_or-tabulate (2 ^ h) (λ j. val F z.polynomial (pt F w j h)) i 𝟘 l

  module _ (top : ℕ) (fold : ℕ → ℕ → ℕ → A → List A → A) (falls : LowersDegrees F w top fold) where
    with_input : (h d : ℕ) (r : Round A) (ys : List A) (input : Option (List A))
        → IsWord F w h d (folded_by fold h r.log_arity r.beta ys)
        → ((us : List A) → input ≡ Some us → IsWord F w h d us)
        → IsWord F w h d (tabulate (2 ^ h)
        (λ i. rolled_in F r (entry_of F input i) (folded_entry fold h r ys i)))
    with_input h d r ys None y low = y
    with_input h d r ys (Some us) y low =
        word_with_multiple h d (pow F r.beta (2 ^ r.log_arity)) (folded_entry fold h r ys) us y
        (low us refl)

    module _ (inputs : ℕ → Option (List A)) (log_blowup : ℕ)
        (low : AreLowDegreeWords F w log_blowup inputs) where
      round_lowers_degree : (k : ℕ) (r : Round A) (ys : List A) → k ≤ top
          → r.log_arity + log_blowup ≤ k
          → IsWord F w k (2 ^ (k - log_blowup)) ys
          → IsWord F w (k - r.log_arity) (2 ^ (k - r.log_arity - log_blowup))
          (after_round F fold inputs (k - r.log_arity) r ys)
      unfolding after_round
      round_lowers_degree k r ys t b y =
          with_input (k - r.log_arity) (2 ^ (k - r.log_arity - log_blowup)) r ys
          (inputs (k - r.log_arity))
          (falls (k - r.log_arity) r.log_arity (2 ^ (k - r.log_arity - log_blowup)) r.beta ys
          (omega (arith, t, b))
          (word_as k (k - r.log_arity + r.log_arity) (2 ^ (k - log_blowup))
          (2 ^ (k - r.log_arity - log_blowup) * 2 ^ r.log_arity) ys (omega (arith, b))
          (ap (λ n. 2 ^ n) (let e : k - log_blowup ≡ k - r.log_arity - log_blowup + r.log_arity =
          omega (arith, b) in e) ∙ pow-add 2 (k - r.log_arity - log_blowup) r.log_arity) y))
          (low (k - r.log_arity))

      -- a word of low degree and inputs of low degrees lead to a word of low degree
      pub rounds_lower_degrees : (k : ℕ) (rounds : List (Round A)) (ys : List A) → k ≤ top
          → total_log_arity rounds + log_blowup ≤ k
          → IsWord F w k (2 ^ (k - log_blowup)) ys
          → IsWord F w (k - total_log_arity rounds) (2 ^ (k - total_log_arity rounds - log_blowup))
          (after_rounds F fold inputs k rounds ys)
      rounds_lower_degrees k [] ys t b y = let e : k - total_log_arity {A = A} [] ≡ k =
          omega (arith, total-nil A) in rw e y
      rounds_lower_degrees k (r ∷ rounds) ys t b y =
          let e : k - total_log_arity (r ∷ rounds) ≡ k - r.log_arity - total_log_arity rounds =
          omega (arith, total-cons r rounds) in
          rw e (rounds_lower_degrees (k - r.log_arity) rounds
          (after_round F fold inputs (k - r.log_arity) r ys) (omega (arith, t))
          (omega (arith, b, total-cons r rounds))
          (round_lowers_degree k r ys t (omega (arith, b, total-cons r rounds)) y))
