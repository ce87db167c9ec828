-- The words of honest openings, all of them, are words of low degree; and that of constants is
-- zero.
use Rattle.std.proofs.Common.{◌≡◌, ◌≢◌, ◌≤◌, ◌<◌, ◌==◌, cond, true, false, Bool, ℕ, ◌+◌, ◌-◌, ◌^◌}
use Rattle.std.proofs.Common.{List, map, get_or, All, Some, None, refl, sym, ap, ◌∙◌, subst, arith}
use Rattle.std.proofs.lemmas.Bool.{eqb-true}
use Rattle.std.proofs.lemmas.List.Folds.{Any-from_list_any}
use Rattle.std.specs.List.{zip}
use Rattle.algebra.specs.Field.{IsField, IsHomomorphism}
use Rattle.algebra.specs.TwoAdic.{AreRoots}
use Rattle.algebra.specs.Words.{IsWord, IsCosetWord}
use Rattle.algebra.specs.Rounds.{AreLowDegreeWords}
use Rattle.algebra.proofs.CosetWords.{word_from_coset_word, coset_word-none}
use Rattle.algebra.proofs.Lists.{get_or-tabulate}
use Rattle.p3_fri_relation.specs.Setting.{Fields}
use Rattle.p3_fri_relation.specs.FoldedQuery.{value_at}
use Rattle.p3_fri_openings.specs.Rounds.{log_height}
use Rattle.p3_fri_batch.specs.Words.{Opened, IsOpenedWord, batch_word}
use Rattle.p3_fri_batch.specs.Heights.{has_height, heights_below}
use Rattle.p3_fri_batch.proofs.Heights.{value_of_height}
use Rattle.p3_fri_batch.proofs.LowDegree.{batch_below, batch_low}

module _ {F E : Type 0} (f : Fields F E) (L : IsField f.base)
    (W : AreRoots f.base f.two_adicity f.root)
    (nonzero : f.shift ≢ f.base.zero) (M : IsField f.ext) (H : IsHomomorphism f.base f.ext f.lift)
    (b : ℕ) (alpha : E) (ms : List (Opened F E)) where
  -- the word of one log height
  pub word_low : (h : ℕ) → b ≤ h → h ≤ f.two_adicity
      → All (λ m. log_height m.matrix ≡ h → IsOpenedWord f b h (h - b) m) ms
      → IsWord f.ext (λ j. f.lift (f.root j)) h (2 ^ (h - b)) (batch_word f alpha h ms)
  word_low h l within honest =
      let e : h - b + b ≡ h = omega (arith, l) in
      word_from_coset_word f.ext M.ring (λ j. f.lift (f.root j)) (f.lift f.shift) h (2 ^ (h - b))
      (batch_word f alpha h ms)
      (subst (λ n. IsCosetWord f.ext (λ j. f.lift (f.root j)) (f.lift f.shift) n (2 ^ (h - b))
      (batch_word f alpha n ms)) e
      (batch_low f L W nonzero b (h - b) (omega (arith, l, within)) M H alpha ms
      (subst (λ n. All (λ m. log_height m.matrix ≡ n → IsOpenedWord f b n (h - b) m) ms) (sym e)
      honest)))

  -- and so all of them, by log height
  pub words_low : (n : ℕ) → All (λ m. log_height m.matrix < n) ms
      → All (λ m. b ≤ log_height m.matrix) ms → All (λ m. log_height m.matrix ≤ f.two_adicity) ms
      → All (λ m. IsOpenedWord f b (log_height m.matrix) (log_height m.matrix - b) m) ms
      → AreLowDegreeWords f.ext (λ j. f.lift (f.root j)) b
      (λ h. value_at (zip (heights_below ms n)
      (map (λ h. batch_word f alpha h ms) (heights_below ms n))) h)
  words_low n below tall within honest h us e =
      known (has_height ms h) refl (sym
      (value_of_height ms (λ h. batch_word f alpha h ms) n below h) ∙ e)
    where
      known : (t : Bool) → has_height ms h ≡ t
          → cond (has_height ms h) (Some (batch_word f alpha h ms)) None ≡ Some us
          → IsWord f.ext (λ j. f.lift (f.root j)) h (2 ^ (h - b)) us
      known true t is =
          let some = Any-from_list_any (λ m. log_height m.matrix == h) ms t in
          let same : log_height some.1.matrix ≡ h = eqb-true (log_height some.1.matrix) h some.4 in
          let read = ap (λ m. log_height m.matrix) some.3 in
          let low = tall some.0 some.1 some.2 in
          let high = within some.0 some.1 some.2 in
          let us_are : batch_word f alpha h ms ≡ us =
          taken (batch_word f alpha h ms) us
          (ap (λ t. cond t (Some (batch_word f alpha h ms)) None) (sym t) ∙ is) in
          subst (λ ys. IsWord f.ext (λ j. f.lift (f.root j)) h (2 ^ (h - b)) ys) us_are
          (word_low h (omega (arith, same, read, low)) (omega (arith, same, read, high))
          (λ k d l e. subst (λ n. IsOpenedWord f b n (n - b) (get_or ms k d)) e (honest k d l)))
        where
          taken : (xs ys : List E) → Some xs ≡ Some ys → xs ≡ ys
          taken xs ys e = cc
      known false t is = absurd (none us
          (ap (λ t. cond t (Some (batch_word f alpha h ms)) None) (sym t) ∙ is))
        where
          none : (us : List E) → None ≡ Some us → ⊥
          none us e = cc

  -- of constants there is nothing left
  pub constants_vanish : b ≤ f.two_adicity
      → All (λ m. log_height m.matrix ≡ b → IsOpenedWord f b b 0 m) ms
      → (i : ℕ) (d : E) → i < 2 ^ b → get_or (batch_word f alpha b ms) i d ≡ f.ext.zero
  constants_vanish within honest i d l =
      ap (λ ys. get_or ys i d)
      (coset_word-none f.ext M.ring (λ j. f.lift (f.root j)) (f.lift f.shift) b
      (batch_word f alpha b ms)
      (subst (λ n. IsCosetWord f.ext (λ j. f.lift (f.root j)) (f.lift f.shift) n 0
      (batch_word f alpha n ms)) e
      (batch_below f L W nonzero b 0 (omega (arith, within)) M H alpha ms
      (subst (λ n. All (λ m. log_height m.matrix ≡ n → IsOpenedWord f b n 0 m) ms) (sym e)
      honest))))
      ∙ get_or-tabulate (2 ^ b) (λ i. f.ext.zero) i d l
    where
      e : 0 + b ≡ b
      e = omega arith
