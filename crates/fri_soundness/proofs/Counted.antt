-- Of any bound on failing positions it is decided whether no more fail.
use Rattle.std.proofs.Common.{◌≡◌, ℕ, zero, suc, ◌/◌, ◌^◌, ◌<◌, ◌⊎◌, inl, inr, List, [], ◌∷◌, Option, Some, None, length, get_or}
use Rattle.std.proofs.Common.{Bool, true, false, not, Any, refl, ap, arith}
use Rattle.std.proofs.lemmas.Bool.{cases_lt, not-false}
use Rattle.algebra.specs.Field.{FieldOps, IsField}
use Rattle.algebra.specs.Folds.{fold_value}
use Rattle.algebra.specs.Rounds.{Round, rolled_in, entry_of, folded_entry}
use Rattle.algebra.proofs.Lists.{Each, All_from_each}
use Rattle.fri_soundness.specs.Counting.{AllBut, HasFew}
use Rattle.fri_soundness.specs.FoldTests.{Step, Passes}
use Rattle.fri_soundness.specs.CommittedWords.{PassesTest, test_steps, first_word}
use Rattle.fri_soundness.proofs.Counting.{is_yes, from_yes, to_yes, count, kept, kept_by, each_map, each_all, count-both, length-kept, all_but_from_count}

module _ {X : Type 0} where
  any_here : (P : X → Type 0) (x : X) (xs : List X) → P x → Any P (x ∷ xs)
  any_here P x xs p = (zero, x, (let l : 0 < suc (length xs) = omega arith in l), refl, p)

  any_later : (P : X → Type 0) (x : X) (xs : List X) → Any P xs → Any P (x ∷ xs)
  any_later P x xs h = (suc h.0, h.1, (let l : suc h.0 < suc (length xs) = omega (arith, h.2) in l), h.3, h.4)

  kept-has : (p : X → Bool) (xs : List X) → Each (λ x. p x ≡ true → Any (λ y. y ≡ x) (kept p xs)) xs
  kept-has p [] = tt
  kept-has p (x ∷ xs) = (
    λ e. here (p x) e,
    each_map (λ z. p z ≡ true → Any (λ y. y ≡ z) (kept p xs)) (λ z. p z ≡ true → Any (λ y. y ≡ z) (kept_by (p x) x (kept p xs))) (λ z h e. later (p x) z (h e)) xs (kept-has p xs),
  )
    where
      here : (b : Bool) → b ≡ true → Any (λ y. y ≡ x) (kept_by b x (kept p xs))
      here true e = any_here (λ y. y ≡ x) x (kept p xs) refl
      here false e = absurd cc

      later : (b : Bool) (z : X) → Any (λ y. y ≡ z) (kept p xs) → Any (λ y. y ≡ z) (kept_by b x (kept p xs))
      later true z h = any_later (λ y. y ≡ z) x (kept p xs) h
      later false z h = h

  pub counted : (P : X → Type 0) → ((x : X) → Dec (P x)) → (n : ℕ) (xs : List X) → AllBut P n xs ⊎ HasFew P n xs
  counted P d n xs = elim (cases_lt n (count (λ x. not (is_yes (d x))) xs)) [
    | inr few ↦ inl (all_but_from_count P (λ x. not (is_yes (d x))) n xs
        (each_all (λ x. not (is_yes (d x)) ≡ false → P x) (λ x e. from_yes (d x) (not-false (is_yes (d x)) e)) xs) few)
    | inl many ↦ inr (record {
      found = kept (λ x. is_yes (d x)) xs;
      short = omega (arith, many, length-kept (λ x. is_yes (d x)) xs, count-both (λ x. is_yes (d x)) xs);
      all = All_from_each (λ x. P x → Any (λ y. y ≡ x) (kept (λ x. is_yes (d x)) xs)) xs
          (each_map (λ z. is_yes (d z) ≡ true → Any (λ y. y ≡ z) (kept (λ x. is_yes (d x)) xs)) (λ z. P z → Any (λ y. y ≡ z) (kept (λ x. is_yes (d x)) xs))
          (λ z h p. h (to_yes (d z) p)) xs (kept-has (λ x. is_yes (d x)) xs));
    })
  ]

module _ {A : Type 0} (F : FieldOps A) (L : IsField F) (w : ℕ → A) where
  passes_decided : (steps : List (Step A)) (q : ℕ) → Dec (Passes F w steps q)
  passes_decided [] q = yes tt
  passes_decided (s ∷ steps) q =
      let row = q / 2 ^ s.round.log_arity in
      elim (L.decided (get_or s.next row F.zero) (rolled_in F s.round (entry_of F s.input row) (folded_entry (fold_value F w) s.height s.round s.word row))) [
        | no n ↦ no (λ h. n h.0)
        | yes p ↦ elim (passes_decided steps row) [
          | no n ↦ no (λ h. n h.1)
          | yes q ↦ yes (p, q)
        ]
      ]

  some_decided : (o : Option A) (v : A) → Dec (o ≡ Some v)
  some_decided None v = no (λ e. absurd cc)
  some_decided (Some u) v = elim (L.decided u v) [
    | no n ↦ no (λ e. n (cc))
    | yes p ↦ yes (ap (λ z. Some z) p)
  ]

  pub test_decided : (inputs : ℕ → Option (List A)) (h : ℕ) (rounds : List (Round A)) (words : List (List A)) (c : List A) (q : ℕ)
      → Dec (PassesTest F w inputs h rounds words c q)
  test_decided inputs h rounds words c q =
      elim (some_decided (entry_of F (inputs h) q) (get_or (first_word F w inputs h rounds words c) q F.zero)) [
        | no n ↦ no (λ p. n p.0)
        | yes e ↦ elim (passes_decided (test_steps F w inputs h rounds words c) q) [
          | no n ↦ no (λ p. n p.1)
          | yes p ↦ yes (e, p)
        ]
      ]
