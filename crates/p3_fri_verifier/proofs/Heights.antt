-- The list of the log heights below a number, from both ends: beyond the greatest it grows no more, below the
-- log blowup it has none; and what holds of each in it holds of each matrix's.
use Rattle.std.proofs.Common.{◌≡◌, ℕ, zero, suc, ◌<◌, ◌≤◌, inl, inr, List, get_or}
use Rattle.std.proofs.Common.{[], ◌∷◌, ◌++◌, Bool, true, false}
use Rattle.std.proofs.Common.{eqb, refl, sym, ap, subst, arith, if◌then◌else◌}
use Rattle.std.specs.List.{All}
use Rattle.std.proofs.lemmas.Bool.{ne_eqb}
use Rattle.std.proofs.lemmas.Bool.Decides.{leb_tells}
use Rattle.std.proofs.lemmas.List.Elements.{All-head, All-tail}
use Rattle.std.proofs.lemmas.List.Folds.{list_any_none}
use Rattle.p3_fri_relation.specs.Setting.{MatrixClaim}
use Rattle.p3_fri_relation.specs.Heights.{log_height, greatest_height, has_height, heights_below}
use Rattle.p3_fri_relation.specs.Heights.{heights_of}
use Rattle.p3_fri_relation.proofs.ClaimedHeights.{has_height-bound, has_height-from}
use Rattle.p3_fri_relation.proofs.ClaimedHeights.{some_has_height, heights_below-had}
use Rattle.p3_fri_verifier.proofs.Lists.{same_at}

module _ (b : ℕ) {E : Type 0} (ms : List (MatrixClaim E)) where
  -- from a number on that none of them reaches, the list doesn't grow
  settled : (n : ℕ) → ((h : ℕ) → n ≤ h → has_height b ms h ≡ false) → (m : ℕ) → n ≤ m
      → heights_below b ms m ≡ heights_below b ms n
  settled n none zero within = let same : 0 ≡ n = omega arith in ap (λ (k : ℕ). heights_below b ms k) same
  settled n none (suc m) within = elim (leb_tells n m) [
    | inl w ↦ rw (none m w.1) (settled n none m w.1)
    | inr w ↦ (let same : suc m ≡ n = (let high = w.1 in omega arith) in ap (λ (k : ℕ). heights_below b ms k) same)
  ]

  none_beyond : (h : ℕ) → suc (greatest_height b ms) ≤ h → has_height b ms h ≡ false
  none_beyond h beyond = at (has_height b ms h) refl
    where
      at : (is_one : Bool) → has_height b ms h ≡ is_one → has_height b ms h ≡ false
      at true e = absurd (omega (arith, has_height-bound b ms h e, beyond))
      at false e = e

  -- so it is the list of all of them
  pub heights_below-all : (n : ℕ) → ((h : ℕ) → n ≤ h → has_height b ms h ≡ false) → heights_below b ms n ≡ heights_of b ms
  heights_below-all n none = elim (leb_tells (suc (greatest_height b ms)) n) [
    | inl w ↦ settled (suc (greatest_height b ms)) none_beyond n w.1
    | inr w ↦ sym (settled n none (suc (greatest_height b ms)) (let high = w.1 in omega arith))
  ]

  -- none is below the log blowup
  not_had : (h : ℕ) → h < b → has_height b ms h ≡ false
  not_had h below = list_any_none (λ m. eqb (log_height b m) h) ms (λ k d within. ne_eqb (log_height b (get_or ms k d)) h (λ same. omega arith))

  pub heights_below-none : (n : ℕ) → n ≤ b → heights_below b ms n ≡ []
  heights_below-none zero low = refl
  heights_below-none (suc n) low = rw (not_had n low) (heights_below-none n (omega arith))

  -- what holds of each in the list holds of each log height below the number
  listed : (P : ℕ → Type 0) (n : ℕ) → All P (heights_below b ms n) → (h : ℕ) → h < n → has_height b ms h ≡ true → P h
  listed P zero each h below is_one = absurd (omega arith)
  listed P (suc n) each h below is_one = elim (leb_tells n h) [
    | inl w ↦ (let same : n ≡ h = (let high = w.1 in omega arith) in
        subst P same (here (heights_below b ms n) (has_height b ms n) (subst (λ (k : ℕ). has_height b ms k ≡ true) (sym same) is_one) each))
    | inr w ↦ listed P n (later (heights_below b ms n) (has_height b ms n) each) h w.1 is_one
  ]
    where
      here : (hs : List ℕ) (one : Bool) → one ≡ true → All P ((if one then n ∷ [] else []) ++ hs) → P n
      here hs true e held = All-head P n hs held
      here hs false e held = cc

      later : (hs : List ℕ) (one : Bool) → All P ((if one then n ∷ [] else []) ++ hs) → All P hs
      later hs true held = All-tail P n hs held
      later hs false held = held

  -- so what holds of each log height in the list of all holds of each matrix's
  pub all_from_heights : (P : ℕ → Type 0) → All P (heights_of b ms) → All (λ m. P (log_height b m)) ms
  all_from_heights P each k d within =
      let m = get_or ms k d in
      let is_one = has_height-from b ms (log_height b m) (k, m, within, same_at ms k m d within, refl) in
      listed P (suc (greatest_height b ms)) each (log_height b m) (omega (arith, has_height-bound b ms (log_height b m) is_one)) is_one

  -- and the other way round
  pub all_to_heights : (P : ℕ → Type 0) → All (λ m. P (log_height b m)) ms → All P (heights_of b ms)
  all_to_heights P each k d within =
      let some = some_has_height b ms (get_or (heights_of b ms) k d) (heights_below-had b ms (suc (greatest_height b ms)) k d within) in
      subst P some.4 (rw some.3 at (each some.0 some.1 some.2))
