-- The greatest of some numbers is one of them.
use Rattle.std.proofs.Common.{◌≡◌, ◌⊎◌, inl, inr, ℕ, ◌<◌, ◌≤◌, List, length, get_or, sym, subst}
use Rattle.std.proofs.Math.Nat.{eq-or-lt_of_le}
use Rattle.std.specs.List.{Any}

-- `old` or `own`, whichever is greater, is had by an element if they are, or is zero
pub attained_next : {X : Type 0} (Has : ℕ → X → Type 0) (xs : List X) (i : ℕ) (x : X) (old own new : ℕ)
    → i < length xs → x ≡ get_or xs i x → own ≤ new → (own < new → new ≡ old)
    → (own ≡ 0) ⊎ Has own x → (old ≡ 0) ⊎ Any (Has old) xs → (new ≡ 0) ⊎ Any (Has new) xs
attained_next Has xs i x old own new within is most otherwise here before =
    elim (eq-or-lt_of_le {n = own} {m = new} most) [
      | inl e ↦ subst (λ n. (n ≡ 0) ⊎ Any (Has n) xs) e (elim here [
        | inl none ↦ inl none
        | inr has ↦ inr (i, x, within, sym is, has)
      ])
      | inr l ↦ subst (λ n. (n ≡ 0) ⊎ Any (Has n) xs) (sym (otherwise l)) before
    ]
