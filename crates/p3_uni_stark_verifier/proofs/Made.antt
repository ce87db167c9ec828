-- What is made of parts and of proofs about them is determined by the parts.
use Rattle.std.proofs.Common.{◌≡◌, ◌≢◌, ℕ, ◌≤◌, subst, ap₂}
use native.Mathlib.Bridge.{le_prop}

module _ {A D : Type 0} (zero : A) (most : ℕ)
    (make : (s : A) (n : ℕ) → s ≢ zero → n ≤ most → D) where
  nonzero_prop : (s : A) → IsProp (s ≢ zero)
  nonzero_prop s = hlevel

  bounded_prop : (n : ℕ) → IsProp (n ≤ most)
  bounded_prop n = hlevel le_prop

  same_proofs : (s : A) (n : ℕ) (p p' : s ≢ zero) (q q' : n ≤ most) → make s n p q ≡ make s n p' q'
  same_proofs s n p p' q q' = ap₂ (λ a b. make s n a b) (nonzero_prop s p p') (bounded_prop n q q')

  pub same_parts : (s s' : A) (n n' : ℕ) (p : s ≢ zero) (p' : s' ≢ zero) (q : n ≤ most)
      (q' : n' ≤ most) → s ≡ s' → n ≡ n' → make s n p q ≡ make s' n' p' q'
  same_parts s s' n n' p p' q q' e f =
      subst (λ (t : A). (p' : t ≢ zero) → make s n p q ≡ make t n' p' q') e
      (subst (λ (m : ℕ). (q' : m ≤ most) (p' : s ≢ zero) → make s n p q ≡ make s m p' q') f
      (λ q' p'. same_proofs s n p p' q q') q') p'
