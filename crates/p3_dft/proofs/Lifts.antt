-- What an embedding of a field into another carries over: half turns, tables of powers,
-- inverses.
use Rattle.std.proofs.Common.{◌≡◌, ℕ, ◌<◌, List, get_or, sym, ap, ◌∙◌}
use Rattle.algebra.specs.Field.{FieldOps, IsRing, IsHomomorphism, pow, multiple}
use Rattle.algebra.specs.Polynomial.{tabulate}
use Rattle.algebra.proofs.Powers.{homomorphism-pow, homomorphism-multiple}
use Rattle.algebra.proofs.Lifting.{homomorphism-neg}
use Rattle.algebra.proofs.Lists.{get_or-tabulate}

module _ {A E : Type 0} (F : FieldOps A) (K : FieldOps E) (h : A → E) (R : IsRing F) (S : IsRing K) (H : IsHomomorphism F K h) where
  pub lifted_turn : (x : A) (n : ℕ) → pow F x n ≡ F.neg F.one → pow K (h x) n ≡ K.neg K.one
  lifted_turn x n e = sym (homomorphism-pow F K h H x n) ∙ ap h e ∙ homomorphism-neg F K h R S H F.one ∙ ap K.neg H.one

  pub lifted_power : (x : A) (n i : ℕ) (table : List A) (d : A) → table ≡ tabulate n (λ i. pow F x i) → i < n → h (get_or table i d) ≡ pow K (h x) i
  lifted_power x n i table d e l = ap (λ t. h (get_or t i d)) e ∙ ap h (get_or-tabulate n (λ i. pow F x i) i d l) ∙ homomorphism-pow F K h H x i

  pub lifted_inverse : (x y : A) → F.mul x y ≡ F.one → K.mul (h x) (h y) ≡ K.one
  lifted_inverse x y e = sym (H.mul x y) ∙ ap h e ∙ H.one

  pub lifted_size : (n : ℕ) (x : A) → F.mul (multiple F n) x ≡ F.one → K.mul (multiple K n) (h x) ≡ K.one
  lifted_size n x e = ap (λ m. K.mul m (h x)) (sym (homomorphism-multiple F K h H n)) ∙ lifted_inverse (multiple F n) x e

  pub lifted_factor : (first ratio : A) (i : ℕ) → h (F.mul first (pow F ratio i)) ≡ K.mul (h first) (pow K (h ratio) i)
  lifted_factor first ratio i = H.mul first (pow F ratio i) ∙ ap (λ p. K.mul (h first) p) (homomorphism-pow F K h H ratio i)
