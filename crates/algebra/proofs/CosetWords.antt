-- Words over a coset and over the domain itself, of larger degrees, and of fewer entries.
use Rattle.std.proofs.Common.{◌≡◌, ℕ, suc, ◌+◌, ◌-◌, ◌^◌, ◌≤◌, List, [], ◌∷◌, ◌++◌, length}
use Rattle.std.proofs.Common.{replicate, refl, sym, ap, ap₂, ◌∙◌, arith, length-append}
use Rattle.std.proofs.lemmas.List.{length-replicate}
use Rattle.algebra.specs.Field.{FieldOps, IsRing}
use Rattle.algebra.specs.Polynomial.{val, tabulate}
use Rattle.algebra.specs.TwoAdic.{pt}
use Rattle.algebra.specs.Cosets.{coset_pt}
use Rattle.algebra.specs.Words.{word, coset_word, IsWord, IsCosetWord}
use Rattle.algebra.proofs.RingLaws.{one_mul}
use Rattle.algebra.proofs.Values.{stretched, val-nil, val-stretched, val-padded}
use Rattle.algebra.proofs.Lists.{tabulate-equal}

pub length-stretched : {A : Type 0} (F : FieldOps A) (k s : A) (c : List A)
    → length (stretched F k s c) ≡ length c
length-stretched F k s [] = refl
length-stretched F k s (c ∷ cs) = ap suc (length-stretched F (F.mul k s) s cs)

module _ {A : Type 0} (F : FieldOps A) (R : IsRing F) (w : ℕ → A) where
  open F use {one as 𝟙, mul as ◌⊗◌, inv}

  infixl 70 ◌⊗◌
  -- a coset word is the word of the polynomial stretched by the shift
  pub coset_word-stretched : (shift : A) (k : ℕ) (c : List A)
      → coset_word F w shift k c ≡ word F w k (stretched F 𝟙 shift c)
  coset_word-stretched shift k c =
      tabulate-equal (2 ^ k) (λ i. val F c (coset_pt F w shift i k))
      (λ i. val F (stretched F 𝟙 shift c) (pt F w i k))
      (λ i _. sym (val-stretched F R 𝟙 shift c (pt F w i k)
      ∙ one_mul F R (val F c (coset_pt F w shift i k))))

  pub word_from_coset_word : (shift : A) (k d : ℕ) (ys : List A) → IsCosetWord F w shift k d ys
      → IsWord F w k d ys
  word_from_coset_word shift k d ys y = record {
    polynomial = stretched F 𝟙 shift y.polynomial;
    degree = length-stretched F 𝟙 shift y.polynomial ∙ y.degree;
    values = y.values ∙ coset_word-stretched shift k y.polynomial;
  }

  -- of a degree below `d` is of a degree below each larger number
  pub coset_word-degree : (shift : A) (k d e : ℕ) (ys : List A) → d ≤ e
      → IsCosetWord F w shift k d ys
      → IsCosetWord F w shift k e ys
  coset_word-degree shift k d e ys l y = record {
    polynomial = y.polynomial ++ replicate (e - d) F.zero;
    degree = length-append y.polynomial (replicate (e - d) F.zero)
        ∙ ap₂ (λ m n. m + n) y.degree (length-replicate (e - d) F.zero)
        ∙ omega (arith, l);
    values = y.values
        ∙ tabulate-equal (2 ^ k) (λ i. val F y.polynomial (coset_pt F w shift i k))
        (λ i. val F (y.polynomial ++ replicate (e - d) F.zero) (coset_pt F w shift i k))
        (λ i _. sym (val-padded F R y.polynomial (e - d) (coset_pt F w shift i k)));
  }

  -- of a degree below zero it is zero
  pub coset_word-none : (shift : A) (k : ℕ) (ys : List A) → IsCosetWord F w shift k 0 ys
      → ys ≡ tabulate (2 ^ k) (λ i. F.zero)
  coset_word-none shift k ys y = y.values ∙ zeros y.polynomial y.degree
    where
      zeros : (c : List A) → length c ≡ 0
          → coset_word F w shift k c ≡ tabulate (2 ^ k) (λ i. F.zero)
      zeros [] e = tabulate-equal (2 ^ k) (λ i. val F [] (coset_pt F w shift i k)) (λ i. F.zero)
          (λ i _. val-nil F R (coset_pt F w shift i k))
      zeros (c ∷ cs) e = absurd (omega (arith, e))
