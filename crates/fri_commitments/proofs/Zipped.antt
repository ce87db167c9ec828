-- Two lists taken apart together, to the end of either.
use Rattle.std.proofs.Common.{◌≡◌, List, [], ◌∷◌, ◌++◌, ◌⊎◌, inl, inr, length, arith, refl, sym, ap, ◌∙◌}
use Rattle.std.proofs.lemmas.List.{append-nil}
use Rattle.p3_pcs.specs.Claims.{zip_with}

-- a list of no entries
pub none_left : {A : Type 0} (xs : List A) → length xs ≡ 0 → xs ≡ []
none_left [] e = refl
none_left (x ∷ xs) e = absurd (omega (arith, e))

module _ {S T U : Type 0} (f : S → T → U) where
  zip_with-none : (xs : List S) → zip_with f xs [] ≡ []
  zip_with-none [] = refl
  zip_with-none (x ∷ xs) = refl

  pub zipped_end : (done whole : List U) (xs : List S) (ys : List T)
      → done ++ zip_with f xs ys ≡ whole → (xs ≡ []) ⊎ (ys ≡ []) → done ≡ whole
  zipped_end done whole xs ys e (inl none) =
      sym (append-nil done) ∙ ap (λ us. done ++ zip_with f us ys) (sym none) ∙ e
  zipped_end done whole xs ys e (inr none) =
      sym (append-nil done)
      ∙ ap (λ us. done ++ us) (sym (zip_with-none xs) ∙ ap (λ vs. zip_with f xs vs) (sym none)) ∙ e
