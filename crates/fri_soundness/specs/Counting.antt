-- Claims that count: about all but some elements of a list, and about few elements of a type.
use Rattle.std.specs.Prelude.{◌≡◌, ◌+◌, ◌<◌, ◌≤◌, ◌⊎◌, ⊤, ℕ, zero, suc, List, [], ◌∷◌, length}
use Rattle.std.specs.Prelude.{All, Any}
use Rattle.algebra.specs.Interpolation.{AreDistinct}

module _ {X : Type 0} (P : X → Type 0) where
  -- `P` holds of the elements, of which at most `n` are left out
  abbrev pub AllBut : (n : ℕ) → List X → Type 0
  AllBut n [] = ⊤
  AllBut zero (x ∷ xs) = P x × AllBut zero xs
  AllBut (suc n) (x ∷ xs) = (P x × AllBut (suc n) xs) ⊎ AllBut n xs

  -- `P` holds of at most `n` elements: a list of distinct ones of which it holds is no longer
  abbrev pub AtMost : (n : ℕ) → Type 0
  AtMost n = (xs : List X) → AreDistinct xs → All P xs → length xs ≤ n

  -- those of the list of which `P` holds are found in a list that is shorter by more than `n`
  pub record HasFew (n : ℕ) (xs : List X) : Type 0 where
    pub found : List X
    pub short : length found + n < length xs
    pub all : All (λ x. P x → Any (λ y. y ≡ x) found) xs
