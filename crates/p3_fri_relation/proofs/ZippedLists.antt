-- What holds of each two elements that stand beside each other, by their place.
use Rattle.std.proofs.Common.{◌≡◌, ℕ, zero, suc, ◌+◌, ◌<◌, List, [], ◌∷◌, ◌++◌, length, get_or}
use Rattle.std.proofs.Common.{refl, sym, ap, ◌∙◌, arith}
use Rattle.std.specs.List.{AllZip, zip, range_with_len}
use Rattle.algebra.specs.Polynomial.{tabulate}
use Rattle.algebra.proofs.Lists.{tabulate-equal, tabulate-next}
use Rattle.p3_fri_relation.specs.FoldedQuery.{gains}

module _ {A B : Type 0} (R : A → B → Type 0) where
  pub all_zip-from : (xs : List A) (ys : List B) (a : A) (b : B) → length xs ≡ length ys
      → ((k : ℕ) → k < length xs → R (get_or xs k a) (get_or ys k b)) → AllZip R xs ys
  all_zip-from [] [] a b same each = tt
  all_zip-from [] (y ∷ ys) a b same each = absurd (omega (arith, same))
  all_zip-from (x ∷ xs) [] a b same each = absurd (omega (arith, same))
  all_zip-from (x ∷ xs) (y ∷ ys) a b same each =
      (each 0 (omega arith), all_zip-from xs ys a b (omega (arith, same)) (λ k inside. each (suc k) (omega (arith, inside))))

-- of two lists and the number of their place, from `a` on
module _ {A B : Type 0} (R : ℕ → A × B → Type 0) where
  pub numbered-from : (a n : ℕ) (xs : List A) (ys : List B) → length xs ≡ n → length ys ≡ n
      → ((k : ℕ) (x : A) (y : B) → k < n → get_or xs k x ≡ x → get_or ys k y ≡ y → R (a + k) (x, y))
      → AllZip R (range_with_len a n) (zip xs ys)
  numbered-from a zero [] ys same other each = tt
  numbered-from a zero (x ∷ xs) ys same other each = absurd (omega (arith, same))
  numbered-from a (suc n) [] ys same other each = absurd (omega (arith, same))
  numbered-from a (suc n) (x ∷ xs) [] same other each = absurd (omega (arith, other))
  numbered-from a (suc n) (x ∷ xs) (y ∷ ys) same other each = (
    first (a + 0) (omega arith) (each 0 x y (omega arith) refl refl),
    numbered-from (a + 1) n xs ys (omega (arith, same)) (omega (arith, other))
        (λ k u v inside is_u is_v. later k u v (a + suc k) (omega arith) (each (suc k) u v (omega (arith, inside)) is_u is_v)),
  )
    where
      first : (k : ℕ) → k ≡ a → R k (x, y) → R a (x, y)
      first k same_k held = rw (← same_k) held

      later : (k : ℕ) (u : A) (v : B) (m : ℕ) → m ≡ a + 1 + k → R m (u, v) → R (a + 1 + k) (u, v)
      later k u v m same_m held = rw (← same_m) held

  pub numbered-at : (a n : ℕ) (xs : List A) (ys : List B) (k : ℕ) (x : A) (y : B)
      → AllZip R (range_with_len a n) (zip xs ys) → k < n → get_or xs k x ≡ x → get_or ys k y ≡ y → R (a + k) (x, y)
  numbered-at a zero xs ys k x y each inside is_x is_y = absurd (omega (arith, inside))
  numbered-at a (suc n) [] ys k x y each inside is_x is_y = absurd each
  numbered-at a (suc n) (u ∷ xs) [] k x y each inside is_x is_y = absurd each
  numbered-at a (suc n) (u ∷ xs) (v ∷ ys) zero x y each inside is_x is_y =
      let same : a + 0 ≡ a = omega arith in
      rw (same, ← is_x, ← is_y) each.0
  numbered-at a (suc n) (u ∷ xs) (v ∷ ys) (suc k) x y each inside is_x is_y =
      let same : a + suc k ≡ a + 1 + k = omega arith in
      rw same (numbered-at (a + 1) n xs ys k x y each.1 (omega (arith, inside)) is_x is_y)

-- collectors that gain one element each
module _ {A : Type 0} where
  gains-tabulate : (n : ℕ) (f : ℕ → List A) (xs : List A) (d : A) → length xs ≡ n
      → gains (tabulate n f) xs ≡ tabulate n (λ k. f k ++ get_or xs k d ∷ [])
  gains-tabulate zero f xs d same = refl
  gains-tabulate (suc n) f [] d same = absurd (omega (arith, same))
  gains-tabulate (suc n) f (x ∷ xs) d same = ap (λ rest. (f zero ++ x ∷ []) ∷ rest) (gains-tabulate n (λ k. f (suc k)) xs d (omega (arith, same)))

  -- what the first `n` queries gave to each of the rounds, `of_query j` being what the `j`-th gives
  abbrev pub gathered : (rounds n : ℕ) (of_query : ℕ → List A) (d : A) → List (List A)
  gathered rounds n of_query d = tabulate rounds (λ k. tabulate n (λ j. get_or (of_query j) k d))

  pub gathered-next : (rounds n : ℕ) (of_query : ℕ → List A) (d : A) → length (of_query n) ≡ rounds
      → gains (gathered rounds n of_query d) (of_query n) ≡ gathered rounds (n + 1) of_query d
  gathered-next rounds n of_query d same =
      gains-tabulate rounds (λ k. tabulate n (λ j. get_or (of_query j) k d)) (of_query n) d same
      ∙ tabulate-equal rounds (λ k. tabulate n (λ j. get_or (of_query j) k d) ++ get_or (of_query n) k d ∷ []) (λ k. tabulate (n + 1) (λ j. get_or (of_query j) k d))
      (λ k inside. sym (tabulate-next n (λ j. get_or (of_query j) k d)))
