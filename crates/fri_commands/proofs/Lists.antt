-- One text more, and one number more.
use Rattle.std.proofs.Common.{◌≡◌, ℕ, suc, ◌+◌, ◌<◌, List, [], ◌∷◌, ◌++◌, length, get_or, drop, map, Option, Some, None, refl, ap, sym, ◌∙◌, arith, append_assoc, add-one, drop-cons}
use Rattle.std.specs.Option.{option_map}
use Rattle.std.specs.List.{flat_map}
use Rattle.std.proofs.lemmas.Grind.{flat_map-append}
use Rattle.std.proofs.lemmas.List.{append-nil, drop-map}
use Rattle.std.specs.Fmt.{decimal}
use Rattle.fri_commands.specs.Texts.{parsed_number, parsed_each, spaced}

-- the numbers so far, and then each number of the rest
abbrev pub with_rest : List ℕ → Option (List ℕ) → Option (List ℕ)
with_rest ns o = option_map (λ rest. ns ++ rest) o

-- a text that writes no number
pub each-none : {X : Type 0} (f : X → List ℕ) (most : ℕ) (ns : List ℕ) (xs : List X) (i : ℕ) (d : X) → i < length xs → parsed_number most (f (get_or xs i d)) ≡ None → with_rest ns (parsed_each most (drop i (map f xs))) ≡ None
each-none f most ns xs i d h e = rw (drop-map f i xs, drop-cons xs i d h, e)

-- a text that writes one
pub each-some : {X : Type 0} (f : X → List ℕ) (most : ℕ) (ns : List ℕ) (xs : List X) (i : ℕ) (d : X) (n : ℕ) → i < length xs → parsed_number most (f (get_or xs i d)) ≡ Some n → with_rest (ns ++ n ∷ []) (parsed_each most (drop (i + 1) (map f xs))) ≡ with_rest ns (parsed_each most (drop i (map f xs)))
each-some f most ns xs i d n h e = rw (drop-map f i xs, drop-map f (i + 1) xs, drop-cons xs i d h, e, add-one i) (step (parsed_each most (map f (drop (suc i) xs))))
  where
    step : (o : Option (List ℕ)) → with_rest (ns ++ n ∷ []) o ≡ with_rest ns (option_map (λ rest. n ∷ rest) o)
    step None = refl
    step (Some rest) = ap Some (append_assoc ns (n ∷ []) rest)

-- one number
pub spaced-first : (x : ℕ) → spaced (x ∷ []) ≡ decimal x
spaced-first x = simp append-nil

-- one number more
pub spaced-more : (xs : List ℕ) (x : ℕ) → 0 < length xs → spaced (xs ++ x ∷ []) ≡ spaced xs ++ (32 ∷ decimal x)
spaced-more [] x h = absurd (omega arith)
spaced-more (y ∷ ys) x h =
    let f : ℕ → List ℕ = λ n. (32 ∷ []) ++ decimal n in
    ap (λ (t : List ℕ). decimal y ++ t) (flat_map-append f ys (x ∷ []) ∙ ap (λ (t : List ℕ). flat_map f ys ++ t) (append-nil (32 ∷ decimal x)))
    ∙ sym (append_assoc (decimal y) (flat_map f ys) (32 ∷ decimal x))
