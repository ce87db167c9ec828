-- Lists joined of the parts that a function makes, cut between the parts.
use Rattle.std.proofs.Common.{◌≡◌, ℕ, suc, ◌+◌, ◌<◌, ◌≤◌, List, [], ◌∷◌, ◌++◌, take, drop}
use Rattle.std.proofs.Common.{length, map, get_or, refl, sym, ap, ap₂, ◌∙◌, arith, add-one, length-append}
use Rattle.std.specs.List.{flat_map, between}
use Rattle.std.proofs.Math.Seq.{drop-cons}
use Rattle.std.proofs.lemmas.Grind.{flat_map-append}
use Rattle.std.proofs.lemmas.List.{take-append-drop, take_at, drop_at, map-append}
use Rattle.algebra.proofs.Growing.{joined_next}

module _ {X Y : Type 0} (f : X → List Y) where
  pub length-joined_next : (xs : List X) (i : ℕ) (x : X) → i < length xs → x ≡ get_or xs i x
      → length (flat_map f (take (i + 1) xs)) ≡ length (flat_map f (take i xs)) + length (f x)
  length-joined_next xs i x l is =
      ap length (joined_next f xs i x l is) ∙ length-append (flat_map f (take i xs)) (f x)

  -- the parts before one, it, and those after it
  pub joined_around : (xs : List X) (i : ℕ) (x : X) → i < length xs → x ≡ get_or xs i x
      → flat_map f xs ≡ flat_map f (take i xs) ++ (f x ++ flat_map f (drop (i + 1) xs))
  joined_around xs i x l is =
      ap (λ ys. flat_map f ys)
      (sym (take-append-drop i xs) ∙ ap (λ ys. take i xs ++ ys) (drop-cons xs i x l))
      ∙ flat_map-append f (take i xs) (get_or xs i x ∷ drop (suc i) xs)
      ∙ ap₂ (λ y n. flat_map f (take i xs) ++ (f y ++ flat_map f (drop n xs))) (sym is)
      (sym (add-one i))

  pub length-joined_at : (xs : List X) (i : ℕ) (x : X) → i < length xs → x ≡ get_or xs i x
      → length (flat_map f (take i xs)) + length (f x) ≤ length (flat_map f xs)
  length-joined_at xs i x l is =
      omega (
        arith,
        ap length (joined_around xs i x l is),
        length-append (flat_map f (take i xs)) (f x ++ flat_map f (drop (i + 1) xs)),
        length-append (f x) (flat_map f (drop (i + 1) xs)),
      )

-- a part by where it begins and ends
pub part_between : {Y : Type 0} (before part after : List Y) (start end : ℕ)
    → start ≡ length before → end ≡ length before + length part
    → between start end (before ++ (part ++ after)) ≡ part
part_between before part after start end s e =
    ap₂ (λ n ys. take n ys) (omega (arith, s, e)) (drop_at before (part ++ after) start (sym s))
    ∙ take_at part after (length part) refl

-- the same of another function that makes parts of the same lengths
pub joined_part : {X Y Z : Type 0} (f : X → List Y) (g : X → List Z)
    → ((x : X) → length (f x) ≡ length (g x))
    → (xs : List X) (i : ℕ) (x : X) (start end : ℕ) → i < length xs → x ≡ get_or xs i x
    → start ≡ length (flat_map f (take i xs)) → end ≡ start + length (f x)
    → between start end (flat_map g xs) ≡ g x
joined_part {X = X} f g same xs i x start end l is s e =
    ap (λ ys. between start end ys) (joined_around g xs i x l is)
    ∙ part_between (flat_map g (take i xs)) (g x) (flat_map g (drop (i + 1) xs)) start end
    (s ∙ lengths (take i xs))
    (omega (arith, e, s, lengths (take i xs), same x))
  where
    lengths : (ys : List X) → length (flat_map f ys) ≡ length (flat_map g ys)
    lengths [] = refl
    lengths (y ∷ ys) =
        omega (
          arith,
          length-append (f y) (flat_map f ys),
          length-append (g y) (flat_map g ys),
          same y,
          lengths ys,
        )

-- a function on each element
pub map-joined : {X Y Z : Type 0} (f : X → List Y) (g : Y → Z) (xs : List X)
    → map g (flat_map f xs) ≡ flat_map (λ x. map g (f x)) xs
map-joined f g [] = refl
map-joined f g (x ∷ xs) =
    map-append g (f x) (flat_map f xs) ∙ ap (λ ys. map g (f x) ++ ys) (map-joined f g xs)
