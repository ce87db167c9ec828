-- Lists by what their elements are mapped to.
use Rattle.std.proofs.Common.{◌≡◌, ℕ, zero, suc, ◌+◌, ◌<◌, ◌≤◌, List, [], ◌∷◌, map, length, take}
use Rattle.std.proofs.Common.{All, get_or, refl, arith, subst}
use Rattle.std.specs.List.{HoldsAt, Any}
use Rattle.std.proofs.lemmas.List.{length-map}
use Rattle.algebra.proofs.Lists.{Each, each_from_All, All_from_each, entry_of_map}
use Rattle.p3_fri_openings.specs.First.{FirstAt}
use Rattle.p3_fri_openings.proofs.First.{first_at, one_more, to_the_end, at_item}

module _ {X Y : Type 0} (f : X → Y) (P : Y → Type 0) where
  each_mapped : (xs : List X) → Each (λ x. P (f x)) xs → Each P (map f xs)
  each_mapped [] h = tt
  each_mapped (x ∷ xs) h = (h.0, each_mapped xs h.1)

  each_unmapped : (xs : List X) → Each P (map f xs) → Each (λ x. P (f x)) xs
  each_unmapped [] h = tt
  each_unmapped (x ∷ xs) h = (h.0, each_unmapped xs h.1)

-- lists that look the same
module _ {X Y V : Type 0} (f : X → V) (g : Y → V) (xs : List X) (ys : List Y)
    (same : map f xs ≡ map g ys) where
  pub all_same : (P : V → Type 0) → All (λ x. P (f x)) xs → All (λ y. P (g y)) ys
  all_same P h = All_from_each (λ y. P (g y)) ys (each_unmapped g P ys
      (subst (λ vs. Each P vs) same (each_mapped f P xs (each_from_All (λ x. P (f x)) xs h))))

-- an element at a place is some element
pub any_at : {X : Type 0} (P : X → Type 0) (xs : List X) (i : ℕ) → i < length xs → HoldsAt P xs i
    → Any P xs
any_at P [] i l h = absurd (omega (arith, l))
any_at P (x ∷ xs) zero l h = (0, x, omega arith, refl, h x)
any_at P (x ∷ xs) (suc i) l h =
    let found = any_at P xs i (omega (arith, l)) h in
    (suc found.0, found.1, omega (arith, found.2), found.3, found.4)

-- going through a list, of what its elements are mapped to
module _ {X Y : Type 0} (f : X → Y) (xs : List X) (i : ℕ) where
  module _ (x : X) (inside : i < length xs) (is : x ≡ get_or xs i x) where
    inside_mapped : i < length (map f xs)
    inside_mapped = omega (arith, inside, length-map xs f)

    read_mapped : f x ≡ get_or (map f xs) i (f x)
    read_mapped = entry_of_map f xs i x inside is

    pub mapped_at : (P : Y → Type 0) → All P (map f xs) → P (f x)
    mapped_at P all = at_item P (map f xs) i (f x) inside_mapped read_mapped all

    pub mapped_more : (P : Y → Type 0) → All P (take i (map f xs)) → P (f x)
        → All P (take (i + 1) (map f xs))
    mapped_more P before here =
        one_more P (map f xs) i (f x) inside_mapped read_mapped before here

    pub mapped_first : (P R : Y → Type 0) → All P (take i (map f xs)) → R (f x)
        → FirstAt P R (map f xs) i
    mapped_first P R before here =
        first_at P R (map f xs) i (f x) inside_mapped read_mapped before here

  pub mapped_end : (P : Y → Type 0) → length xs ≤ i → All P (take i (map f xs))
      → All P (map f xs)
  mapped_end P end all = to_the_end P (map f xs) i (omega (arith, end, length-map xs f)) all
