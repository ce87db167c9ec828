-- A list cut place by place, while what is cut off is collected.
use Rattle.std.proofs.Common.{◌≡◌, ℕ, ◌+◌, ◌<◌, ◌≤◌, List, [], ◌∷◌, ◌++◌, map, length}
use Rattle.std.proofs.Common.{take, drop, get_or, refl, sym, ap, ap₂, ◌∙◌, arith}
use Rattle.std.specs.List.{enumerate_from}
use Rattle.std.proofs.Math.ListN.{set}
use Rattle.std.proofs.lemmas.List.{take_more, take_more_set, take_all, map-append, length-map}
use Rattle.std.proofs.lemmas.List.{length-set, drop-set-lt}
use Rattle.std.proofs.lemmas.List.FromFn.{length-enumerate_from}
use Rattle.algebra.proofs.Lists.{entry_of_map}
use Rattle.p3_fri_hiding_openings.proofs.Written.{first_alike, left_alike, entry_placed}

-- `f` of each element and its place
abbrev pub placed : {V W : Type 0} → (f : ℕ → V → W) → List V → List W
placed f seen = map (λ (k, a). f k a) (enumerate_from 0 seen)

length-placed : {V W : Type 0} (f : ℕ → V → W) (seen : List V) → length (placed f seen) ≡ length seen
length-placed f seen =
    length-map (enumerate_from 0 seen) (λ (k, a). f k a) ∙ length-enumerate_from 0 seen

-- without places
pub placed_same : {V W : Type 0} (f : V → W) (n : ℕ) (seen : List V)
    → map (λ (k, a). f a) (enumerate_from n seen) ≡ map f seen
placed_same f n [] = refl
placed_same f n (a ∷ seen) = ap (λ rest. f a ∷ rest) (placed_same f (n + 1) seen)

next_placed : {V W : Type 0} (f : ℕ → V → W) (seen : List V) (i : ℕ) (a : V) → i < length seen
    → a ≡ get_or seen i a → take (i + 1) (placed f seen) ≡ take i (placed f seen) ++ f i a ∷ []
next_placed {V} {W} f seen i a l e =
    take_more (placed f seen) i (f i a) (omega (arith, length-placed f seen))
    ∙ ap (λ b. take i (placed f seen) ++ b ∷ [])
    (sym (entry_of_map (λ (k, b). f k b) (enumerate_from 0 seen) i (i, a)
    (omega (arith, length-enumerate_from 0 seen)) (entry_placed seen i a l e)))

-- where `v` is what is seen of an element, and `w` of what is collected
module _ {X V K W : Type 0} (v : X → V) (w : K → W) (f : ℕ → V → V) (g : ℕ → V → W) where
  -- `ys` was `xs`, its elements before `i` are cut, and what was cut off them is kept
  pub record IsCutTo (i : ℕ) (xs ys : List X) (kept : List K) : Type 0 where
    pub cut : map v (take i ys) ≡ take i (placed f (map v xs))
    pub collected : map w kept ≡ take i (placed g (map v xs))
    pub long : length ys ≡ length xs
    pub left : drop i ys ≡ drop i xs

  -- one more is cut
  pub cut_more : (i : ℕ) (xs ys : List X) (kept more : List K) (y new : X) (k : K) → i < length xs
      → y ≡ get_or ys i y → v new ≡ f i (v y) → w k ≡ g i (v y) → more ≡ kept ++ k ∷ []
      → IsCutTo i xs ys kept → IsCutTo (i + 1) xs (set ys i new) more
  cut_more i xs ys kept more y new k l read is off pushed so_far =
      let within : i < length ys = omega (arith, so_far.long) in
      let below : i < length (map v xs) = omega (arith, length-map xs v) in
      let here : v y ≡ get_or (map v xs) i (v y) = entry_of_map v xs i y l
      (read ∙ first_alike i ys xs y within l so_far.left) in
      record {
        cut = ap (map v) (take_more_set ys i new within) ∙ map-append v (take i ys) (new ∷ [])
            ∙ ap₂ (λ a b. a ++ b ∷ []) so_far.cut is
            ∙ sym (next_placed f (map v xs) i (v y) below here);
        collected = ap (map w) pushed ∙ map-append w kept (k ∷ [])
            ∙ ap₂ (λ a b. a ++ b ∷ []) so_far.collected off
            ∙ sym (next_placed g (map v xs) i (v y) below here);
        long = length-set ys i new ∙ so_far.long;
        left = drop-set-lt (i + 1) ys i new (omega arith) ∙ left_alike i ys xs so_far.left;
      }

  -- all are
  pub cut_all : (i : ℕ) (xs ys : List X) (kept : List K) → length xs ≤ i → IsCutTo i xs ys kept
      → map v ys ≡ placed f (map v xs)
  cut_all i xs ys kept l so_far =
      ap (map v) (sym (take_all i ys (omega (arith, so_far.long)))) ∙ so_far.cut
      ∙ take_all i (placed f (map v xs))
      (omega (arith, length-placed f (map v xs), length-map xs v))

  pub collected_all : (i : ℕ) (xs ys : List X) (kept : List K) → length xs ≤ i
      → IsCutTo i xs ys kept → map w kept ≡ placed g (map v xs)
  collected_all i xs ys kept l so_far =
      so_far.collected ∙ take_all i (placed g (map v xs))
      (omega (arith, length-placed g (map v xs), length-map xs v))
