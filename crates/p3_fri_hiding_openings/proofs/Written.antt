-- A list written place by place, each element with what stands beside it in another list.
use Rattle.std.proofs.Common.{◌≡◌, ℕ, ◌+◌, ◌<◌, ◌≤◌, List, [], ◌∷◌, ◌++◌, map, length}
use Rattle.std.proofs.Common.{take, drop, get_or, sym, ap, ap₂, ◌∙◌, arith, append_assoc}
use Rattle.std.specs.List.{AllZip, enumerate_from}
use Rattle.std.proofs.Math.ListN.{set}
use Rattle.std.proofs.lemmas.List.{take_more, take_more_set, drop-set-lt, drop-drop, drop_more}
use Rattle.std.proofs.lemmas.List.{take_all, map-append, length-set, length-map}
use Rattle.std.proofs.lemmas.List.FromFn.{length-enumerate_from, get_or-enumerate_from}
use Rattle.algebra.proofs.Lists.{all_zip-push, entry_of_map}
use Rattle.p3_pcs.specs.Claims.{zip_with}

-- what is left, from one element further on
pub left_alike : {X : Type 0} (i : ℕ) (xs ys : List X) → drop i xs ≡ drop i ys
    → drop (i + 1) xs ≡ drop (i + 1) ys
left_alike i xs ys e = sym (drop-drop 1 i xs) ∙ ap (λ zs. drop 1 zs) e ∙ drop-drop 1 i ys

-- the first of what is left
pub first_alike : {X : Type 0} (i : ℕ) (xs ys : List X) (d : X) → i < length xs → i < length ys
    → drop i xs ≡ drop i ys → get_or xs i d ≡ get_or ys i d
first_alike i xs ys d l m e =
    let whole = sym (drop_more xs i d l) ∙ e ∙ drop_more ys i d m in
    ap (λ zs. get_or zs 0 d) whole

-- the element of this place in a list with places
pub entry_placed : {V : Type 0} (seen : List V) (i : ℕ) (a : V) → i < length seen → a ≡ get_or seen i a
    → (i, a) ≡ get_or (enumerate_from 0 seen) i (i, a)
entry_placed seen i a l e = sym (get_or-enumerate_from 0 seen i (i, a) l
    ∙ ap₂ (λ k b. (k, b)) (omega arith) (sym e))

-- two lists, one more of each
zip_more : {X Y : Type 0} (R : X → Y → Type 0) (i : ℕ) (xs : List X) (ys : List Y) (x : X) (y : Y)
    → i < length xs → i < length ys → x ≡ get_or xs i x → y ≡ get_or ys i y
    → AllZip R (take i xs) (take i ys) → R x y → AllZip R (take (i + 1) xs) (take (i + 1) ys)
zip_more R i xs ys x y l m read beside so_far here =
    rw (take_more xs i x l, take_more ys i y m, ← read, ← beside)
    (all_zip-push R (take i xs) (take i ys) x y so_far here)

-- all of both
pub zip_all : {X Y : Type 0} (R : X → Y → Type 0) (i : ℕ) (xs : List X) (ys : List Y)
    → length xs ≤ i → length ys ≤ i → AllZip R (take i xs) (take i ys) → AllZip R xs ys
zip_all R i xs ys l m all = rw (← take_all i xs l, ← take_all i ys m) all

-- where `v` is what is seen of an element, `u` of one of the list beside, and `f` writes both
module _ {X R V Y : Type 0} (v : X → V) (u : R → Y) (f : V → Y → V) where
  -- what is seen once the elements from `i` on are written too
  abbrev ends_as : (i : ℕ) (ys : List X) (rs : List R) → List V
  ends_as i ys rs = map v (take i ys) ++ zip_with f (map v (drop i ys)) (map u (drop i rs))

  -- `ys` was `xs`, and its elements before `i` are written
  pub record IsWrittenTo (i : ℕ) (xs ys : List X) (rs : List R) : Type 0 where
    pub written : ends_as i ys rs ≡ zip_with f (map v xs) (map u rs)
    pub long : length ys ≡ length xs
    pub left : drop i ys ≡ drop i xs

  step_written : (i : ℕ) (ys : List X) (rs : List R) (y new : X) (r : R) → i < length ys
      → i < length rs → y ≡ get_or ys i y → r ≡ get_or rs i r → v new ≡ f (v y) (u r)
      → ends_as (i + 1) (set ys i new) rs ≡ ends_as i ys rs
  step_written i ys rs y new r l m read beside is =
      ap₂ (λ a b. map v a ++ zip_with f (map v b) (map u (drop (i + 1) rs)))
      (take_more_set ys i new l) (drop-set-lt (i + 1) ys i new (omega arith))
      ∙ ap (λ a. a ++ zip_with f (map v (drop (i + 1) ys)) (map u (drop (i + 1) rs)))
      (map-append v (take i ys) (new ∷ []))
      ∙ append_assoc (map v (take i ys)) (v new ∷ [])
      (zip_with f (map v (drop (i + 1) ys)) (map u (drop (i + 1) rs)))
      ∙ ap (λ h. map v (take i ys)
      ++ h ∷ zip_with f (map v (drop (i + 1) ys)) (map u (drop (i + 1) rs))) is
      ∙ ap₂ (λ a b. map v (take i ys) ++ zip_with f (map v a) (map u b))
      (sym (drop_more ys i y l ∙ ap (λ h. h ∷ drop (i + 1) ys) (sym read)))
      (sym (drop_more rs i r m ∙ ap (λ h. h ∷ drop (i + 1) rs) (sym beside)))

  -- one more is written
  pub written_more : (i : ℕ) (xs ys : List X) (rs : List R) (y new : X) (r : R) → i < length xs
      → i < length rs → y ≡ get_or ys i y → r ≡ get_or rs i r → v new ≡ f (v y) (u r)
      → IsWrittenTo i xs ys rs → IsWrittenTo (i + 1) xs (set ys i new) rs
  written_more i xs ys rs y new r l m read beside is so_far = record {
    written = step_written i ys rs y new r (omega (arith, so_far.long)) m read beside is
        ∙ so_far.written;
    long = length-set ys i new ∙ so_far.long;
    left = drop-set-lt (i + 1) ys i new (omega arith) ∙ left_alike i ys xs so_far.left;
  }

  -- what is seen of the element of this place is seen of the list as it was
  pub seen_before : (i : ℕ) (xs ys : List X) (rs : List R) (y : X) → i < length xs
      → y ≡ get_or ys i y → IsWrittenTo i xs ys rs → v y ≡ get_or (map v xs) i (v y)
  seen_before i xs ys rs y l read so_far =
      let within : i < length ys = omega (arith, so_far.long) in
      entry_of_map v xs i y l (read ∙ first_alike i ys xs y within l so_far.left)

  -- `Q` of one pair more
  pub pairs_more : (Q : V → Y → Type 0) (i : ℕ) (xs ys : List X) (rs : List R) (y : X) (r : R)
      → i < length xs → i < length rs → y ≡ get_or ys i y → r ≡ get_or rs i r
      → IsWrittenTo i xs ys rs → AllZip Q (take i (map v xs)) (take i (map u rs)) → Q (v y) (u r)
      → AllZip Q (take (i + 1) (map v xs)) (take (i + 1) (map u rs))
  pairs_more Q i xs ys rs y r l m read beside so_far =
      zip_more Q i (map v xs) (map u rs) (v y) (u r) (omega (arith, length-map xs v))
      (omega (arith, length-map rs u)) (seen_before i xs ys rs y l read so_far)
      (entry_of_map u rs i r m beside)

  -- and with its place
  pub placed_more : (Q : ℕ × V → Y → Type 0) (i : ℕ) (xs ys : List X) (rs : List R) (y : X) (r : R)
      → i < length xs → i < length rs → y ≡ get_or ys i y → r ≡ get_or rs i r
      → IsWrittenTo i xs ys rs
      → AllZip Q (take i (enumerate_from 0 (map v xs))) (take i (map u rs)) → Q (i, v y) (u r)
      → AllZip Q (take (i + 1) (enumerate_from 0 (map v xs))) (take (i + 1) (map u rs))
  placed_more Q i xs ys rs y r l m read beside so_far =
      zip_more Q i (enumerate_from 0 (map v xs)) (map u rs) (i, v y) (u r)
      (omega (arith, length-enumerate_from 0 (map v xs), length-map xs v))
      (omega (arith, length-map rs u))
      (entry_placed (map v xs) i (v y) (omega (arith, length-map xs v))
      (seen_before i xs ys rs y l read so_far))
      (entry_of_map u rs i r m beside)
