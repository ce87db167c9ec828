-- Blocks of a list that are written one after another.
use Rattle.std.proofs.Common.{◌≡◌, ◌≢◌, ◌⊎◌, inl, inr, ℕ, ◌+◌, ◌-◌, ◌*◌, ◌<◌, ◌≤◌, List, ◌++◌}
use Rattle.std.proofs.Common.{length}
use Rattle.std.proofs.Common.{get_or, take, drop, sym, ap, ap₂, ◌∙◌, arith, length-append}
use Rattle.std.proofs.lemmas.List.{get_or-take, get_or-drop, get_or_append_left}
use Rattle.std.proofs.lemmas.List.{get_or-append_right, length-take-le}
use Rattle.std.proofs.lemmas.Nat.{row_fits}
use Rattle.std.proofs.Math.ListN.{set}
use Rattle.std.proofs.lemmas.List.{get_or-set_same, get_or-set_other}
use borrow.Rule.Slice.PartMut.{put_mid, post_of}

pub block_before : (m n h j : ℕ) → m < n → j < h → m * h + j < n * h
block_before m n h j l q = omega (arith, q, row_fits m h n h l (omega arith))

module _ {A : Type 0} where
  -- entry `i` is written after those before it
  pub entry_written : (want : ℕ → A → A) (xs : List A) (i : ℕ) (v : A) → i < length xs
      → ((j : ℕ) (d : A) → j < i → get_or xs j d ≡ want j d)
      → ((d : A) → v ≡ want i d)
      → (j : ℕ) (d : A) → j < i + 1 → get_or (set xs i v) j d ≡ want j d
  entry_written want xs i v within before here j d b =
      elim which [
        | inl l ↦
            let other : j ≢ i = λ e. omega (arith, l, e) in
            get_or-set_other xs i j v d other ∙ before j d l
        | inr e ↦
            ap (λ n. get_or (set xs i v) n d) e
            ∙ get_or-set_same xs i v d within
            ∙ here d
            ∙ ap (λ n. want n d) (sym e)
      ]
    where
      which : (j < i) ⊎ (j ≡ i)
      which = grind (arith, b)

  get_or-put_mid_before : (a k : ℕ) (xs ys : List A) → a ≤ length xs → (n : ℕ) (d : A) → n < a → get_or (put_mid a k xs ys) n d ≡ get_or xs n d
  get_or-put_mid_before a k xs ys within n d l =
      get_or_append_left (take a xs) (ys ++ post_of a k xs) d n (omega (arith, l, length-take-le a xs within))
      ∙ get_or-take a xs n d l

  get_or-put_mid_inside : (a k : ℕ) (xs ys : List A) → a ≤ length xs → (j : ℕ) (d : A) → j < length ys → get_or (put_mid a k xs ys) (a + j) d ≡ get_or ys j d
  get_or-put_mid_inside a k xs ys within j d l =
      get_or-append_right (take a xs) (ys ++ post_of a k xs) a (a + j) d (length-take-le a xs within) (omega arith)
      ∙ ap (λ n. get_or (ys ++ post_of a k xs) n d) (let e : a + j - a ≡ j = omega arith in e)
      ∙ get_or_append_left ys (post_of a k xs) d j l

  pub get_or-put_mid_past : (a k : ℕ) (xs ys : List A) → a + k ≤ length xs → length ys ≡ k → (n : ℕ) (d : A) → a + k ≤ n → get_or (put_mid a k xs ys) n d ≡ get_or xs n d
  get_or-put_mid_past a k xs ys within size n d l =
      get_or-append_right (take a xs) (ys ++ post_of a k xs) a n d (length-take-le a xs (omega (arith, within))) (omega (arith, l))
      ∙ get_or-append_right ys (post_of a k xs) k (n - a) d size (omega (arith, l))
      ∙ get_or-drop k (drop a xs) (n - a - k) d
      ∙ get_or-drop a xs (k + (n - a - k)) d
      ∙ ap (λ m. get_or xs m d) (let e : a + (k + (n - a - k)) ≡ n = omega (arith, l) in e)

  -- block `i`, of `h` entries, is written after those before it
  pub block_written : (entry : ℕ → ℕ → A → A) (xs ys : List A) (i h k : ℕ) → i * h + h ≤ length xs → length ys ≡ h
      → ((m j : ℕ) (d : A) → m < i → j < h → get_or xs (m * h + j) d ≡ entry m j d)
      → ((j : ℕ) (d : A) → j < h → get_or ys j d ≡ entry i j d)
      → (m j : ℕ) (d : A) → m < i + 1 → j < h → get_or (put_mid (i * h) k xs ys) (m * h + j) d ≡ entry m j d
  block_written entry xs ys i h k fits size before here m j d b q =
      elim which [
        | inl l ↦ get_or-put_mid_before (i * h) k xs ys (omega (arith, fits)) (m * h + j) d (block_before m i h j l q) ∙ before m j d l q
        | inr e ↦
            ap (λ t. get_or (put_mid (i * h) k xs ys) (t * h + j) d) e
            ∙ get_or-put_mid_inside (i * h) k xs ys (omega (arith, fits)) j d (omega (arith, size, q))
            ∙ here j d q
            ∙ ap (λ t. entry t j d) (sym e)
      ]
    where
      which : (m < i) ⊎ (m ≡ i)
      which = grind (arith, b)

-- four lists of `n` blocks each, one after another
module _ {A : Type 0} (ps qs rs ss : List A) (n h : ℕ) (first : length ps ≡ n * h) (second : length qs ≡ n * h)
    (third : length rs ≡ n * h) (fourth : length ss ≡ n * h) (m j : ℕ) (d : A) (l : m < n) (q : j < h) where
  abbrev pub all : List A
  all = ps ++ qs ++ (rs ++ ss)

  abbrev place : ℕ
  place = m * h + j

  inside : place < n * h
  inside = block_before m n h j l q

  front : length (ps ++ qs) ≡ n * h + n * h
  front = length-append ps qs ∙ ap₂ (λ x y. x + y) first second

  pub first_of_four : get_or all (m * h + j) d ≡ get_or ps (m * h + j) d
  first_of_four =
      get_or_append_left (ps ++ qs) (rs ++ ss) d place (omega (arith, front, inside))
      ∙ get_or_append_left ps qs d place (omega (arith, first, inside))

  pub second_of_four : get_or all ((n + m) * h + j) d ≡ get_or qs (m * h + j) d
  second_of_four =
      ap (λ i. get_or all i d) (let e : (n + m) * h + j ≡ n * h + place = omega arith in e)
      ∙ get_or_append_left (ps ++ qs) (rs ++ ss) d (n * h + place) (omega (arith, front, inside))
      ∙ get_or-append_right ps qs (n * h) (n * h + place) d first (omega arith)
      ∙ ap (λ i. get_or qs i d) (let e : n * h + place - n * h ≡ place = omega arith in e)

  pub third_of_four : get_or all ((n + n + m) * h + j) d ≡ get_or rs (m * h + j) d
  third_of_four =
      ap (λ i. get_or all i d) (let e : (n + n + m) * h + j ≡ n * h + n * h + place = omega arith in e)
      ∙ get_or-append_right (ps ++ qs) (rs ++ ss) (n * h + n * h) (n * h + n * h + place) d front (omega arith)
      ∙ ap (λ i. get_or (rs ++ ss) i d) (let e : n * h + n * h + place - (n * h + n * h) ≡ place = omega arith in e)
      ∙ get_or_append_left rs ss d place (omega (arith, third, inside))

  pub fourth_of_four : get_or all ((n + n + (n + m)) * h + j) d ≡ get_or ss (m * h + j) d
  fourth_of_four =
      ap (λ i. get_or all i d) (let e : (n + n + (n + m)) * h + j ≡ n * h + n * h + (n * h + place) = omega arith in e)
      ∙ get_or-append_right (ps ++ qs) (rs ++ ss) (n * h + n * h) (n * h + n * h + (n * h + place)) d front (omega arith)
      ∙ ap (λ i. get_or (rs ++ ss) i d) (let e : n * h + n * h + (n * h + place) - (n * h + n * h) ≡ n * h + place = omega arith in e)
      ∙ get_or-append_right rs ss (n * h) (n * h + place) d third (omega arith)
      ∙ ap (λ i. get_or ss i d) (let e : n * h + place - n * h ≡ place = omega arith in e)
