-- The exchange of two rows that a list is written with.
use Rattle.std.proofs.Common.{◌≡◌, ◌≢◌, ◌⊎◌, inl, inr, ℕ, ◌+◌, ◌-◌, ◌*◌, ◌/◌, ◌<◌, ◌≤◌, List, ◌++◌}
use Rattle.std.proofs.Common.{length, get_or, sym, ap, ◌∙◌, arith, take, drop, length-append}
use Rattle.std.proofs.Common.{length-drop}
use Rattle.std.specs.List.{between, SwappedAt}
use Rattle.std.proofs.Math.ListN.{set, length-set}
use Rattle.std.proofs.lemmas.Bool.{cases_lt, cases_eq}
use Rattle.std.proofs.lemmas.List.{same_lists, length-take-le, get_or-take, get_or-drop}
use Rattle.std.proofs.lemmas.List.{get_or_append_left, get_or-append_right, get_or_past}
use Rattle.std.proofs.lemmas.List.{get_or_default, get_or-set_same, get_or-set_other}
use Rattle.std.proofs.lemmas.List.Edits.{get_or-between, length-between}
use Rattle.std.proofs.lemmas.Nat.{row_fits}
use borrow.Rule.Slice.PartMut.{put_mid, post_of}
use Rattle.p3_matrix.specs.Rows.{rows_of}
use Rattle.p3_matrix.proofs.Rows.{length-rows_of, get_or-rows_of, row_by_entries, row_within}

module _ {A : Type 0} where
  -- two entries change places, and no others
  pub swapped_by_entries : (xs ys : List A) (i j : ℕ) → length ys ≡ length xs → i < length xs → j < length xs
      → ((d : A) → get_or ys i d ≡ get_or xs j d) → ((d : A) → get_or ys j d ≡ get_or xs i d)
      → ((k : ℕ) (d : A) → k < length xs → k ≢ i → k ≢ j → get_or ys k d ≡ get_or xs k d) → SwappedAt xs ys i j
  swapped_by_entries xs ys i j long l m first second others = (first, second, (λ k d p q. everywhere k d p q), λ d. as_sets d)
    where
      everywhere : (k : ℕ) (d : A) → k ≢ i → k ≢ j → get_or ys k d ≡ get_or xs k d
      everywhere k d p q = elim (cases_lt k (length xs)) [
        | inl below ↦ others k d below p q
        | inr past ↦ get_or_past ys k d (omega (arith, past, long)) ∙ sym (get_or_past xs k d past)
      ]

      as_sets : (d : A) → ys ≡ set (set xs i (get_or xs j d)) j (get_or xs i d)
      as_sets d =
          same_lists ys (set (set xs i (get_or xs j d)) j (get_or xs i d))
          (long ∙ sym (length-set (set xs i (get_or xs j d)) j (get_or xs i d) ∙ length-set xs i (get_or xs j d)))
          (λ k e b. elim (cases_eq k j) [
            | inl s ↦
                ap (λ n. get_or ys n e) s ∙ second e ∙ get_or_default xs i e d l
                ∙ sym (ap (λ n. get_or (set (set xs i (get_or xs j d)) j (get_or xs i d)) n e) s
                ∙ get_or-set_same (set xs i (get_or xs j d)) j (get_or xs i d) e (omega (arith, m, length-set xs i (get_or xs j d))))
            | inr p ↦
                before k e (omega (arith, b, long)) p (cases_eq k i)
                ∙ sym (get_or-set_other (set xs i (get_or xs j d)) j k (get_or xs i d) e p)
          ])
        where
          before : (k : ℕ) (e : A) → k < length xs → k ≢ j → (k ≡ i) ⊎ (k ≢ i) → get_or ys k e ≡ get_or (set xs i (get_or xs j d)) k e
          before k e b p (inl s) = ap (λ n. get_or ys n e) s ∙ first e ∙ get_or_default xs j e d m ∙ sym (ap (λ n. get_or (set xs i (get_or xs j d)) n e) s ∙ get_or-set_same xs i (get_or xs j d) e l)
          before k e b p (inr q) = others k e b q p ∙ sym (get_or-set_other xs i k (get_or xs j d) e q)

  -- the part from `a` on was written with `zs`, in the list `front` before `back`
  module _ (front back zs ys : List A) (a b w k : ℕ) (long : length front ≡ b) (apart : a + w ≤ b) (count : w ≤ length back) (written : length zs ≡ w) (put : length ys ≡ w) (size : k ≡ w) where
    length-written : length (put_mid a k front zs) ≡ b
    length-written =
        length-append (take a front) (zs ++ post_of a k front)
        ∙ ap (λ n. n + length (zs ++ post_of a k front)) (length-take-le a front (omega (arith, long, apart)))
        ∙ ap (λ n. a + n) (length-append zs (post_of a k front) ∙ ap (λ n. length zs + n) (length-drop k (drop a front) ∙ ap (λ n. n - k) (length-drop a front)))
        ∙ omega (arith, long, apart, written, size)

    new : List A
    new = put_mid a k front zs ++ (ys ++ drop w back)

    pub length-exchanged : length (put_mid a k front zs ++ (ys ++ drop w back)) ≡ length (front ++ back)
    length-exchanged =
        length-append (put_mid a k front zs) (ys ++ drop w back)
        ∙ ap (λ n. length (put_mid a k front zs) + n) (length-append ys (drop w back) ∙ ap (λ n. length ys + n) (length-drop w back))
        ∙ omega (arith, length-written, put, count, length-append front back, long)

    -- in the part that was written
    pub exchanged_upper : (j : ℕ) (d : A) → j < w → get_or (put_mid a k front zs ++ (ys ++ drop w back)) (a + j) d ≡ get_or zs j d
    exchanged_upper j d l =
        get_or_append_left (put_mid a k front zs) (ys ++ drop w back) d (a + j) (omega (arith, l, apart, length-written))
        ∙ get_or-append_right (take a front) (zs ++ post_of a k front) a (a + j) d (length-take-le a front (omega (arith, long, apart))) (omega arith)
        ∙ ap (λ n. get_or (zs ++ post_of a k front) n d) (let e : a + j - a ≡ j = omega arith in e)
        ∙ get_or_append_left zs (post_of a k front) d j (omega (arith, l, written))

    pub exchanged_lower : (j : ℕ) (d : A) → j < w → get_or (put_mid a k front zs ++ (ys ++ drop w back)) (b + j) d ≡ get_or ys j d
    exchanged_lower j d l =
        get_or-append_right (put_mid a k front zs) (ys ++ drop w back) b (b + j) d length-written (omega arith)
        ∙ ap (λ n. get_or (ys ++ drop w back) n d) (let e : b + j - b ≡ j = omega arith in e)
        ∙ get_or_append_left ys (drop w back) d j (omega (arith, l, put))

    -- and outside of both
    pub exchanged_before : (n : ℕ) (d : A) → n < a → get_or (put_mid a k front zs ++ (ys ++ drop w back)) n d ≡ get_or (front ++ back) n d
    exchanged_before n d l =
        get_or_append_left (put_mid a k front zs) (ys ++ drop w back) d n (omega (arith, l, apart, length-written))
        ∙ get_or_append_left (take a front) (zs ++ post_of a k front) d n (omega (arith, l, length-take-le a front (omega (arith, long, apart))))
        ∙ get_or-take a front n d l
        ∙ sym (get_or_append_left front back d n (omega (arith, l, long, apart)))

    pub exchanged_between : (n : ℕ) (d : A) → a + w ≤ n → n < b → get_or (put_mid a k front zs ++ (ys ++ drop w back)) n d ≡ get_or (front ++ back) n d
    exchanged_between n d m l =
        get_or_append_left (put_mid a k front zs) (ys ++ drop w back) d n (omega (arith, l, length-written))
        ∙ get_or-append_right (take a front) (zs ++ post_of a k front) a n d (length-take-le a front (omega (arith, long, apart))) (omega (arith, m))
        ∙ get_or-append_right zs (post_of a k front) w (n - a) d written (omega (arith, m))
        ∙ get_or-drop k (drop a front) (n - a - w) d
        ∙ get_or-drop a front (k + (n - a - w)) d
        ∙ ap (λ t. get_or front t d) (let e : a + (k + (n - a - w)) ≡ n = omega (arith, m, size) in e)
        ∙ sym (get_or_append_left front back d n (omega (arith, l, long)))

    pub exchanged_after : (n : ℕ) (d : A) → b + w ≤ n → get_or (put_mid a k front zs ++ (ys ++ drop w back)) n d ≡ get_or (front ++ back) n d
    exchanged_after n d m =
        get_or-append_right (put_mid a k front zs) (ys ++ drop w back) b n d length-written (omega (arith, m))
        ∙ get_or-append_right ys (drop w back) w (n - b) d put (omega (arith, m))
        ∙ get_or-drop w back (n - b - w) d
        ∙ ap (λ t. get_or back t d) (let e : w + (n - b - w) ≡ n - b = omega (arith, m) in e)
        ∙ sym (get_or-append_right front back b n d long (omega (arith, m)))

-- two rows change places where one is written over the other, and the other over it
module _ {A : Type 0} (w i j : ℕ) (order : i < j) (xs front back zs ys : List A) (k : ℕ) (below : j < length xs / w)
    (split : xs ≡ front ++ back) (long : length front ≡ j * w) (first : zs ≡ take w back) (second : ys ≡ between (i * w) (i * w + w) front) (size : k ≡ w) where
  pub exchanged_rows : SwappedAt (rows_of w xs) (rows_of w (put_mid (i * w) k front zs ++ (ys ++ drop w back))) i j
  exchanged_rows = swapped_by_entries (rows_of w xs) (rows_of w now) i j same_height (omega (arith, order, below, length-rows_of w xs)) (omega (arith, below, length-rows_of w xs))
      (λ d. get_or-rows_of w now i d (omega (arith, order, below, same_quotient)) ∙ row_by_entries w now xs i j d (omega (arith, order, below, same_quotient)) below (λ n e l. upper n e l) ∙ sym (get_or-rows_of w xs j d below))
      (λ d. get_or-rows_of w now j d (omega (arith, below, same_quotient)) ∙ row_by_entries w now xs j i d (omega (arith, below, same_quotient)) (omega (arith, order, below)) (λ n e l. lower n e l) ∙ sym (get_or-rows_of w xs i d (omega (arith, order, below))))
      (λ n d l p q.
      let inside : n < length xs / w = omega (arith, l, length-rows_of w xs) in
      get_or-rows_of w now n d (omega (arith, inside, same_quotient)) ∙ row_by_entries w now xs n n d (omega (arith, inside, same_quotient)) inside (λ m e b. other n m e p q b) ∙ sym (get_or-rows_of w xs n d inside))
    where
      now : List A
      now = put_mid (i * w) k front zs ++ (ys ++ drop w back)

      apart : i * w + w ≤ j * w
      apart = row_fits i w j w order (omega arith)

      row_end : j * w + w ≤ length xs
      row_end = row_within w xs j below

      count : w ≤ length back
      count = omega (arith, row_end, ap length split, length-append front back, long)

      written : length zs ≡ w
      written = ap length first ∙ length-take-le w back count

      put : length ys ≡ w
      put = ap length second ∙ length-between front (i * w) (i * w + w) (omega (arith, apart, long)) ∙ omega arith

      same_length : length now ≡ length xs
      same_length = length-exchanged front back zs ys (i * w) (j * w) w k long apart count written put size ∙ ap length (sym split)

      same_quotient : length now / w ≡ length xs / w
      same_quotient = ap (λ n. n / w) same_length

      same_height : length (rows_of w now) ≡ length (rows_of w xs)
      same_height = length-rows_of w now ∙ same_quotient ∙ sym (length-rows_of w xs)

      upper : (n : ℕ) (e : A) → n < w → get_or now (i * w + n) e ≡ get_or xs (j * w + n) e
      upper n e l =
          exchanged_upper front back zs ys (i * w) (j * w) w k long apart count written put size n e l
          ∙ ap (λ t. get_or t n e) first
          ∙ get_or-take w back n e l
          ∙ ap (λ t. get_or back t e) (let s : n ≡ j * w + n - j * w = omega arith in s)
          ∙ sym (ap (λ t. get_or t (j * w + n) e) split ∙ get_or-append_right front back (j * w) (j * w + n) e long (omega arith))

      lower : (n : ℕ) (e : A) → n < w → get_or now (j * w + n) e ≡ get_or xs (i * w + n) e
      lower n e l =
          exchanged_lower front back zs ys (i * w) (j * w) w k long apart count written put size n e l
          ∙ ap (λ t. get_or t n e) second
          ∙ get_or-between front (i * w) (i * w + w) n e (omega (arith, l))
          ∙ sym (ap (λ t. get_or t (i * w + n) e) split ∙ get_or_append_left front back e (i * w + n) (omega (arith, l, apart, long)))

      other : (n m : ℕ) (e : A) → n ≢ i → n ≢ j → m < w → get_or now (n * w + m) e ≡ get_or xs (n * w + m) e
      other n m e p q b = place (cases_lt n i) (cases_lt n j) ∙ ap (λ t. get_or t (n * w + m) e) (sym split)
        where
          less : (i n : ℕ) → i ≤ n → i ≢ n → i < n
          less i n l ne = grind (arith, l, ne)

          place : (n < i) ⊎ (i ≤ n) → (n < j) ⊎ (j ≤ n) → get_or now (n * w + m) e ≡ get_or (front ++ back) (n * w + m) e
          place (inl before) c = exchanged_before front back zs ys (i * w) (j * w) w k long apart count written put size (n * w + m) e (omega (arith, b, row_fits n w i w before (omega arith)))
          place (inr past) (inl l) = exchanged_between front back zs ys (i * w) (j * w) w k long apart count written put size (n * w + m) e (omega (arith, row_fits i w n w (less i n past (λ s. p (sym s))) (omega arith))) (omega (arith, b, row_fits n w j w l (omega arith)))
          place (inr past) (inr l) = exchanged_after front back zs ys (i * w) (j * w) w k long apart count written put size (n * w + m) e (omega (arith, row_fits j w n w (less j n l (λ s. q (sym s))) (omega arith)))
