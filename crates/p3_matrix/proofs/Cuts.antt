-- The rows of a list that is cut between two rows.
use Rattle.std.proofs.Common.{◌≡◌, ℕ, ◌+◌, ◌-◌, ◌*◌, ◌/◌, ◌%◌, ◌<◌, ◌≤◌, List, length, sym, ap, ◌∙◌}
use Rattle.std.proofs.Common.{arith, take, drop, length-drop}
use Rattle.std.specs.List.{between}
use Rattle.std.proofs.lemmas.List.{same_lists, take-take, drop-drop, length-take-le, get_or-take}
use Rattle.std.proofs.lemmas.List.{get_or-drop}
use Rattle.std.proofs.lemmas.List.Edits.{length-between}
use Rattle.std.proofs.lemmas.Slice.{between_is}
use Rattle.std.proofs.lemmas.Nat.{row_fits, div-add-mod', div-mul-add, mod-mul-add, mul-le}
use Rattle.p3_matrix.specs.Rows.{rows_of}
use Rattle.p3_matrix.proofs.Rows.{length-rows_of, get_or-rows_of}

module _ {A : Type 0} (w : ℕ) (some : 0 < w) (xs : List A) (whole : length xs % w ≡ 0) (at : ℕ) (within : at ≤ length xs / w) where
  count : length xs ≡ length xs / w * w
  count = omega (arith, whole, div-add-mod' (length xs) w)

  pub cut_within : at * w ≤ length xs
  cut_within = omega (arith, count, mul-le at w (length xs / w) w within (omega arith))

  quotient_of : (n : ℕ) → n * w / w ≡ n
  quotient_of n = ap (λ m. m / w) (let e : n * w ≡ n * w + 0 = omega arith in e) ∙ div-mul-add n w 0 some

  remainder_of : (n : ℕ) → n * w % w ≡ 0
  remainder_of n = ap (λ m. m % w) (let e : n * w ≡ n * w + 0 = omega arith in e) ∙ mod-mul-add n w 0 some

  rest_count : length (drop (at * w) xs) ≡ (length xs / w - at) * w
  rest_count = length-drop (at * w) xs ∙ ap (λ n. n - at * w) count ∙ less (length xs / w) at w within
    where
      less : (q a w : ℕ) → a ≤ q → q * w - a * w ≡ (q - a) * w
      less q a w l = let split : q ≡ a + (q - a) = omega (arith, l) in omega (arith, ap (λ n. n * w) split)

  pub whole_first : length (take (at * w) xs) % w ≡ 0
  whole_first = ap (λ n. n % w) (length-take-le (at * w) xs cut_within) ∙ remainder_of at

  pub whole_rest : length (drop (at * w) xs) % w ≡ 0
  whole_rest = ap (λ n. n % w) rest_count ∙ remainder_of (length xs / w - at)

  first_height : length (take (at * w) xs) / w ≡ at
  first_height = ap (λ n. n / w) (length-take-le (at * w) xs cut_within) ∙ quotient_of at

  rest_height : length (drop (at * w) xs) / w ≡ length xs / w - at
  rest_height = ap (λ n. n / w) rest_count ∙ quotient_of (length xs / w - at)

  pub rows_of-take : rows_of w (take (at * w) xs) ≡ take at (rows_of w xs)
  rows_of-take =
      same_lists (rows_of w (take (at * w) xs)) (take at (rows_of w xs))
      (length-rows_of w (take (at * w) xs) ∙ first_height ∙ sym (length-take-le at (rows_of w xs) (omega (arith, within, length-rows_of w xs))))
      (λ i d b.
      let inside : i < at = omega (arith, b, length-rows_of w (take (at * w) xs), first_height) in
      get_or-rows_of w (take (at * w) xs) i d (omega (arith, inside, first_height))
      ∙ same_part i inside
      ∙ sym (get_or-take at (rows_of w xs) i d inside ∙ get_or-rows_of w xs i d (omega (arith, inside, within))))
    where
      same_part : (i : ℕ) → i < at → between (i * w) (i * w + w) (take (at * w) xs) ≡ between (i * w) (i * w + w) xs
      same_part i l =
          between_is (take (at * w) xs) (i * w) (i * w + w)
          ∙ ap (λ ys. drop (i * w) ys) (take-take (i * w + w) (at * w) xs (row_fits i w at w l (omega arith)))
          ∙ sym (between_is xs (i * w) (i * w + w))

  pub rows_of-drop : rows_of w (drop (at * w) xs) ≡ drop at (rows_of w xs)
  rows_of-drop =
      same_lists (rows_of w (drop (at * w) xs)) (drop at (rows_of w xs))
      (length-rows_of w (drop (at * w) xs) ∙ rest_height ∙ sym (length-drop at (rows_of w xs) ∙ ap (λ n. n - at) (length-rows_of w xs)))
      (λ i d b.
      let inside : i < length xs / w - at = omega (arith, b, length-rows_of w (drop (at * w) xs), rest_height) in
      get_or-rows_of w (drop (at * w) xs) i d (omega (arith, inside, rest_height))
      ∙ same_part i
      ∙ sym (get_or-drop at (rows_of w xs) i d ∙ get_or-rows_of w xs (at + i) d (omega (arith, inside))))
    where
      same_part : (i : ℕ) → between (i * w) (i * w + w) (drop (at * w) xs) ≡ between ((at + i) * w) ((at + i) * w + w) xs
      same_part i =
          ap (λ ys. take (i * w + w - i * w) ys) (drop-drop (i * w) (at * w) xs ∙ ap (λ n. drop n xs) (let e : at * w + i * w ≡ (at + i) * w = omega arith in e))
          ∙ ap (λ n. take n (drop ((at + i) * w) xs)) (let e : i * w + w - i * w ≡ (at + i) * w + w - (at + i) * w = omega arith in e)

-- the rows from `first` on, before `end`
module _ {A : Type 0} (w : ℕ) (some : 0 < w) (xs : List A) (whole : length xs % w ≡ 0) (first end : ℕ)
    (order : first ≤ end) (within : end ≤ length xs / w) where
  first_within : first ≤ length xs / w
  first_within = omega (arith, order, within)

  last_within : end - first ≤ length (drop (first * w) xs) / w
  last_within = omega (arith, within, rest_height w some xs whole first first_within)

  block_width : end * w - first * w ≡ (end - first) * w
  block_width = omega (arith, ap (λ n. n * w) (let split : end ≡ first + (end - first) = omega (arith, order) in split))

  pub block_order : first * w ≤ end * w
  block_order = omega (arith, ap (λ n. n * w) (let split : end ≡ first + (end - first) = omega (arith, order) in split))

  pub block_within : end * w ≤ length xs
  block_within = cut_within w some xs whole end within

  pub length-block : length (between (first * w) (end * w) xs) ≡ (end - first) * w
  length-block = length-between xs (first * w) (end * w) block_within ∙ block_width

  pub rows_of-block : rows_of w (between (first * w) (end * w) xs) ≡ between first end (rows_of w xs)
  rows_of-block =
      ap (λ n. rows_of w (take n (drop (first * w) xs))) block_width
      ∙ rows_of-take w some (drop (first * w) xs) (whole_rest w some xs whole first first_within) (end - first) last_within
      ∙ ap (λ rs. take (end - first) rs) (rows_of-drop w some xs whole first first_within)
