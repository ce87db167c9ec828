-- The layers of the transform: after `s` of them, rows of `2^s` values of the polynomials of every
-- `2^(k-s)`-th coefficients.
use Rattle.std.proofs.Common.{◌≡◌, inl, inr, ℕ, zero, suc, ◌+◌, ◌-◌, ◌*◌, ◌^◌, ◌<◌, List}
use Rattle.std.proofs.Common.{get_or}
use Rattle.std.proofs.Common.{subst, sym, ap, ap₂, ◌∙◌, arith}
use Rattle.std.proofs.lemmas.Bool.{cases_lt}
use Rattle.algebra.specs.Field.{FieldOps, IsRing, pow, sub}
use Rattle.algebra.specs.Polynomial.{val}
use Rattle.algebra.proofs.Powers.{pow-one, pow-add, pow-mul}
use Rattle.algebra.proofs.Values.{val-one}
use Rattle.p3_dft.specs.Strided.{strided, HoldsValues, AfterLayers}
use Rattle.p3_dft.specs.Butterflies.{block_entry, sum_at, difference_at}
use Rattle.p3_dft.specs.Butterflies.{sum_of_sums, difference_of_sums}
use Rattle.p3_dft.specs.Butterflies.{sum_of_differences, difference_of_differences}
use Rattle.p3_dft.proofs.Sizes.{double_next, half_power, half_of_all}
use Rattle.p3_dft.proofs.Halves.{sum_is_value, difference_is_value}

module _ {A : Type 0} (F : FieldOps A) (R : IsRing F) where
  infixl 70 ◌⊗◌
  open F use {zero as 𝟘, one as 𝟙, mul as ◌⊗◌, neg}

  -- before the first one: each coefficient is a polynomial
  first_values : (x : A) (n : ℕ) (xs : List A) → HoldsValues F x n 1 xs xs
  first_values x n xs zero j l q = sym (val-one F R (get_or xs (0 * n + j) 𝟘) (pow F x 0))
  first_values x n xs (suc i) j l q = absurd (omega (arith, l))

  pub before_layers : (root : A) (width k : ℕ) (xs : List A) → AfterLayers F root width k 0 xs xs
  unfolding AfterLayers
  before_layers root width k xs =
      first_values (pow F root (2 ^ (k - 0))) (2 ^ (k - 0) * width) xs

  module _ (s h : ℕ) (v r : A) (square : r ⊗ r ≡ v) (half_turn : pow F r (2 ^ s) ≡ neg 𝟙) (xs : List A) where
    even : (j i : ℕ) → get_or xs ((i + i) * h + j) 𝟘 ≡ get_or xs (i * (h + h) + j) 𝟘
    even j i = ap (λ n. get_or xs n 𝟘) (omega arith)

    odd : (j i : ℕ) → get_or xs (suc (i + i) * h + j) 𝟘 ≡ get_or xs (i * (h + h) + (j + h)) 𝟘
    odd j i = ap (λ n. get_or xs n 𝟘) (omega arith)

    next : suc s ≡ s + 1
    next = omega arith

    module _ (i j : ℕ) (x : ℕ → A)
        (lower : x j ≡ val F (strided F (h + h) (2 ^ s) xs j) (pow F v i))
        (upper : x (j + h) ≡ val F (strided F (h + h) (2 ^ s) xs (j + h)) (pow F v i)) where
      pub value_of_sum : sum_at F x (pow F r i) h j ≡ val F (strided F h (2 ^ (s + 1)) xs j) (pow F r i)
      value_of_sum =
          ap₂ (λ a b. F.add a (b ⊗ pow F r i)) lower upper
          ∙ sum_is_value F R s v r square half_turn (λ i. get_or xs (i * h + j) 𝟘)
          (λ i. get_or xs (i * (h + h) + j) 𝟘) (λ i. get_or xs (i * (h + h) + (j + h)) 𝟘) (even j) (odd j) i
          ∙ ap (λ n. val F (strided F h (2 ^ n) xs j) (pow F r i)) next

      pub value_of_difference : difference_at F x (pow F r i) h j
          ≡ val F (strided F h (2 ^ (s + 1)) xs j) (pow F r (2 ^ s + i))
      value_of_difference =
          ap₂ (λ a b. sub F a (b ⊗ pow F r i)) lower upper
          ∙ difference_is_value F R s v r square half_turn (λ i. get_or xs (i * h + j) 𝟘)
          (λ i. get_or xs (i * (h + h) + j) 𝟘) (λ i. get_or xs (i * (h + h) + (j + h)) 𝟘) (even j) (odd j) i
          ∙ ap (λ n. val F (strided F h (2 ^ n) xs j) (pow F r (2 ^ s + i))) next

    module _ (blocks : ℕ) (count : blocks ≡ 2 ^ s) (ys zs : List A) (t : ℕ → A)
        (powers : (m : ℕ) → m < blocks → t m ≡ pow F r m)
        (known : HoldsValues F v (h + h) (2 ^ s) xs ys)
        (sums : (m j : ℕ) → m < blocks → j < h → block_entry zs h 𝟘 m j
        ≡ sum_at F (block_entry ys (h + h) 𝟘 m) (t m) h j)
        (differences : (m j : ℕ) → m < blocks → j < h → block_entry zs h 𝟘 (blocks + m) j
        ≡ difference_at F (block_entry ys (h + h) 𝟘 m) (t m) h j) where
      abbrev value_after_one : ℕ → ℕ → A
      value_after_one i j = val F (strided F h (2 ^ (s + 1)) xs j) (pow F r i)

      in_sums : (m j : ℕ) → m < blocks → j < h → block_entry zs h 𝟘 m j ≡ value_after_one m j
      in_sums m j l q =
          sums m j l q
          ∙ ap (λ u. sum_at F (block_entry ys (h + h) 𝟘 m) u h j) (powers m l)
          ∙ value_of_sum m j (block_entry ys (h + h) 𝟘 m)
          (known m j (omega (arith, l, count)) (omega (arith, q)))
          (known m (j + h) (omega (arith, l, count)) (omega (arith, q)))

      in_differences : (m j : ℕ) → m < blocks → j < h → block_entry zs h 𝟘 (blocks + m) j ≡ value_after_one (2 ^ s + m) j
      in_differences m j l q =
          differences m j l q
          ∙ ap (λ u. difference_at F (block_entry ys (h + h) 𝟘 m) u h j) (powers m l)
          ∙ value_of_difference m j (block_entry ys (h + h) 𝟘 m)
          (known m j (omega (arith, l, count)) (omega (arith, q)))
          (known m (j + h) (omega (arith, l, count)) (omega (arith, q)))

      pub after_one : HoldsValues F r h (2 ^ (s + 1)) xs zs
      after_one i j l q = elim (cases_lt i blocks) [
        | inl below ↦ in_sums i j below q
        | inr above ↦
            let e : i ≡ blocks + (i - blocks) = omega (arith, above) in
            ap (λ n. block_entry zs h 𝟘 n j) e
            ∙ in_differences (i - blocks) j (omega (arith, above, l, double_next s, count)) q
            ∙ ap (λ n. value_after_one n j) (omega (arith, above, count))
      ]

  module _ (s q : ℕ) (v r u : A) (square : r ⊗ r ≡ v) (next_square : u ⊗ u ≡ r)
      (half_turn : pow F r (2 ^ s) ≡ neg 𝟙) (next_turn : pow F u (2 ^ (s + 1)) ≡ neg 𝟙) (xs : List A)
      (blocks : ℕ) (count : blocks ≡ 2 ^ s) (ys zs : List A) (t e : ℕ → A)
      (powers : (m : ℕ) → m < blocks → t m ≡ pow F r m)
      (next_powers : (m : ℕ) → m < blocks + blocks → e m ≡ pow F u m)
      (known : HoldsValues F v (q + q + (q + q)) (2 ^ s) xs ys)
      (first : (m j : ℕ) → m < blocks → j < q → block_entry zs q 𝟘 m j
      ≡ sum_of_sums F (block_entry ys (q + q + (q + q)) 𝟘 m) (t m) (e m) q j)
      (second : (m j : ℕ) → m < blocks → j < q → block_entry zs q 𝟘 (blocks + m) j
      ≡ sum_of_differences F (block_entry ys (q + q + (q + q)) 𝟘 m) (t m) (e (blocks + m)) q j)
      (third : (m j : ℕ) → m < blocks → j < q → block_entry zs q 𝟘 (blocks + blocks + m) j
      ≡ difference_of_sums F (block_entry ys (q + q + (q + q)) 𝟘 m) (t m) (e m) q j)
      (fourth : (m j : ℕ) → m < blocks → j < q → block_entry zs q 𝟘 (blocks + blocks + (blocks + m)) j
      ≡ difference_of_differences F (block_entry ys (q + q + (q + q)) 𝟘 m) (t m) (e (blocks + m)) q j) where
    -- between the two layers
    abbrev middle : ℕ → ℕ → A
    middle i j = val F (strided F (q + q) (2 ^ (s + 1)) xs j) (pow F r i)

    sum_between : (m j : ℕ) → m < blocks → j < q + q
        → sum_at F (block_entry ys (q + q + (q + q)) 𝟘 m) (t m) (q + q) j ≡ middle m j
    sum_between m j l b =
        ap (λ w. sum_at F (block_entry ys (q + q + (q + q)) 𝟘 m) w (q + q) j) (powers m l)
        ∙ value_of_sum s (q + q) v r square half_turn xs m j (block_entry ys (q + q + (q + q)) 𝟘 m)
        (known m j (omega (arith, l, count)) (omega (arith, b)))
        (known m (j + (q + q)) (omega (arith, l, count)) (omega (arith, b)))

    difference_between : (m j : ℕ) → m < blocks → j < q + q
        → difference_at F (block_entry ys (q + q + (q + q)) 𝟘 m) (t m) (q + q) j ≡ middle (blocks + m) j
    difference_between m j l b =
        ap (λ w. difference_at F (block_entry ys (q + q + (q + q)) 𝟘 m) w (q + q) j) (powers m l)
        ∙ value_of_difference s (q + q) v r square half_turn xs m j (block_entry ys (q + q + (q + q)) 𝟘 m)
        (known m j (omega (arith, l, count)) (omega (arith, b)))
        (known m (j + (q + q)) (omega (arith, l, count)) (omega (arith, b)))
        ∙ ap (λ n. middle (n + m) j) (sym count)

    abbrev value_after_two : ℕ → ℕ → A
    value_after_two i j = val F (strided F q (2 ^ (s + 1 + 1)) xs j) (pow F u i)

    twice : 2 ^ (s + 1) ≡ blocks + blocks
    twice = omega (arith, double_next s, count)

    next_sum : (i j : ℕ) (x : ℕ → A) → i < blocks + blocks → x j ≡ middle i j → x (j + q) ≡ middle i (j + q)
        → sum_at F x (e i) q j ≡ value_after_two i j
    next_sum i j x l lower upper =
        ap (λ w. sum_at F x w q j) (next_powers i l)
        ∙ value_of_sum (s + 1) q r u next_square next_turn xs i j x lower upper

    next_difference : (i j : ℕ) (x : ℕ → A) → i < blocks + blocks → x j ≡ middle i j → x (j + q) ≡ middle i (j + q)
        → difference_at F x (e i) q j ≡ value_after_two (blocks + blocks + i) j
    next_difference i j x l lower upper =
        ap (λ w. difference_at F x w q j) (next_powers i l)
        ∙ value_of_difference (s + 1) q r u next_square next_turn xs i j x lower upper
        ∙ ap (λ n. value_after_two (n + i) j) twice

    in_first : (m j : ℕ) → m < blocks → j < q → block_entry zs q 𝟘 m j ≡ value_after_two m j
    in_first m j l b =
        first m j l b
        ∙ next_sum m j (sum_at F (block_entry ys (q + q + (q + q)) 𝟘 m) (t m) (q + q)) (omega (arith, l))
        (sum_between m j l (omega (arith, b))) (sum_between m (j + q) l (omega (arith, b)))

    in_second : (m j : ℕ) → m < blocks → j < q → block_entry zs q 𝟘 (blocks + m) j ≡ value_after_two (blocks + m) j
    in_second m j l b =
        second m j l b
        ∙ next_sum (blocks + m) j (difference_at F (block_entry ys (q + q + (q + q)) 𝟘 m) (t m) (q + q)) (omega (arith, l))
        (difference_between m j l (omega (arith, b))) (difference_between m (j + q) l (omega (arith, b)))

    in_third : (m j : ℕ) → m < blocks → j < q
        → block_entry zs q 𝟘 (blocks + blocks + m) j ≡ value_after_two (blocks + blocks + m) j
    in_third m j l b =
        third m j l b
        ∙ next_difference m j (sum_at F (block_entry ys (q + q + (q + q)) 𝟘 m) (t m) (q + q)) (omega (arith, l))
        (sum_between m j l (omega (arith, b))) (sum_between m (j + q) l (omega (arith, b)))

    in_fourth : (m j : ℕ) → m < blocks → j < q
        → block_entry zs q 𝟘 (blocks + blocks + (blocks + m)) j ≡ value_after_two (blocks + blocks + (blocks + m)) j
    in_fourth m j l b =
        fourth m j l b
        ∙ next_difference (blocks + m) j (difference_at F (block_entry ys (q + q + (q + q)) 𝟘 m) (t m) (q + q)) (omega (arith, l))
        (difference_between m j l (omega (arith, b))) (difference_between m (j + q) l (omega (arith, b)))

    abbrev Known : ℕ → ℕ → Type 0
    Known j i = block_entry zs q 𝟘 i j ≡ value_after_two i j

    all_blocks : 2 ^ (s + 1 + 1) ≡ blocks + blocks + (blocks + blocks)
    all_blocks = omega (arith, double_next (s + 1), twice)

    pub after_two : HoldsValues F u q (2 ^ (s + 1 + 1)) xs zs
    after_two i j l b = elim (cases_lt i (blocks + blocks)) [
      | inl low ↦ elim (cases_lt i blocks) [
        | inl below ↦ in_first i j below b
        | inr above ↦
            let place : blocks + (i - blocks) ≡ i = omega (arith, above) in
            subst (λ n. Known j n) place (in_second (i - blocks) j (omega (arith, above, low)) b)
      ]
      | inr high ↦ elim (cases_lt i (blocks + blocks + blocks)) [
        | inl below ↦
            let place : blocks + blocks + (i - (blocks + blocks)) ≡ i = omega (arith, high) in
            subst (λ n. Known j n) place (in_third (i - (blocks + blocks)) j (omega (arith, high, below)) b)
        | inr above ↦
            let m = i - (blocks + blocks + blocks) in
            let place : blocks + blocks + (blocks + m) ≡ i = omega (arith, above) in
            subst (λ n. Known j n) place (in_fourth m j (omega (arith, above, l, all_blocks)) b)
      ]
    ]

  -- as the call meets them, with the powers of a root of unity of order `2^k`
  module _ (root : A) (k : ℕ) (turn : pow F root (2 ^ (k - 1)) ≡ neg 𝟙) where
    abbrev root_of : ℕ → A
    root_of s = pow F root (2 ^ (k - s))

    squares : (s : ℕ) → s < k → root_of (s + 1) ⊗ root_of (s + 1) ≡ root_of s
    squares s below =
        sym (pow-add F R root (2 ^ (k - (s + 1))) (2 ^ (k - (s + 1))))
        ∙ ap (λ n. pow F root n) (sym (half_power k s below))

    turns : (s : ℕ) → s < k → pow F (root_of (s + 1)) (2 ^ s) ≡ neg 𝟙
    turns s below =
        sym (pow-mul F R root (2 ^ s) (2 ^ (k - (s + 1))))
        ∙ ap (λ n. pow F root n) (half_of_all k s below)
        ∙ turn

    powers_of : (s stride n : ℕ) (t : ℕ → A) → stride ≡ 2 ^ (k - s)
        → ((m : ℕ) → m < n → t m ≡ pow F root (m * stride)) → (m : ℕ) → m < n → t m ≡ pow F (root_of s) m
    powers_of s stride n t e h m l =
        h m l ∙ ap (λ n. pow F root (m * n)) e ∙ pow-mul F R root m (2 ^ (k - s))

    sum_times : (p w : ℕ) → (p + p) * w ≡ p * w + p * w
    sum_times p w = omega arith

    -- the blocks of a layer are twice as long as those of the next
    parts_of : (width s part : ℕ) → s < k → part ≡ 2 ^ (k - (s + 1)) * width → 2 ^ (k - s) * width ≡ part + part
    parts_of width s part below whole =
        ap (λ n. n * width) (half_power k s below)
        ∙ sum_times (2 ^ (k - (s + 1))) width
        ∙ ap (λ n. n + n) (sym whole)

    module _ (width s : ℕ) (xs ys zs : List A) (blocks stride part : ℕ) (count : blocks ≡ 2 ^ s)
        (size : part ≡ stride * width) (known : AfterLayers F root width k s xs ys) (t : ℕ → A) where
      pub one_layer : s < k → stride ≡ 2 ^ (k - (s + 1))
          → ((m : ℕ) → m < blocks → t m ≡ pow F root (m * stride))
          → ((m j : ℕ) → m < blocks → j < part → block_entry zs part 𝟘 m j
          ≡ sum_at F (block_entry ys (part + part) 𝟘 m) (t m) part j)
          → ((m j : ℕ) → m < blocks → j < part → block_entry zs part 𝟘 (blocks + m) j
          ≡ difference_at F (block_entry ys (part + part) 𝟘 m) (t m) part j)
          → AfterLayers F root width k (s + 1) xs zs
      unfolding AfterLayers
      one_layer below step powers sums differences =
          let whole : part ≡ 2 ^ (k - (s + 1)) * width = size ∙ ap (λ n. n * width) step in
          let Before : ℕ → Type 0 = λ n. HoldsValues F (root_of s) n (2 ^ s) xs ys in
          let After : ℕ → Type 0 = λ n. HoldsValues F (root_of (s + 1)) n (2 ^ (s + 1)) xs zs in
          subst After whole
          (after_one s part (root_of s) (root_of (s + 1)) (squares s below) (turns s below) xs
          blocks count ys zs t (powers_of (s + 1) stride blocks t step powers)
          (subst Before (parts_of width s part below whole) known) sums differences)

      pub two_layers : s + 1 < k → stride ≡ 2 ^ (k - (s + 1 + 1))
          → ((m : ℕ) → m < blocks + blocks → t m ≡ pow F root (m * stride))
          → ((m j : ℕ) → m < blocks → j < part → block_entry zs part 𝟘 m j
          ≡ sum_of_sums F (block_entry ys (part + part + (part + part)) 𝟘 m) (t (m + m)) (t m) part j)
          → ((m j : ℕ) → m < blocks → j < part → block_entry zs part 𝟘 (blocks + m) j
          ≡ sum_of_differences F (block_entry ys (part + part + (part + part)) 𝟘 m) (t (m + m)) (t (blocks + m)) part j)
          → ((m j : ℕ) → m < blocks → j < part → block_entry zs part 𝟘 (blocks + blocks + m) j
          ≡ difference_of_sums F (block_entry ys (part + part + (part + part)) 𝟘 m) (t (m + m)) (t m) part j)
          → ((m j : ℕ) → m < blocks → j < part → block_entry zs part 𝟘 (blocks + blocks + (blocks + m)) j
          ≡ difference_of_differences F (block_entry ys (part + part + (part + part)) 𝟘 m) (t (m + m)) (t (blocks + m)) part j)
          → AfterLayers F root width k (s + 1 + 1) xs zs
      unfolding AfterLayers
      two_layers below step powers first second third fourth =
          let before : s < k = omega (arith, below) in
          let whole : part ≡ 2 ^ (k - (s + 1 + 1)) * width = size ∙ ap (λ n. n * width) step in
          let half : part + part ≡ 2 ^ (k - (s + 1)) * width = sym (parts_of width (s + 1) part below whole) in
          let Before : ℕ → Type 0 = λ n. HoldsValues F (root_of s) n (2 ^ s) xs ys in
          let After : ℕ → Type 0 = λ n. HoldsValues F (root_of (s + 1 + 1)) n (2 ^ (s + 1 + 1)) xs zs in
          let every_other : (m : ℕ) → m < blocks → t (m + m) ≡ pow F root (m * (stride + stride)) =
          λ m l. powers (m + m) (omega (arith, l)) ∙ ap (λ n. pow F root n) (twice m stride) in
          subst After whole
          (after_two s part (root_of s) (root_of (s + 1)) (root_of (s + 1 + 1)) (squares s before) (squares (s + 1) below)
          (turns s before) (turns (s + 1) below) xs blocks count ys zs (λ m. t (m + m)) t
          (powers_of (s + 1) (stride + stride) blocks (λ m. t (m + m)) (ap (λ n. n + n) step ∙ sym (half_power k (s + 1) below)) every_other)
          (powers_of (s + 1 + 1) stride (blocks + blocks) t step powers)
          (subst Before (parts_of width s (part + part) before half) known) first second third fourth)
        where
          twice : (m n : ℕ) → (m + m) * n ≡ m * (n + n)
          twice m n = omega arith

  -- after all layers
  pub after_layers : (root : A) (width k : ℕ) (xs ys : List A) → AfterLayers F root width k k xs ys
      → HoldsValues F root width (2 ^ k) xs ys
  unfolding AfterLayers
  after_layers root width k xs ys known =
      let none : 2 ^ (k - k) ≡ 1 = ap (λ n. 2 ^ n) (let z : k - k ≡ 0 = omega arith in z) in
      let same : 2 ^ (k - k) * width ≡ width = ap (λ n. n * width) none ∙ (let o : 1 * width ≡ width = omega arith in o) in
      let Known : A → ℕ → Type 0 = λ x n. HoldsValues F x n (2 ^ k) xs ys in
      subst (λ n. Known root n) same
      (subst (λ x. Known x (2 ^ (k - k) * width)) (ap (λ n. pow F root n) none ∙ pow-one F R root) known)
