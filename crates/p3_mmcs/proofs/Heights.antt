-- Heights that are powers of two, and the rows that an index opens.
use Rattle.std.proofs.Common.{◌≡◌, ℕ, zero, suc, ◌+◌, ◌-◌, ◌*◌, ◌/◌, ◌^◌, ◌<◌, ◌≤◌, max, List, []}
use Rattle.std.proofs.Common.{◌∷◌, length, get_or, take, ◌++◌, sym, ap, ap₂, ◌∙◌, arith, inl, inr}
use Rattle.std.proofs.Common.{subst}
use Rattle.std.proofs.lemmas.Bool.{cases_lt}
use Rattle.std.specs.Int.{IsPowerOfTwo}
use Rattle.std.proofs.Math.Nat.{div-lt_iff_lt-mul, pow-le-pow_right}
use Rattle.std.proofs.lemmas.Nat.{pow_pos, pow-add, div-mul-add, pow_below}
use Rattle.std.proofs.lemmas.List.{length-map, get_or-map, take-map, take_more}
use Rattle.std.specs.Int.{is_power_of_two}
use Rattle.std.specs.Prelude.{IsTrue, false}
use Rattle.std.proofs.lemmas.List.Elements.{All-append}
use Rattle.p3_field_core.proofs.IndexPowers.{exponent_below, IsPowerOfTwo_test}
use Rattle.p3_matrix.specs.declared.Dimensions.{Dimensions}
use Rattle.p3_matrix.specs.declared.dense.RowMajorMatrix.{RowMajorMatrix}
use Rattle.p3_matrix.specs.Matrix.{rows}
use Rattle.p3_mmcs.specs.Batch.{max_height, HavePowerHeights, dimensions, dimensions_of}

-- heights one by one
pub heights_none : HavePowerHeights []
heights_none k d l = absurd (omega (arith, l))

pub heights_more : (d : Dimensions) (dims : List Dimensions) → IsPowerOfTwo d.height
    → HavePowerHeights dims → HavePowerHeights (d ∷ dims)
heights_more d dims p h zero e l = p
heights_more d dims p h (suc k) e l = h k e (omega (arith, l))

-- the greatest height is a power of two
pub max_height-positive : (dims : List Dimensions) → 1 ≤ max_height dims
max_height-positive [] = omega arith
max_height-positive (d ∷ dims) = omega (arith, max_height-positive dims)

pub max_height-power : (dims : List Dimensions) → HavePowerHeights dims
    → IsPowerOfTwo (max_height dims)
max_height-power [] h = (0, omega arith)
max_height-power (d ∷ dims) h =
    greater d.height (max_height dims) (h zero d (omega arith))
    (max_height-power dims (λ k e l. h (suc k) e (omega (arith, l))))
  where
    greater : (m n : ℕ) → IsPowerOfTwo m → IsPowerOfTwo n → IsPowerOfTwo (max m n)
    greater m n p q = elim (cases_lt m n)
        [ inl l ↦ (q.0, omega (arith, l, q.1)) | inr l ↦ (p.0, omega (arith, l, p.1)) ]

-- no height is above it
pub height-le : (dims : List Dimensions) (k : ℕ) (d : Dimensions) → k < length dims
    → (get_or dims k d).height ≤ max_height dims
height-le [] k d l = absurd (omega (arith, l))
height-le (e ∷ dims) zero d l = omega arith
height-le (e ∷ dims) (suc k) d l = omega (arith, height-le dims k d (omega (arith, l)))

-- the greatest of one height more
pub max_height_take : (dims : List Dimensions) (k : ℕ) (d : Dimensions) → k < length dims
    → max_height (take (k + 1) dims) ≡ max (max_height (take k dims)) (get_or dims k d).height
max_height_take dims k d l = ap max_height (take_more dims k d l)
    ∙ pushed (take k dims) (get_or dims k d)
  where
    pushed : (dims : List Dimensions) (d : Dimensions)
        → max_height (dims ++ d ∷ []) ≡ max (max_height dims) d.height
    pushed [] d = omega arith
    pushed (e ∷ dims) d = omega (arith, pushed dims d)

pub max_height_of_take : {T : Type 0} (matrices : List (RowMajorMatrix T)) (k : ℕ)
    (d : RowMajorMatrix T) → k < length matrices
    → max_height (dimensions_of (take (k + 1) matrices))
    ≡ max (max_height (dimensions_of (take k matrices))) (length (rows (get_or matrices k d)))
max_height_of_take matrices k d l =
    ap max_height (sym (take-map dimensions (k + 1) matrices))
    ∙ max_height_take (dimensions_of matrices) k (dimensions d)
    (omega (arith, l, length-map matrices dimensions))
    ∙ ap₂ (λ ds e. max (max_height ds) e.height) (take-map dimensions k matrices)
    (get_or-map dimensions matrices k d (dimensions d) l)

-- a power of two that fits a word is at most half of what a word holds
pub power_half : (n : ℕ) → IsPowerOfTwo n → n < 2 ^ 64 → n ≤ 2 ^ 63
power_half n (k, e) l =
    let small : k < 64 = exponent_below k 64 (omega (arith, e, l)) in
    let half : k ≤ 63 = omega (arith, small) in
    omega (arith, e, pow-le-pow_right {n = 2} (omega arith) half)

pub power_some : (n : ℕ) → IsPowerOfTwo n → 0 < n
power_some n (k, e) = omega (arith, e, pow_pos k)

-- the quotient of the greatest height by another, and that by this quotient an index leads to a row
pub record Quotient (greatest height : ℕ) : Type 0 where
  pub some : 0 < height
  pub positive : 0 < greatest / height
  pub row_below : (index : ℕ) → index < greatest → index / (greatest / height) < height

pub quotient : (greatest height : ℕ) → IsPowerOfTwo greatest → IsPowerOfTwo height
    → height ≤ greatest → Quotient greatest height
quotient greatest height (m, e) (k, f) le =
    record {
      some = omega (arith, f, pow_pos k);
      positive =
          omega (arith, is, pow_pos (m - k));
      row_below = below;
    }
  where
    smaller : k ≤ m
    smaller = grind (arith, pow_below)

    split : greatest ≡ 2 ^ (m - k) * height
    split = e ∙ ap (λ n. 2 ^ n) (omega (arith, smaller)) ∙ pow-add 2 (m - k) k ∙ ap (λ n.
        2 ^ (m - k) * n) (sym f)

    is : greatest / height ≡ 2 ^ (m - k)
    is = ap (λ n. n / height) (split ∙ omega arith)
        ∙ div-mul-add (2 ^ (m - k)) height 0 (omega (arith, f, pow_pos k))

    below : (index : ℕ) → index < greatest → index / (greatest / height) < height
    below index l =
        let moved : index < height * 2 ^ (m - k) = omega (arith, l, split) in
        omega (
          arith,
          ap (λ q. index / q) is,
          (div-lt_iff_lt-mul {k = 2 ^ (m - k)} {x = index} {y = height} (pow_pos (m - k))).1
              moved,
        )

module _ {T : Type 0} (matrices : List (RowMajorMatrix T))
    (powers : HavePowerHeights (dimensions_of matrices)) (k : ℕ) (d : RowMajorMatrix T)
    (l : k < length matrices) where
  dimensions_at : get_or (dimensions_of matrices) k (dimensions d)
      ≡ dimensions (get_or matrices k d)
  dimensions_at = get_or-map dimensions matrices k d (dimensions d) l

  -- so for the matrix at `k`
  pub quotient_at : Quotient (max_height (dimensions_of matrices))
      (length (rows (get_or matrices k d)))
  quotient_at =
      let within : k < length (dimensions_of matrices) =
      omega (arith, l, length-map matrices dimensions) in
      quotient (max_height (dimensions_of matrices)) (length (rows (get_or matrices k d)))
      (max_height-power (dimensions_of matrices) powers)
      (subst (λ e. IsPowerOfTwo e.height) dimensions_at (powers k (dimensions d) within))
      (subst (λ e. e.height ≤ max_height (dimensions_of matrices)) dimensions_at
      (height-le (dimensions_of matrices) k (dimensions d) within))

-- the same where the element is known by its place
pub quotient_of : {T : Type 0} (matrices : List (RowMajorMatrix T))
    → HavePowerHeights (dimensions_of matrices) → (k : ℕ) (matrix : RowMajorMatrix T)
    → k < length matrices
    → matrix ≡ get_or matrices k matrix
    → Quotient (max_height (dimensions_of matrices)) (length (rows matrix))
quotient_of matrices powers k matrix l is = subst (λ m.
    Quotient (max_height (dimensions_of matrices)) (length (rows m))) (sym is)
    (quotient_at matrices powers k matrix l)

-- one height more that passes the test
pub heights_take_more : (dims : List Dimensions) (k : ℕ) (d : Dimensions) → k < length dims
    → IsTrue (is_power_of_two (get_or dims k d).height) → HavePowerHeights (take k dims)
    → HavePowerHeights (take (k + 1) dims)
heights_take_more dims k d l passed h =
    subst HavePowerHeights (sym (take_more dims k d l))
    (All-append (λ (e : Dimensions). IsPowerOfTwo e.height) (take k dims) (get_or dims k d ∷ []) h
    (heights_more (get_or dims k d) [] ((IsPowerOfTwo_test (get_or dims k d).height).0 passed)
    heights_none))

-- one that fails it
pub heights_refused : (dims : List Dimensions) (k : ℕ) (d : Dimensions) → k < length dims
    → is_power_of_two (get_or dims k d).height ≡ false → HavePowerHeights dims → ⊥
heights_refused dims k d l failed h =
    let passed = (IsPowerOfTwo_test (get_or dims k d).height).1 (h k d l) in
    cc
