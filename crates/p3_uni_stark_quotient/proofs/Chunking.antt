-- Values on a coset, split into chunks of coefficients.
use Rattle.std.proofs.Common.{◌≡◌, ℕ, suc, refl, ◌+◌, ◌*◌, ◌%◌, ◌^◌, ◌<◌, ◌≤◌, List, [], ◌∷◌, ◌++◌}
use Rattle.std.proofs.Common.{length, get_or, take, map, sym, ap, ap₂, ◌∙◌, arith, ◌⊎◌, inl, inr}
use Rattle.std.proofs.Common.{append_assoc, length-append}
use Rattle.std.proofs.Math.Nat.{mul-le-mul_right}
use Rattle.std.proofs.lemmas.List.{get_or_past, take_more, append-nil, map-append}
use Rattle.std.proofs.lemmas.Nat.{pow_below, pow-add}
use Rattle.algebra.specs.Field.{FieldOps, IsField}
use Rattle.algebra.specs.Nested.{joined}
use Rattle.algebra.specs.Polynomial.{tabulate}
use Rattle.algebra.proofs.Lists.{Each, tabulate-next}
use Rattle.p3_matrix.specs.Rows.{rows_of}
use Rattle.p3_matrix.proofs.Columns.{rows_of-joined, whole_rows}
use Rattle.stark_algebra.proofs.Vanishing.{each-tabulate}

-- an extension has a coefficient
pub dimension_some : {A E : Type 0} (F : FieldOps A) → IsField F → (lift : A → E)
    → (coefficients : E → List A) (n : ℕ)
    → ((x : A) → get_or (coefficients (lift x)) 0 F.zero ≡ x)
    → ((x : E) → length (coefficients x) ≡ n) → 0 < n
dimension_some F L lift coefficients n these many = elim (some_or n) [
  | inl l ↦ l
  | inr e ↦ absurd (L.one_not_zero (sym (these F.one)
      ∙ get_or_past (coefficients (lift F.one)) 0 F.zero (omega (arith, e, many (lift F.one)))))
]
  where
    some_or : (m : ℕ) → (0 < m) ⊎ (m ≡ 0)
    some_or m = grind arith

-- one coefficient more
pub coefficient_next : {A : Type 0} (old now new cs : List A) (i : ℕ) (v d : A)
    → now ≡ old ++ take i cs → new ≡ now ++ v ∷ [] → i < length cs → v ≡ get_or cs i d
    → new ≡ old ++ take (i + 1) cs
coefficient_next old now new cs i v d before grown l is =
    grown ∙ ap₂ (λ xs x. xs ++ x ∷ []) before is
    ∙ append_assoc old (take i cs) (get_or cs i d ∷ [])
    ∙ ap (λ xs. old ++ xs) (sym (take_more cs i d l))

-- the place of a chunk's value is within
module _ (k d chunk row : ℕ) (c : chunk < 2 ^ d) (r : row < 2 ^ k) where
  row_below : row * 2 ^ d + 2 ^ d ≤ 2 ^ k * 2 ^ d
  row_below =
      let h : suc row * 2 ^ d ≤ 2 ^ k * 2 ^ d = mul-le-mul_right (2 ^ d) r in
      omega (arith, h)

  pub place_within : chunk + row * 2 ^ d < 2 ^ (k + d)
  place_within =
      let e : 2 ^ (k + d) ≡ 2 ^ k * 2 ^ d = pow-add 2 k d in
      omega (arith, row_below, e, c)

  pub place_fits : k + d < 64 → chunk + row * 2 ^ d < 2 ^ 64
  place_fits few =
      let h : 2 ^ (k + d) < 2 ^ 64 = pow_below (k + d) 64 few in
      omega (arith, h, place_within)

-- rows one after another
joined_next : {A : Type 0} (xs ys : List (List A)) → joined (xs ++ ys) ≡ joined xs ++ joined ys
joined_next [] ys = refl
joined_next (x ∷ xs) ys = ap (λ zs. x ++ zs) (joined_next xs ys)
    ∙ sym (append_assoc x (joined xs) (joined ys))

module _ {A : Type 0} (f : ℕ → List A) where
  pub row_next : (n : ℕ) (now new : List A) → now ≡ joined (tabulate n f) → new ≡ now ++ f n
      → new ≡ joined (tabulate (n + 1) f)
  row_next n now new before grown =
      grown ∙ ap (λ xs. xs ++ f n) before
      ∙ sym (ap (λ rs. joined rs) (tabulate-next n f)
      ∙ joined_next (tabulate n f) (f n ∷ [])
      ∙ ap (λ xs. joined (tabulate n f) ++ xs) (append-nil (f n)))

  module _ (w n : ℕ) (long : (i : ℕ) → i < n → length (f i) ≡ w) (some : 0 < w) (xs : List A)
      (is : xs ≡ joined (tabulate n f)) where
    widths : Each (λ r. length r ≡ w) (tabulate n f)
    widths = each-tabulate (λ r. length r ≡ w) n f long

    joined_length : (rs : List (List A)) → Each (λ r. length r ≡ w) rs
        → length (joined rs) ≡ length rs * w
    joined_length [] h = omega arith
    joined_length (r ∷ rs) h =
        length-append r (joined rs) ∙ ap₂ (λ a b. a + b) h.0 (joined_length rs h.1) ∙ omega arith

    pub rows_are : rows_of w xs ≡ tabulate n f
    rows_are = ap (λ ys. rows_of w ys) is ∙ rows_of-joined w some (tabulate n f) widths

    pub rows_whole : length xs % w ≡ 0
    rows_whole =
        whole_rows (length (tabulate n f)) w (length xs) some
        (ap length is ∙ joined_length (tabulate n f) widths)

-- one more of a list whose images are known
pub mapped_next : {X Y : Type 0} (f : X → Y) (xs ys : List X) (x : X) (n : ℕ) (h : ℕ → Y)
    → ys ≡ xs ++ x ∷ [] → map f xs ≡ tabulate n h → f x ≡ h n → map f ys ≡ tabulate (n + 1) h
mapped_next f xs ys x n h grown before is =
    ap (λ zs. map f zs) grown ∙ map-append f xs (x ∷ [])
    ∙ ap₂ (λ zs z. zs ++ z ∷ []) before is ∙ sym (tabulate-next n h)
