-- The rows of some columns, one after another, and what an extension makes of them.
use Rattle.std.proofs.Common.{◌≡◌, ℕ, ◌+◌, ◌-◌, ◌*◌, ◌^◌, ◌<◌, ◌⊎◌, List, ◌++◌, length, get_or}
use Rattle.std.proofs.Common.{map, sym, ap, ap₂, ◌∙◌, arith, inl, inr}
use Rattle.std.proofs.lemmas.List.{get_or-map, get_or_append_left, get_or-append_right}
use Rattle.std.proofs.lemmas.List.{length-append, length-map}
use Rattle.std.proofs.lemmas.Nat.{row_fits}
use Rattle.algebra.specs.Field.{FieldOps}
use Rattle.algebra.specs.Polynomial.{val}
use Rattle.algebra.specs.Periodic.{column_polynomial}
use Rattle.algebra.proofs.Lists.{get_or-tabulate, map-tabulate, tabulate-equal, tabulate-get_or}
use Rattle.p3_field_core.specs.Coset.{coset_point}
use Rattle.p3_matrix.specs.declared.dense.RowMajorMatrix.{RowMajorMatrix}
use Rattle.p3_dft.specs.Evaluations.{column, AreCosetExtensions}
use Rattle.p3_dft.proofs.Columns.{Holds, column-strided}

module _ {A : Type 0} (F : FieldOps A) where
  -- one row more
  pub row_more : (f : ℕ → ℕ → A) (places : List ℕ) (xs ys : List A) (row : ℕ)
      → length xs ≡ row * length places → ys ≡ xs ++ map (f row) places
      → ((i c : ℕ) → i < row → c < length places
      → get_or xs (i * length places + c) F.zero ≡ f i (get_or places c 0))
      → (i c : ℕ) → i < row + 1 → c < length places
      → get_or ys (i * length places + c) F.zero ≡ f i (get_or places c 0)
  row_more f places xs ys row size e before i c b l =
      ap (λ zs. get_or zs (i * length places + c) F.zero) e ∙ found
    where
      which : (i < row) ⊎ (i ≡ row)
      which = grind (arith, b)

      found : get_or (xs ++ map (f row) places) (i * length places + c) F.zero
          ≡ f i (get_or places c 0)
      found = elim which [
        | inl below ↦
            get_or_append_left xs (map (f row) places) F.zero (i * length places + c)
            (omega (
              arith,
              size,
              l,
              row_fits i (length places) row (length places) below (omega arith),
            ))
            ∙ before i c below l
        | inr same ↦
            ap (λ n. get_or (xs ++ map (f row) places) (n * length places + c) F.zero) same
            ∙ get_or-append_right xs (map (f row) places) (row * length places)
            (row * length places + c) F.zero size (omega arith)
            ∙ ap (λ n. get_or (map (f row) places) n F.zero)
            (let s : row * length places + c - row * length places ≡ c = omega arith in s)
            ∙ get_or-map (f row) places c 0 F.zero l
            ∙ ap (λ n. f n (get_or places c 0)) (sym same)
      ]

  pub length_more : (f : ℕ → A) (places : List ℕ) (xs ys : List A) (row : ℕ)
      → length xs ≡ row * length places → ys ≡ xs ++ map f places
      → length ys ≡ (row + 1) * length places
  length_more f places xs ys row size e =
      ap length e ∙ length-append xs (map f places)
      ∙ ap₂ (λ m n. m + n) size (length-map places f)
      ∙ (let next : row * length places + length places ≡ (row + 1) * length places =
      omega arith in next)

  -- an entry of an extension of such rows is a value of its column's polynomial
  pub extended_entry : (w : ℕ → A) (shift : A) (k added width : ℕ) (matrix extended : RowMajorMatrix A)
      (xs es : List A) (c i : ℕ) (values : List A) → Holds matrix width (2 ^ k) xs
      → Holds extended width (2 ^ (k + added)) es
      → AreCosetExtensions F w shift k added matrix extended → c < width → i < 2 ^ (k + added)
      → length values ≡ 2 ^ k
      → ((r : ℕ) → r < 2 ^ k → get_or xs (r * width + c) F.zero ≡ get_or values r F.zero)
      → get_or es (i * width + c) F.zero
      ≡ val F (column_polynomial F w k values) (coset_point F (w (k + added)) shift i)
  extended_entry w shift k added width matrix extended xs es c i values given made known l b size same =
      let value : A → A = λ x. val F (column_polynomial F w k (column F matrix c)) x in
      sym (get_or-tabulate (2 ^ (k + added)) (λ r. get_or es (r * width + c) F.zero) i F.zero b)
      ∙ ap (λ ys. get_or ys i F.zero)
      (sym (column-strided F extended width (2 ^ (k + added)) es made c l)
      ∙ known.columns c (omega (arith, l, given.columns))
      ∙ map-tabulate value (2 ^ (k + added)) (coset_point F (w (k + added)) shift))
      ∙ get_or-tabulate (2 ^ (k + added)) (λ r. value (coset_point F (w (k + added)) shift r)) i F.zero b
      ∙ ap (λ ys. val F (column_polynomial F w k ys) (coset_point F (w (k + added)) shift i))
      (column-strided F matrix width (2 ^ k) xs given c l
      ∙ tabulate-equal (2 ^ k) (λ r. get_or xs (r * width + c) F.zero) (λ r. get_or values r F.zero) same
      ∙ tabulate-get_or (2 ^ k) values F.zero size)
