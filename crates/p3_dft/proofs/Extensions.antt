-- Extensions of columns: zeros below the coefficients, and the values entry by entry.
use Rattle.std.proofs.Common.{◌≡◌, ◌⊎◌, inl, inr, ℕ, zero, suc, ◌+◌, ◌-◌, ◌*◌, ◌%◌, ◌^◌, ◌<◌, ◌≤◌}
use Rattle.std.proofs.Common.{List, ◌++◌, length, get_or, map, take, replicate, refl, sym, ap, ◌∙◌}
use Rattle.std.proofs.Common.{arith, mul_comm}
use Rattle.std.proofs.lemmas.Bool.{cases_lt}
use Rattle.std.proofs.lemmas.List.{get_or_append_left, get_or-append_right, get_or_past, take_all}
use Rattle.std.proofs.lemmas.Nat.{mul-le, pow-add, one_shl}
use Rattle.std.proofs.Math.Nat.{pow-le-pow_right}
use Rattle.algebra.specs.Field.{FieldOps, IsRing}
use Rattle.algebra.specs.Polynomial.{val, tabulate}
use Rattle.algebra.specs.Interpolation.{interpolant}
use Rattle.algebra.proofs.Lists.{length-tabulate, map-tabulate, tabulate-equal}
use Rattle.p3_matrix.specs.declared.dense.RowMajorMatrix.{RowMajorMatrix}
use Rattle.p3_dft.specs.Evaluations.{AreExtensions}
use Rattle.p3_dft.specs.Strided.{strided}
use Rattle.p3_dft.proofs.Columns.{Holds, column-strided, length-held, val-tabulate_padded}
use Rattle.p3_dft.proofs.Batches.{exponent_within}

get_or-same : {A : Type 0} (m n : ℕ) (d : A) → get_or (replicate m d) n d ≡ d
get_or-same zero n d = refl
get_or-same (suc m) zero d = refl
get_or-same (suc m) (suc n) d = get_or-same m n d

-- defaults at the end change no look-up
pub get_or-filled : {A : Type 0} (xs : List A) (size m n : ℕ) (d : A) → length xs ≤ size → get_or (take size xs ++ replicate m d) n d ≡ get_or xs n d
get_or-filled xs size m n d le = ap (λ ys. get_or (ys ++ replicate m d) n d) (take_all size xs le) ∙ found (cases_lt n (length xs))
  where
    found : (n < length xs) ⊎ (length xs ≤ n) → get_or (xs ++ replicate m d) n d ≡ get_or xs n d
    found (inl below) = get_or_append_left xs (replicate m d) d n below
    found (inr past) = get_or-append_right xs (replicate m d) (length xs) n d refl past ∙ get_or-same m (n - length xs) d ∙ sym (get_or_past xs n d past)

-- the logarithm of the extended height
pub extended_within : (k added top height : ℕ) → 2 ^ k ≡ height → height * 2 ^ added ≤ 2 ^ top → k + added ≤ top
extended_within k added top height e b = exponent_within (k + added) top (height * 2 ^ added) (pow-add 2 k added ∙ ap (λ n. n * 2 ^ added) e) b

-- the extended size
pub extended_size : (k added width : ℕ) → 2 ^ k * width ≤ 2 ^ (k + added) * width
extended_size k added width = mul-le (2 ^ k) width (2 ^ (k + added)) width (pow-le-pow_right {n = 2} (omega arith) {i = k} {j = k + added} (omega arith)) (omega arith)

-- as the product of the width and a shifted one gives it
pub size_of_product : (n width size : ℕ) → n < 64 → size ≡ width * (1 * 2 ^ n % 2 ^ 64) → size ≡ 2 ^ n * width
size_of_product n width size bound e = e ∙ ap (λ m. width * m) (one_shl n 64 bound) ∙ mul_comm width (2 ^ n)

module _ {A : Type 0} (F : FieldOps A) where
  -- the values of a column of coefficients do not change with zeros below it
  pub padded_column : IsRing F → (k added width : ℕ) (cs ps : List A) → length cs ≡ 2 ^ k * width → ((n : ℕ) → get_or ps n F.zero ≡ get_or cs n F.zero)
      → (j : ℕ) (x : A) → val F (strided F width (2 ^ (k + added)) ps j) x ≡ val F (strided F width (2 ^ k) cs j) x
  padded_column R k added width cs ps size same j x =
      ap (λ c. val F c x) (tabulate-equal (2 ^ (k + added)) (λ i. get_or ps (i * width + j) F.zero) (λ i. get_or cs (i * width + j) F.zero) (λ i l. same (i * width + j)))
      ∙ ap (λ n. val F (tabulate n (λ i. get_or cs (i * width + j) F.zero)) x) (let e : 2 ^ (k + added) ≡ 2 ^ k + (2 ^ (k + added) - 2 ^ k) = omega (arith, pow-le-pow_right {n = 2} (omega arith) {i = k} {j = k + added} (omega arith)) in e)
      ∙ val-tabulate_padded F R (2 ^ k) (2 ^ (k + added) - 2 ^ k) (λ i. get_or cs (i * width + j) F.zero) x
      (λ i l. get_or_past cs (i * width + j) F.zero (omega (arith, size, mul-le (2 ^ k) width i width l (omega arith))))

  pub extensions_by_entries : (values extended : RowMajorMatrix A) (width height count : ℕ) (ys es points : List A) (point : ℕ → A)
      → Holds values width height ys → Holds extended width count es
      → ((i j : ℕ) → i < count → j < width → get_or es (i * width + j) F.zero ≡ val F (interpolant F points (strided F width height ys j)) (point i))
      → AreExtensions F points (tabulate count point) values extended
  extensions_by_entries values extended width height count ys es points point given made entry = record {
    width = made.columns ∙ sym given.columns;
    height = length-held F extended width count es made ∙ sym (length-tabulate count point);
    columns = λ j l.
        let below : j < width = omega (arith, l, given.columns) in
        column-strided F extended width count es made j below
        ∙ tabulate-equal count (λ i. get_or es (i * width + j) F.zero) (λ i. val F (interpolant F points (strided F width height ys j)) (point i)) (λ i b. entry i j b below)
        ∙ sym (map-tabulate (λ x. val F (interpolant F points (strided F width height ys j)) x) count point)
        ∙ ap (λ c. map (λ x. val F (interpolant F points c) x) (tabulate count point)) (sym (column-strided F values width height ys given j below));
  }
