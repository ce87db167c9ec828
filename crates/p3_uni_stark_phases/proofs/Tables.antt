-- Rows of a table, one after another.
use Rattle.std.proofs.Common.{◌≡◌, ◌≢◌, ℕ, zero, suc, ◌+◌, ◌*◌, ◌/◌, ◌%◌, ◌<◌, ◌≤◌, List, [], ◌∷◌, ◌++◌, length, get_or}
use Rattle.std.proofs.Common.{refl, sym, ap, ◌∙◌, arith, None, Some, take, ◌⊎◌, inl, inr, mod-lt}
use Rattle.std.proofs.Common.{All, pow_pos}
use Rattle.std.specs.List.{AllZip}
use Rattle.std.specs.Prelude.{slice_get}
use Rattle.std.specs.declared.vec.Vec.{Vec}
use Rattle.std.proofs.Math.Nat.{mod-eq_of_lt, div-add-mod, mul-le-mul_right}
use Rattle.algebra.specs.Polynomial.{tabulate}
use Rattle.algebra.proofs.Lists.{All_from_each, length-tabulate, get_or-tabulate}
use Rattle.p3_air.specs.Satisfied.{row_at}
use Rattle.p3_periodic.specs.Columns.{HasPeriod, greatest_period}
use Rattle.p3_periodic.specs.Tables.{table_row}
use Rattle.p3_periodic.proofs.Greatest.{within_greatest}
use Rattle.stark_algebra.proofs.Vanishing.{each-tabulate}
use Rattle.p3_uni_stark_quotient.proofs.Chunking.{coefficient_next}

pub zip_length : {A B : Type 0} (R : A → B → Type 0) (xs : List A) (ys : List B)
    → AllZip R xs ys → length xs ≡ length ys
zip_length R [] [] h = refl
zip_length R [] (y ∷ ys) h = absurd h
zip_length R (x ∷ xs) [] h = absurd h
zip_length R (x ∷ xs) (y ∷ ys) h = ap suc (zip_length R xs ys h.1)

some_is : {X : Type 0} (x y : X) → Some x ≡ Some y → x ≡ y
some_is x y e = cc

none_some : {X : Type 0} (x : X) → None ≡ Some x → ⊥
none_some x e = cc

-- what is found at a place stands there
found_at : {X : Type 0} (xs : List X) (i : ℕ) (v d : X) → slice_get xs i ≡ Some v
    → v ≡ get_or xs i d
found_at [] i v d e = absurd (none_some v e)
found_at (x ∷ xs) zero v d e = sym (some_is x v e)
found_at (x ∷ xs) (suc i) v d e = found_at xs i v d e

-- and within there is something
pub some_within : {X : Type 0} (xs : List X) (i : ℕ) → i < length xs → slice_get xs i ≡ None → ⊥
some_within [] i l e = absurd (omega (arith, l))
some_within (x ∷ xs) zero l e = none_some x (sym e)
some_within (x ∷ xs) (suc i) l e = some_within xs i (omega (arith, l)) e

-- one entry more
pub entry_next : {X : Type 0} (old now new row : List X) (i : ℕ) (v : X) → now ≡ old ++ take i row
    → new ≡ now ++ v ∷ [] → i < length row → slice_get row i ≡ Some v
    → new ≡ old ++ take (i + 1) row
entry_next old now new row i v before grown l found =
    coefficient_next old now new row i v v before grown l (found_at row i v v found)

-- a row of all rows, gone through again and again
pub row_again : {T : Type 0} (rows : List (List T)) (i : ℕ)
    → row_at (tabulate (length rows) (table_row rows)) (i % length (tabulate (length rows)
    (table_row rows))) ≡ table_row rows i
row_again [] i = refl
row_again (r ∷ rows) i =
    let all = r ∷ rows in
    let b : i % length all < length all = mod-lt i (let h : 0 < length all = omega arith in h) in
    ap (λ n. row_at (tabulate (length all) (table_row all)) (i % n))
    (length-tabulate (length all) (table_row all))
    ∙ get_or-tabulate (length all) (table_row all) (i % length all) [] b
    ∙ ap (λ n. get_or all n []) (mod-eq_of_lt b)

-- a quotient of a number that isn't smaller
quotient_some : (a b : ℕ) → 0 < b → b ≤ a → 0 < a / b
quotient_some a b some l = elim (none_or (a / b)) [
  | inl e ↦
      let m = mod-lt a some in
      let whole = div-add-mod a b in
      let none = ap (λ q. b * q) e in
      absurd (omega (arith, m, whole, none, l))
  | inr h ↦ h
]
  where
    none_or : (n : ℕ) → (n ≡ 0) ⊎ (0 < n)
    none_or n = grind arith

-- where there is a column a table has a row
pub some_rows : {T A : Type 0} (height : ℕ) (columns : List (Vec T A)) → columns ≢ []
    → All (HasPeriod height) columns → (a b n : ℕ) → 0 < b → b ≤ a
    → n ≡ greatest_period columns * (a / b) → 0 < n
some_rows height [] some periods a b n p l e = absurd (some refl)
some_rows height (c ∷ cs) some periods a b n p l e =
    let period = periods zero c (omega arith) in
    let long = pow_pos period.power_of_two.0 in
    let one : 1 ≤ greatest_period (c ∷ cs) =
    omega (arith, long, period.power_of_two.1, within_greatest (c ∷ cs) zero c (omega arith)) in
    let q = quotient_some a b p l in
    let h : 1 * (a / b) ≤ greatest_period (c ∷ cs) * (a / b) = mul-le-mul_right (a / b) one in
    omega (arith, h, q, e)

-- rows of a table are as wide as there are columns
pub rows_wide : {T A : Type 0} (R : ℕ → Vec T A → T → Type 0) (columns : List (Vec T A))
    (rows : List (List T)) → ((i : ℕ) → AllZip (R i) columns (table_row rows i))
    → (i : ℕ) → length (table_row rows i) ≡ length columns
rows_wide R columns rows h i = sym (zip_length (R i) columns (table_row rows i) (h i))

pub all_wide : {T : Type 0} (w n : ℕ) (f : ℕ → List T) → ((i : ℕ) → length (f i) ≡ w)
    → All (λ row. length row ≡ w) (tabulate n f)
all_wide w n f h = All_from_each (λ row. length row ≡ w) (tabulate n f)
    (each-tabulate (λ row. length row ≡ w) n f (λ i l. h i))
