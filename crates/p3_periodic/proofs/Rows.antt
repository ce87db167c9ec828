-- Tables of values as lists of rows, beside their columns.
use Rattle.std.proofs.Common.{◌≡◌, ℕ, suc, ◌+◌, ◌-◌, ◌*◌, ◌/◌, ◌%◌, ◌^◌, ◌<◌, ◌≤◌, List, [], ◌∷◌}
use Rattle.std.proofs.Common.{length, get_or, refl, sym, ap, ◌∙◌, arith, subst, pow_pos}
use Rattle.std.specs.Prelude.{vec_len}
use Rattle.std.specs.List.{AllZip}
use Rattle.std.proofs.Math.Nat.{mod-lt}
use Rattle.std.proofs.lemmas.List.{map-id}
use Rattle.std.proofs.lemmas.Nat.{pow-add}
use Rattle.std.specs.declared.vec.Vec.{Vec}
use Rattle.algebra.specs.Nested.{lists}
use Rattle.algebra.specs.Field.{FieldOps, IsField}
use Rattle.algebra.specs.TwoAdic.{AreRoots}
use Rattle.algebra.specs.Periodic.{periodic_value}
use Rattle.algebra.proofs.Nested.{length-lists, lists_at}
use Rattle.algebra.proofs.Lists.{all_zip-weaker}
use Rattle.p3_field_core.specs.Coset.{coset_point}
use Rattle.p3_dft.proofs.Batches.{exponent_within}
use Rattle.p3_dft.proofs.Columns.{quotient_of}
use Rattle.p3_matrix.specs.Rows.{rows_of}
use Rattle.p3_matrix.proofs.Rows.{length-rows_of, get_or-rows_of, length-row_of, get_or-entry}
use Rattle.p3_periodic.specs.Columns.{greatest_period}
use Rattle.p3_periodic.specs.Batches.{column_at}
use Rattle.p3_periodic.specs.Tables.{AreTabulated, table_row, table_entry}
use Rattle.p3_periodic.specs.Values.{IsValueOf, IsValueAt, IsColumnValue}
use Rattle.p3_periodic.specs.Writes.{IsMet}
use Rattle.p3_periodic.proofs.Greatest.{within_greatest}
use Rattle.p3_periodic.proofs.Tabulated.{value_met}

module _ {A B : Type 0} (R : A → B → Type 0) where
  -- a relation of two lists, place by place
  pub all_zip-from : (xs : List A) (ys : List B) → length xs ≡ length ys
      → ((k : ℕ) (a : A) (b : B) → k < length xs → R (get_or xs k a) (get_or ys k b))
      → AllZip R xs ys
  all_zip-from [] [] same each = tt
  all_zip-from [] (y ∷ ys) same each = absurd (omega (arith, same))
  all_zip-from (x ∷ xs) [] same each = absurd (omega (arith, same))
  all_zip-from (x ∷ xs) (y ∷ ys) same each = (
    each 0 x y (omega arith),
    all_zip-from xs ys (omega (arith, same))
        (λ k a b l. each (suc k) a b (omega (arith, l))),
  )

-- a table whose entries are values at every index that its row stands for
module _ {T A : Type 0} where
  pub tabulated : (columns : List (Vec T A)) (height blowup : ℕ)
      (IsValue : ℕ → Vec T A → T → Type 0) (values : List T) → 0 < length columns → 0 < height
      → height ≡ greatest_period columns * blowup → length values ≡ height * length columns
      → ((index j : ℕ) (c : Vec T A) (d : T) → j < length columns
      → IsValue index (get_or columns j c)
      (get_or values (index % height * length columns + j) d))
      → AreTabulated columns blowup IsValue (rows_of (length columns) values)
  tabulated columns height blowup IsValue values some tall e size known = record {
    height = long ∙ e;
    values = λ index.
        let width = length columns in
        let rows = rows_of width values in
        let r = index % height in
        let below : r < height = mod-lt index tall in
        let inside : r < length values / width = omega (arith, below, quotient_of height width (length values) some size) in
        let same : table_row rows index ≡ get_or rows r [] = ap (λ n. get_or rows (index % n) []) long in
        let Zipped : List T → Type 0 = λ row. AllZip (IsValue index) columns row in
        subst Zipped (sym same)
        (all_zip-from (IsValue index) columns (get_or rows r [])
        (sym (ap length (get_or-rows_of width values r [] inside) ∙ length-row_of width values r inside))
        (λ j c d l.
        let Holds : T → Type 0 = λ v. IsValue index (get_or columns j c) v in
        subst Holds (sym (get_or-entry width values r j [] d inside l)) (known index j c d l)));
  }
    where
      long : length (rows_of (length columns) values) ≡ height
      long = length-rows_of (length columns) values ∙ quotient_of height (length columns) (length values) some size

-- the table whose entries belong there
module _ {A B : Type 0} (F : FieldOps A) (L : IsField F) (top : ℕ) (w : ℕ → A)
    (W : AreRoots F top w) (n added size : ℕ) (shift : A) (whole : n + added ≡ size)
    (within : size ≤ top) (bounded : top < 64) where
  pub columns_tabulated : (columns : List (Vec A B)) (q : ℕ) (values : List A) → q ≤ n
      → 2 ^ q ≡ greatest_period columns → 0 < length columns
      → length values ≡ 2 ^ (q + added) * length columns
      → ((i j k : ℕ) → i < 2 ^ (q + added) → j < length columns → k ≤ q
      → length (column_at (lists columns) j) ≡ 2 ^ k
      → IsMet (table_entry F w n (coset_point F (w size) shift) (lists columns)) values
      (i * length columns + j))
      → AreTabulated columns (2 ^ added)
      (λ index. IsColumnValue F w n (coset_point F (w size) shift index))
      (rows_of (length columns) values)
  unfolding IsValueOf
  columns_tabulated columns q values short greatest some long met =
      tabulated columns (2 ^ (q + added)) (2 ^ added)
      (λ index. IsColumnValue F w n (coset_point F (w size) shift index)) values some
      (pow_pos (q + added)) (pow-add 2 q added ∙ ap (λ g. g * 2 ^ added) greatest) long
      (λ index j c d l k e.
      let column = get_or columns j c in
      let same : column_at (lists columns) j ≡ column.items = lists_at columns j c l in
      let tall : 2 ^ k ≡ vec_len column = sym e ∙ sym column.ok.0 in
      let no_greater : k ≤ q = exponent_within k q (vec_len column) tall
      (omega (arith, within_greatest columns j c l, greatest)) in
      let inside : j < length (lists columns) = omega (arith, l, length-lists columns) in
      let row : index % 2 ^ (q + added) < 2 ^ (q + added) = mod-lt index (pow_pos (q + added)) in
      value_met F L top w W n added size shift whole within (lists columns) (length columns)
      (sym (length-lists columns)) bounded k q (2 ^ (q + added)) index j
      (get_or values (index % 2 ^ (q + added) * length columns + j) d) no_greater short refl inside
      (ap length same ∙ e)
      (met (index % 2 ^ (q + added)) j k row l no_greater (ap length same ∙ e) d)
      ∙ ap (λ xs. periodic_value F w k n xs (coset_point F (w size) shift index)) same)

-- the same table as an evaluator's trait states it
module _ {A B : Type 0} (F : FieldOps A) (w : ℕ → A) (n size : ℕ) (point : ℕ → A)
    (columns : List (Vec A B)) (larger : n ≤ size) where
  pub tabulated_lifted : (rows : List (List A))
      → AreTabulated columns (2 ^ (size - n)) (λ index. IsColumnValue F w n (point index)) rows
      → AreTabulated columns (2 ^ size / 2 ^ n)
      (λ index. IsValueAt F w n (point index) (λ (x : A). x)) rows
  tabulated_lifted rows known = record {
    height = known.height ∙ ap (λ b. greatest_period columns * b) (sym quotient);
    values = λ index.
        all_zip-weaker (IsColumnValue F w n (point index))
        (IsValueAt F w n (point index) (λ (x : A). x)) columns (table_row rows index)
        (λ c v holds.
        let Holds : List A → Type 0 = λ xs. IsValueOf F w n (point index) xs v in
        subst Holds (sym (map-id c.items)) holds)
        (known.values index);
  }
    where
      quotient : 2 ^ size / 2 ^ n ≡ 2 ^ (size - n)
      quotient =
          quotient_of (2 ^ (size - n)) (2 ^ n) (2 ^ size) (pow_pos n)
          (ap (λ k. 2 ^ k) (let e : size ≡ size - n + n = omega (arith, larger) in e)
          ∙ pow-add 2 (size - n) n)
