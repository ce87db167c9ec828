-- What belongs in a table of periodic columns: the values of a column's polynomial at the powers of
-- the domain's points, which go round.
use Rattle.std.proofs.Common.{◌≡◌, ℕ, ◌+◌, ◌-◌, ◌*◌, ◌%◌, ◌^◌, ◌<◌, ◌≤◌, List, length, refl, sym}
use Rattle.std.proofs.Common.{ap, ap₂, ◌∙◌, arith, subst, get_or, pow_pos, ◌⊎◌, inl, inr}
use Rattle.std.proofs.Math.Nat.{mod-lt}
use Rattle.std.proofs.Math.Pow.{pow-lt}
use Rattle.std.proofs.lemmas.List.{get_or_default}
use Rattle.std.proofs.lemmas.Nat.{div-mul-add, mod-mul-add, row_fits}
use Rattle.algebra.specs.Field.{FieldOps, IsField, pow}
use Rattle.algebra.specs.Polynomial.{val}
use Rattle.algebra.specs.TwoAdic.{AreRoots}
use Rattle.algebra.specs.Periodic.{column_polynomial, periodic_value}
use Rattle.algebra.proofs.Periodic.{periodic_value_at_point, periodic_value_repeats}
use Rattle.p3_field_core.specs.Coset.{coset_point}
use Rattle.p3_field_core.proofs.IndexPowers.{exponents_agree, pow-count_trailing_zeros}
use Rattle.p3_periodic.specs.Batches.{column_at, ArePlaces}
use Rattle.p3_periodic.specs.Tables.{exponent_of, table_entry, MeetColumns}
use Rattle.p3_periodic.specs.Writes.{IsMet, Belong, MeetInRows}

pub exponent_of-pow : (k : ℕ) → k < 64 → exponent_of (2 ^ k) ≡ k
exponent_of-pow k l =
    exponents_agree (exponent_of (2 ^ k)) k (pow-count_trailing_zeros 64 (2 ^ k) (k, refl) (pow-lt l))

module _ {A : Type 0} (F : FieldOps A) (w : ℕ → A) (log_rows : ℕ) (point : ℕ → A)
    (columns : List (List A)) where
  -- what belongs in row `i` to column `j`, of `2^k` entries
  pub table_entry-at : (i j k : ℕ) → j < length columns → k < 64
      → length (column_at columns j) ≡ 2 ^ k
      → table_entry F w log_rows point columns (i * length columns + j)
      ≡ periodic_value F w k log_rows (column_at columns j) (point i)
  unfolding table_entry
  table_entry-at i j k l b size =
      ap₂ (λ row place. periodic_value F w (exponent_of (length (column_at columns place))) log_rows
      (column_at columns place) (point row))
      (div-mul-add i (length columns) j l) (mod-mul-add i (length columns) j l)
      ∙ ap (λ a. periodic_value F w a log_rows (column_at columns j) (point i))
      (ap (λ n. exponent_of n) size ∙ exponent_of-pow k b)

-- along a trace of `2^n` rows, on a domain of `2^added` points for each
module _ {A : Type 0} (F : FieldOps A) (L : IsField F) (top : ℕ) (w : ℕ → A)
    (W : AreRoots F top w) (n added size : ℕ) (shift : A) (whole : n + added ≡ size)
    (within : size ≤ top) where
  -- the value at a point of the domain, by a coset that goes round
  value_by_coset : (k i : ℕ) (column : List A) (power : A) → k ≤ n
      → power ≡ pow F shift (2 ^ (n - k))
      → val F (column_polynomial F w k column)
      (coset_point F (w (k + added)) power (i % 2 ^ (k + added)))
      ≡ periodic_value F w k n column (coset_point F (w size) shift i)
  value_by_coset k i column power short e =
      ap (λ s. val F (column_polynomial F w k column)
      (coset_point F (w (k + added)) s (i % 2 ^ (k + added)))) e
      ∙ sym (periodic_value_at_point F L top w W k n added i shift column short
      (omega (arith, whole, within)))
      ∙ ap (λ m. periodic_value F w k n column (coset_point F (w m) shift i)) whole

  -- and again after as many points as a longer column takes
  value_repeats : (k q i : ℕ) (column : List A) → k ≤ q → q ≤ n
      → periodic_value F w k n column (coset_point F (w size) shift (i % 2 ^ (q + added)))
      ≡ periodic_value F w k n column (coset_point F (w size) shift i)
  value_repeats k q i column l m =
      let Same : ℕ → Type 0 = λ s. periodic_value F w k n column
      (coset_point F (w s) shift (i % 2 ^ (q + added)))
      ≡ periodic_value F w k n column (coset_point F (w s) shift i) in
      subst Same whole
      (sym (periodic_value_repeats F L top w W k n added q i shift column l m
      (omega (arith, whole, within))))

  module _ (columns : List (List A)) (width : ℕ) (wide : width ≡ length columns)
      (bounded : top < 64) where
    abbrev entry : ℕ → A
    entry = table_entry F w n (coset_point F (w size) shift) columns

    -- rows of values of the columns at these places go to where they belong
    pub columns_belong : (k period : ℕ) (power : A) (places : List ℕ) (values : List A) → k ≤ n
        → power ≡ pow F shift (2 ^ (n - k)) → period ≡ 2 ^ (k + added)
        → ArePlaces columns width (2 ^ k) places → length values ≡ 2 ^ (k + added) * length places
        → ((i c : ℕ) → i < 2 ^ (k + added) → c < length places
        → get_or values (i * length places + c) F.zero
        ≡ val F (column_polynomial F w k (column_at columns (get_or places c 0)))
        (coset_point F (w (k + added)) power i))
        → (i : ℕ) → Belong entry (i * width) places (i % period * length places) values
    columns_belong k period power places values short e p found size_of known i c d l =
        let m = length places in
        let r = i % 2 ^ (k + added) in
        let place = get_or places c 0 in
        let below : r < 2 ^ (k + added) = mod-lt i (pow_pos (k + added)) in
        let inside : place < length columns = omega (arith, found.within c 0 l, wide) in
        let room : r * m + c < length values = omega (
          arith,
          l,
          size_of,
          row_fits r m (2 ^ (k + added)) m below (omega arith),
        ) in
        ap (λ q. get_or values (i % q * m + c) d) p
        ∙ get_or_default values (r * m + c) d F.zero room
        ∙ known r c below l
        ∙ value_by_coset k i (column_at columns place) power short e
        ∙ sym (table_entry-at F w n (coset_point F (w size) shift) columns i place k inside
        (omega (arith, short, whole, within, bounded)) (found.each c 0 l))
        ∙ ap (λ q. entry (i * q + place)) (sym wide)

    -- and then the table has them
    pub columns_met : (height period : ℕ) (places : List ℕ) (before after : List A)
        → ArePlaces columns width period places → MeetInRows entry width height places before after
        → MeetColumns F w n (coset_point F (w size) shift) columns height period before after
    columns_met height period places before after found rows = record {
      kept = rows.kept;
      met = λ i j b l s d.
          let found_at = found.all j (omega (arith, l, wide)) s in
          let here : get_or places found_at.0 0 ≡ j =
          get_or_default places found_at.0 0 j found_at.1 ∙ found_at.2 in
          ap₂ (λ m q. get_or after (i * m + q) d) (sym wide) (sym here)
          ∙ rows.met i found_at.0 b found_at.1 d
          ∙ ap₂ (λ m q. entry (i * m + q)) wide here;
    }

    -- an entry is the column's value at each index that its row stands for
    pub value_met : (k q height index j : ℕ) (value : A) → k ≤ q → q ≤ n
        → height ≡ 2 ^ (q + added) → j < length columns → length (column_at columns j) ≡ 2 ^ k
        → value ≡ entry (index % height * width + j)
        → value ≡ periodic_value F w k n (column_at columns j) (coset_point F (w size) shift index)
    value_met k q height index j value l m e inside s v =
        v ∙ ap₂ (λ h x. entry (index % h * x + j)) e wide
        ∙ table_entry-at F w n (coset_point F (w size) shift) columns (index % 2 ^ (q + added)) j k
        inside (omega (arith, l, m, whole, within, bounded)) s
        ∙ value_repeats k q index (column_at columns j) l m

    -- the columns of one length more
    pub columns_one_more : (height k : ℕ) (before start after : List A) → start ≡ before
        → ((i j e : ℕ) → i < height → j < width → e < k → length (column_at columns j) ≡ 2 ^ e
        → IsMet entry before (i * width + j))
        → MeetColumns F w n (coset_point F (w size) shift) columns height (2 ^ k) start after
        → (i j e : ℕ) → i < height → j < width → e < k + 1 → length (column_at columns j) ≡ 2 ^ e
        → IsMet entry after (i * width + j)
    columns_one_more height k before start after same known meet i j e a b l s = elim which [
      | inl less ↦
          let Met : List A → Type 0 = λ xs. IsMet entry xs (i * width + j) in
          meet.kept (i * width + j) (subst Met (sym same) (known i j e a b less s))
      | inr exact ↦
          λ d. ap (λ m. get_or after (i * m + j) d) wide
          ∙ meet.met i j a (omega (arith, b, wide)) (s ∙ ap (λ x. 2 ^ x) exact) d
          ∙ ap (λ m. entry (i * m + j)) (sym wide)
    ]
      where
        which : (e < k) ⊎ (e ≡ k)
        which = grind (arith, l)
