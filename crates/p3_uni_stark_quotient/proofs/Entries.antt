-- What constraints see at a point of a coset.
use Rattle.std.proofs.Common.{◌≡◌, ◌≢◌, ℕ, ◌+◌, ◌-◌, ◌*◌, ◌%◌, ◌^◌, ◌<◌, ◌≤◌, List, [], ◌∷◌, length, get_or}
use Rattle.std.proofs.Common.{All, refl, sym, ap, ◌∙◌, ◌⊎◌, inl, inr, arith, mod-lt, max}
use Rattle.std.proofs.Math.Nat.{mod-eq_of_lt, add-mod_right}
use Rattle.std.proofs.lemmas.List.{get_or_past}
use Rattle.std.proofs.lemmas.Nat.{pow_below}
use Rattle.std.proofs.Math.Pow.{pow_mono}
use Rattle.p3_air.specs.declared.air.AirLayout.{AirLayout}
use Rattle.p3_air.specs.Nodes.{Entries}
use Rattle.p3_air.specs.Satisfied.{row_at}
use Rattle.p3_air.specs.Shapes.{HasWidths}
use Rattle.p3_uni_stark_quotient.specs.Given.{OnCoset, entries_on, FitsCoset}
use Rattle.p3_uni_stark_quotient.proofs.ByLanes.{wrapped_entry}

pub row_inside : (row step height : ℕ) → row < height → step < height - row
    → row + step ≡ (row + step) % height
row_inside row step height l s = sym (mod-eq_of_lt (let h : row + step < height = omega (arith, l, s) in h))

pub row_wrapped : (row step height : ℕ) → row < height → step ≤ height → height - row ≤ step
    → step - (height - row) ≡ (row + step) % height
row_wrapped row step height l s w =
    sym (ap (λ n. n % height)
    (let e : row + step ≡ (step - (height - row)) + height = omega (arith, l, s, w) in e)
    ∙ add-mod_right (step - (height - row)) height
    ∙ mod-eq_of_lt (let h : step - (height - row) < height = omega (arith, l, s, w) in h))

-- a row of a list that is gone through again and again
pub periodic_entry : {V : Type 0} (rows : List (List V)) (row p h : ℕ) → h ≡ length rows
    → (0 < h → p ≡ row % h) → get_or rows p [] ≡ get_or rows (row % length rows) []
periodic_entry [] row p h e f = refl
periodic_entry (r ∷ rows) row p h e f =
    ap (λ n. get_or (r ∷ rows) n []) (f (omega (arith, e)) ∙ ap (λ n. row % n) e)

module _ {V E : Type 0} (v : List V) where
  abbrev entries_of_lists : (l n p q r : List E) → Entries V E
  entries_of_lists l n p q r = record {
    local = l;
    next = n;
    preprocessed = p;
    preprocessed_next = q;
    public_values = v;
    periodic = r;
  }

  -- entries are the same where they are kind by kind
  pub entries_same_in : (l l' n n' p p' q q' r r' : List E) → l ≡ l' → n ≡ n' → p ≡ p' → q ≡ q'
      → r ≡ r' → entries_of_lists l n p q r ≡ entries_of_lists l' n' p' q' r'
  entries_same_in l l' n n' p p' q q' r r' a b c d e =
      ap (λ x. entries_of_lists x n p q r) a ∙ ap (λ x. entries_of_lists l' x p q r) b
      ∙ ap (λ x. entries_of_lists l' n' x q r) c ∙ ap (λ x. entries_of_lists l' n' p' x r) d
      ∙ ap (λ x. entries_of_lists l' n' p' q' x) e

module _ {V : Type 0} (layout : AirLayout) (size step : ℕ) (given : OnCoset V)
    (fits : FitsCoset layout size given) where
  -- a row of so many entries, where without entries there may be no rows
  width_at : (rows : List (List V)) (width i : ℕ) → All (λ row. length row ≡ width) rows
      → (width ≢ 0 → i < length rows) → length (row_at rows i) ≡ width
  width_at rows width i all there = elim (decide i (length rows)) [
    | inl l ↦ all i [] l
    | inr n ↦ elim (zero_or width) [
      | inl e ↦ ap length (get_or_past rows i [] n) ∙ sym e
      | inr o ↦ absurd (omega (arith, n, there o))
    ]
  ]
    where
      decide : (a b : ℕ) → (a < b) ⊎ (b ≤ a)
      decide a b = grind arith

      zero_or : (a : ℕ) → (a ≡ 0) ⊎ (a ≢ 0)
      zero_or a = grind arith

  -- entries have the widths that the layout tells
  pub fits_widths : (i : ℕ) → i < size → HasWidths layout (entries_on given step i)
  fits_widths i l =
      let height = fits.height in
      let after : (i + step) % length given.trace < length given.trace =
      mod-lt (i + step) (omega (arith, l, height)) in
      record {
        local = fits.widths i [] (omega (arith, l, height));
        next = fits.widths ((i + step) % length given.trace) [] after;
        preprocessed = width_at given.preprocessed layout.preprocessed_width i
            fits.preprocessed_widths (λ n. omega (arith, l, fits.preprocessed_height n));
        preprocessed_next = width_at given.preprocessed layout.preprocessed_width
            ((i + step) % length given.trace) fits.preprocessed_widths
            (λ n. omega (arith, after, height, fits.preprocessed_height n));
        public_values = fits.values;
        periodic = width_at given.periodic layout.num_periodic_columns
            (i % length given.periodic) fits.periodic_widths
            (λ n. mod-lt i (fits.periodic_height n));
      }

  -- of rows that are gone through again and again
  pub trace_width : (i : ℕ) → 0 < size → length (row_at given.trace (i % size)) ≡ layout.width
  trace_width i some = fits.widths (i % size) [] (omega (arith, some, fits.height))

  pub preprocessed_width : (i : ℕ) → 0 < size
      → length (row_at given.preprocessed (i % size)) ≡ layout.preprocessed_width
  preprocessed_width i some =
      width_at given.preprocessed layout.preprocessed_width (i % size) fits.preprocessed_widths
      (λ n. omega (arith, some, fits.preprocessed_height n))

  pub periodic_width : (i p h : ℕ) → h ≡ length given.periodic → p ≡ max h 1
      → length (row_at given.periodic (i % p)) ≡ layout.num_periodic_columns
  periodic_width i p h e f =
      ap length (wrapped_entry given.periodic i p h e f)
      ∙ width_at given.periodic layout.num_periodic_columns (i % length given.periodic)
      fits.periodic_widths (λ n. mod-lt i (fits.periodic_height n))

-- a power of two that fits a word, as a shift gives it
pub shifted_one : (d top : ℕ) → d ≤ top → top < 64 → (1 * 2 ^ d) % 2 ^ 64 ≡ 2 ^ d
shifted_one d top l few =
    let small : 2 ^ d < 2 ^ 64 = pow_below d 64 (omega (arith, l, few)) in
    ap (λ n. n % 2 ^ 64) (let e : 1 * 2 ^ d ≡ 2 ^ d = omega arith in e) ∙ mod-eq_of_lt small

pub power_at_most : (i j : ℕ) → i ≤ j → 2 ^ i ≤ 2 ^ j
power_at_most i j l = pow_mono l
