-- Values lane by lane.
use Rattle.std.proofs.Common.{◌≡◌, ℕ, zero, suc, refl, ◌+◌, ◌-◌, ◌*◌, ◌%◌, ◌<◌, ◌≤◌, List, [], ◌∷◌, ◌++◌}
use Rattle.std.proofs.Common.{length, get_or, take, map, sym, ap, ap₂, ◌∙◌, arith, suc-add, max}
use Rattle.std.proofs.Common.{length-append, ◌≢◌, below_more}
use Rattle.std.proofs.Math.Nat.{mul-le-mul_right}
use Rattle.std.specs.List.{flat_map}
use Rattle.std.proofs.lemmas.List.{length-map, get_or-map, get_or_append_left, get_or-append_right}
use Rattle.std.proofs.lemmas.List.{take_all, take-append-le}
use Rattle.algebra.specs.Field.{FieldOps, IsField}
use Rattle.algebra.specs.Polynomial.{tabulate, sum_below}
use Rattle.algebra.proofs.Lists.{length-tabulate, get_or-tabulate, tabulate-equal}
use Rattle.algebra.proofs.PolynomialProduct.{sum_below-equal}
use Rattle.algebra.proofs.RingLaws.{zero_add}
use Rattle.p3_field_core.specs.RowSums.{row_term, column_term}
use Rattle.p3_air.specs.declared.air.AirLayout.{AirLayout}
use Rattle.p3_air.specs.Nodes.{Entries}
use Rattle.p3_air.specs.Shapes.{HasWidths}
use Rattle.p3_uni_stark_quotient.specs.Lanes.{lane_entries}

-- a row of a list that is gone through again and again, if there is one
pub wrapped_entry : {V : Type 0} (rows : List (List V)) (i p h : ℕ) → h ≡ length rows
    → p ≡ max h 1 → get_or rows (i % p) [] ≡ get_or rows (i % length rows) []
wrapped_entry [] i p h e f = refl
wrapped_entry (r ∷ rows) i p h e f =
    ap (λ n. get_or (r ∷ rows) (i % n) []) (let g : p ≡ suc (length rows) = omega (arith, e, f) in g)

-- one lane more is as expected
pub lane_more : {V P : Type 0} (lane : P → ℕ → V) (before after : P) (x : V) (width i : ℕ)
    (expected : ℕ → V) → i < width → ((k : ℕ) → k < i → lane before k ≡ expected k)
    → lane after i ≡ x → ((l : ℕ) → l < width → l ≢ i → lane after l ≡ lane before l)
    → x ≡ expected i → (k : ℕ) → k < i + 1 → lane after k ≡ expected k
lane_more lane before after x width i expected within so_far here elsewhere is =
    below_more (λ k. lane after k ≡ expected k) i
    (λ k l. elsewhere k (omega (arith, l, within)) (λ e. omega (arith, e, l)) ∙ so_far k l)
    (here ∙ is)

-- a block lies within the rows where all do
pub block_within : (b n width size : ℕ) → b < n → n * width ≤ size → b * width + width ≤ size
block_within b n width size l all =
    let more : suc b * width ≤ n * width = mul-le-mul_right width l in omega (arith, more, all)

pub some_row : (first width l size : ℕ) → l < width → first + width ≤ size → 0 < size
some_row first width l size within all = omega (arith, within, all)

-- a list that is written over its first elements, of which there are as many
pub written_over : {A : Type 0} (new rest : List A) (n : ℕ) → length new ≡ n
    → take n (new ++ rest) ≡ new
written_over new rest n e =
    let l : n ≤ length new = omega (arith, e) in
    rw take-append-le (take_all n new (omega (arith, e)))

pub tabulate-append : {A : Type 0} (m n : ℕ) (f : ℕ → A)
    → tabulate (m + n) f ≡ tabulate m f ++ tabulate n (λ i. f (m + i))
tabulate-append zero n f =
    ap (λ k. tabulate k f) (let e : 0 + n ≡ n = omega arith in e)
    ∙ tabulate-equal n f (λ i. f (0 + i)) (λ i l. ap f (let e : i ≡ 0 + i = omega arith in e))
tabulate-append (suc m) n f =
    ap (λ k. tabulate k f) (suc-add m n)
    ∙ ap (λ ys. f zero ∷ ys) (tabulate-append m n (λ i. f (suc i)))
    ∙ ap (λ ys. f zero ∷ (tabulate m (λ i. f (suc i)) ++ ys))
    (tabulate-equal n (λ i. f (suc (m + i))) (λ i. f (suc m + i))
    (λ i l. ap f (let e : suc (m + i) ≡ suc m + i = omega arith in e)))

-- there are as many entries where there are as many in a lane
pub packed_widths : {V P : Type 0} (lane : P → ℕ → V) (l : ℕ) (layout : AirLayout)
    (entries : Entries V P) → HasWidths layout (lane_entries lane l entries)
    → HasWidths layout entries
packed_widths lane l layout entries h = record {
  local = sym (length-map entries.local (λ v. lane v l)) ∙ h.local;
  next = sym (length-map entries.next (λ v. lane v l)) ∙ h.next;
  preprocessed = sym (length-map entries.preprocessed (λ v. lane v l)) ∙ h.preprocessed;
  preprocessed_next = sym (length-map entries.preprocessed_next (λ v. lane v l))
      ∙ h.preprocessed_next;
  public_values = h.public_values;
  periodic = sym (length-map entries.periodic (λ v. lane v l)) ∙ h.periodic;
}

module _ {V X : Type 0} (g : ℕ → X → V) (w : ℕ) where
  abbrev lane_after_lane : List X → List V
  lane_after_lane xs = flat_map (λ x. tabulate w (λ l. g l x)) xs

  pub lanes_length : (xs : List X)
      → length (flat_map (λ x. tabulate w (λ l. g l x)) xs) ≡ length xs * w
  lanes_length [] = omega arith
  lanes_length (x ∷ xs) =
      length-append (tabulate w (λ l. g l x)) (lane_after_lane xs)
      ∙ ap₂ (λ a b. a + b) (length-tabulate w (λ l. g l x)) (lanes_length xs)
      ∙ omega arith

  -- an element's entry in a lane
  pub entry_in_lane : (xs : List X) (k l : ℕ) (x : X) (d : V) → l < w → k < length xs
      → get_or (flat_map (λ x. tabulate w (λ l. g l x)) xs) (k * w + l) d ≡ g l (get_or xs k x)
  entry_in_lane [] k l x d lane inside = absurd (omega (arith, inside))
  entry_in_lane (y ∷ xs) zero l x d lane inside =
      let here = tabulate w (λ i. g i y) in
      ap (λ i. get_or (here ++ lane_after_lane xs) i d) (let e : 0 * w + l ≡ l = omega arith in e)
      ∙ get_or_append_left here (lane_after_lane xs) d l
      (omega (arith, lane, length-tabulate w (λ i. g i y)))
      ∙ get_or-tabulate w (λ i. g i y) l d lane
  entry_in_lane (y ∷ xs) (suc k) l x d lane inside =
      get_or-append_right (tabulate w (λ i. g i y)) (lane_after_lane xs) w (suc k * w + l) d
      (length-tabulate w (λ i. g i y)) (let b : w ≤ suc k * w + l = omega arith in b)
      ∙ ap (λ i. get_or (lane_after_lane xs) i d)
      (let e : suc k * w + l - w ≡ k * w + l = omega arith in e)
      ∙ entry_in_lane xs k l x d lane (omega (arith, inside))

-- a lane's sum is that of the row of its entries
module _ {V A X : Type 0} (F : FieldOps V) (K : FieldOps A) (M : IsField K) (lift : V → A)
    (g : ℕ → X → V) (w : ℕ) where
  pub lane_sum : (xs : List X) (x : X) (powers zeros : List A) (entries : List V) (l : ℕ) (sum : A)
      → l < w → length powers ≡ length xs → zeros ≡ tabulate w (λ _. K.zero)
      → entries ≡ flat_map (λ x. tabulate w (λ l. g l x)) xs
      → sum ≡ K.add (get_or zeros l K.zero)
      (sum_below K (length powers) (column_term F K lift (length zeros) powers entries l))
      → sum ≡ sum_below K (length xs) (row_term F K lift powers (map (g l) xs))
  lane_sum xs x powers zeros entries l sum lane long are_zeros are_entries is =
      let many : length zeros ≡ w = ap length are_zeros ∙ length-tabulate w (λ _. K.zero) in
      is
      ∙ ap₂ K.add
      (ap (λ zs. get_or zs l K.zero) are_zeros ∙ get_or-tabulate w (λ _. K.zero) l K.zero lane)
      (ap (λ n. sum_below K n (column_term F K lift (length zeros) powers entries l)) long
      ∙ sum_below-equal K (length xs) (column_term F K lift (length zeros) powers entries l)
      (row_term F K lift powers (map (g l) xs))
      (λ k inside. ap (λ v. K.mul (get_or powers k K.zero) (lift v))
      (ap₂ (λ vs n. get_or vs (k * n + l) F.zero) are_entries many
      ∙ entry_in_lane g w xs k l x F.zero lane inside
      ∙ sym (get_or-map (g l) xs k x F.zero inside))))
      ∙ zero_add K M.ring (sum_below K (length xs) (row_term F K lift powers (map (g l) xs)))
