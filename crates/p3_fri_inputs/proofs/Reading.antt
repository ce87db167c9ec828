-- The points that a position reads, from the greatest log height down, and how far claimed points
-- are from them.
use Rattle.std.proofs.Common.{◌≡◌, ℕ, suc, ◌+◌, ◌-◌, ◌/◌, ◌%◌, ◌^◌, ◌<◌, ◌≤◌}
use Rattle.std.proofs.Common.{List, length, get_or, set, sym, ap, ◌∙◌}
use Rattle.std.proofs.Common.{arith, inl, inr}
use Rattle.std.proofs.Math.Nat.{div-div-eq-div-mul, pow-suc}
use Rattle.std.proofs.lemmas.Bool.{cases_eq}
use Rattle.std.proofs.lemmas.List.{get_or-set_same, get_or-set_other, length-set}
use Rattle.algebra.specs.Field.{FieldOps, IsField, pow}
use Rattle.algebra.specs.Digits.{rev}
use Rattle.algebra.specs.TwoAdic.{AreRoots, pt}
use Rattle.algebra.specs.Cosets.{coset_pt}
use Rattle.algebra.proofs.Points.{IsHalf, pair-square}

half_of : (j : ℕ) → IsHalf j (j / 2)
unfolding IsHalf
half_of j = elim (cases_eq (j % 2) 0) [ inl e ↦ inl (omega (arith, e)) | inr n ↦ inr (omega (arith, n)) ]

module _ {A : Type 0} (F : FieldOps A) (w : ℕ → A) (shift : A) (top position : ℕ) where
  -- the point of the subgroup of log height `h` that the position reads
  abbrev pub unshifted : (h : ℕ) → A
  unshifted h = pt F w (position / 2 ^ (top - h)) h

  -- the table has its entries from the log height `k` on, and the next one below is at hand
  pub record IsReadFrom (count k : ℕ) (read : List A) (point : A) : Type 0 where
    pub long : length read ≡ count
    pub done : (h : ℕ) (d : A) → k ≤ h → h ≤ top
        → get_or read h d ≡ coset_pt F w shift (position / 2 ^ (top - h)) h
    pub next : 0 < k → point ≡ unshifted (k - 1)

module _ {A : Type 0} (F : FieldOps A) (L : IsField F) (adicity : ℕ) (w : ℕ → A)
    (W : AreRoots F adicity w) (shift : A) (top position : ℕ) where
  abbrev point_at : (h : ℕ) → A
  point_at = unshifted F w shift top position

  pub unshifted_top : (i : ℕ) → i ≡ rev top position → pow F (w top) i ≡ point_at top
  unfolding pt
  unshifted_top i e =
      ap (λ n. pow F (w top) n) e
      ∙ ap (λ n. pow F (w top) (rev top n)) (sym whole)
    where
      whole : position / 2 ^ (top - top) ≡ position
      whole = let none : top - top ≡ 0 = omega arith in
          ap (λ n. position / 2 ^ n) none ∙ omega arith

  -- its square is the next lower one
  pub unshifted_next : (h : ℕ) → suc h ≤ top → top ≤ adicity
      → F.mul (point_at (suc h)) (point_at (suc h)) ≡ point_at h
  unshifted_next h l b =
      let j = position / 2 ^ (top - suc h) in
      let next : top - h ≡ suc (top - suc h) = omega arith in
      pair-square F L adicity w W (j / 2) j h (half_of j) (omega arith)
      ∙ ap (λ i. pt F w i h)
      (div-div-eq-div-mul position (2 ^ (top - suc h)) 2
      ∙ ap (λ n. position / n) (sym (pow-suc 2 (top - suc h)))
      ∙ ap (λ n. position / 2 ^ n) (sym next))

  pub read_next : (count k : ℕ) (read : List A) (point entry square : A) → 0 < k → k ≤ count
      → count ≡ top + 1 → top ≤ adicity
      → IsReadFrom F w shift top position count k read point
      → entry ≡ F.mul shift point → square ≡ F.mul point point
      → IsReadFrom F w shift top position count (k - 1) (set read (k - 1) entry) square
  read_next count k read point entry square p l c b so_far is_entry is_square = record {
    long = length-set read (k - 1) entry ∙ so_far.long;
    done = λ h d m n. elim (cases_eq h (k - 1)) [
      | inl e ↦
          ap (λ i. get_or (set read (k - 1) entry) i d) e
          ∙ get_or-set_same read (k - 1) entry d (omega (arith, so_far.long))
          ∙ is_entry ∙ ap (λ x. F.mul shift x) (so_far.next p)
          ∙ ap (λ i. F.mul shift (point_at i)) (sym e)
      | inr e ↦
          get_or-set_other read (k - 1) h entry d e ∙ so_far.done h d (omega (arith, m, e)) n
    ];
    next = λ q.
        let below : k - 1 ≡ suc (k - 1 - 1) = omega (arith, q) in
        is_square ∙ ap (λ x. F.mul x x) (so_far.next p ∙ ap point_at below)
        ∙ unshifted_next (k - 1 - 1) (omega (arith, q)) b;
  }
