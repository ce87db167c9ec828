-- Sums of columns, one row more at a time.
use Rattle.std.proofs.Common.{◌≡◌, ℕ, ◌+◌, ◌-◌, ◌*◌, ◌≤◌, ◌<◌, List, length, take, drop, get_or, set, sym, ap, ap₂, ◌∙◌, arith}
use Rattle.std.proofs.lemmas.List.{get_or-take, get_or-drop, get_or_default, get_or-set_other}
use Rattle.std.proofs.lemmas.List.Edits.{fill_by_more}
use Rattle.std.proofs.Math.Nat.{mul-le-mul_right}
use Rattle.algebra.specs.Field.{FieldOps, IsRing}
use Rattle.algebra.specs.Polynomial.{sum_below}
use Rattle.algebra.proofs.Reduction.{sum_below-append}
use Rattle.p3_field_core.specs.RowSums.{column_term}
use Rattle.p3_field_core.proofs.TermSums.{sum_next}

module _ {X : Type 0} where
  -- one more is written
  pub written : (f : ℕ → X) (xs : List X) (i : ℕ) (v d : X) → i < length xs → v ≡ f i
      → ((k : ℕ) → k < i → get_or xs k d ≡ f k) → (k : ℕ) → k < i + 1 → get_or (set xs i v) k d ≡ f k
  written f xs i v d h e below k l = rw e (fill_by_more f xs i d h below k l)

  -- and those after it are as they were
  pub unwritten : (xs : List X) (x : X) (i : ℕ) (v d : X) (k : ℕ) → i + 1 ≤ k
      → get_or xs k d ≡ x → get_or (set xs i v) k d ≡ x
  unwritten xs x i v d k l e = get_or-set_other xs i k v d (λ same. omega (arith, l, same)) ∙ e

-- a sum with one term more
pub gained : {A : Type 0} (F : FieldOps A) → IsRing F → (n : ℕ) (f : ℕ → A) (s o t : A)
    → s ≡ F.add o (sum_below F n f) → t ≡ f n → F.add s t ≡ F.add o (sum_below F (n + 1) f)
gained F R n f s o t e h =
    ap (λ a. F.add a t) e ∙ R.add_assoc o (sum_below F n f) t
    ∙ ap (λ a. F.add o a) (ap (λ b. F.add (sum_below F n f) b) h ∙ sym (sum_next F R n f))

-- a sum that gains the terms of one part and then those of another
pub two_parts : {A : Type 0} (F : FieldOps A) → IsRing F → (s n m : ℕ) (f : ℕ → A) (old here new : A)
    → s + n ≡ m → here ≡ F.add old (sum_below F s f)
    → new ≡ F.add here (sum_below F n (λ i. f (s + i))) → new ≡ F.add old (sum_below F m f)
two_parts F R s n m f old here new all e h =
    h ∙ ap (λ t. F.add t (sum_below F n (λ i. f (s + i)))) e
    ∙ R.add_assoc old (sum_below F s f) (sum_below F n (λ i. f (s + i)))
    ∙ ap (λ t. F.add old t) (sym (sum_below-append F R s n f) ∙ ap (λ k. sum_below F k f) all)

-- `i` is one of `n` rows of `w` entries
pub row_within : (n i w long : ℕ) → long ≡ n * w → i < n → (i + 1) * w ≤ long
row_within n i w long e l = omega (arith, e, mul-le-mul_right w (let o : i + 1 ≤ n = omega (arith, l) in o))

-- what was read at `j` in row `i`
pub row_item : {X : Type 0} (xs : List X) (w i j : ℕ) (x d : X) → j < w → (i + 1) * w ≤ length xs
    → x ≡ get_or (take ((i + 1) * w - i * w) (drop (i * w) xs)) j x → x ≡ get_or xs (i * w + j) d
row_item xs w i j x d l long e =
    e ∙ get_or-take ((i + 1) * w - i * w) (drop (i * w) xs) j x (omega (arith, l))
    ∙ get_or-drop (i * w) xs j x ∙ get_or_default xs (i * w + j) x d (omega (arith, l, long))

-- the term of row `i`, by what was read of it
pub term_is : {A E : Type 0} (F : FieldOps A) (K : FieldOps E) (lift : A → E) (w : ℕ)
    (weights : List E) (rows : List A) (j i : ℕ) (p weight : E) (entry : A)
    → p ≡ K.mul weight (lift entry) → weight ≡ get_or weights i K.zero
    → entry ≡ get_or rows (i * w + j) F.zero → p ≡ column_term F K lift w weights rows j i
term_is F K lift w weights rows j i p weight entry e f g = e ∙ ap₂ (λ a b. K.mul a (lift b)) f g
