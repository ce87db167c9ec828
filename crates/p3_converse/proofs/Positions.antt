-- The interleaved of polynomials that stand in vectors.
use Rattle.std.proofs.Common.{◌≡◌, ℕ, zero, suc, ◌+◌, ◌^◌, ◌<◌, List, [], ◌∷◌, ◌++◌, Vec, All, vec_len, length, get_or, take, subst, sym, ap, ap₂, ◌∙◌, arith, inl, inr}
use Rattle.std.proofs.Common.{length-append}
use Rattle.std.proofs.lemmas.List.{get_or_append_left, length-map, map-append, take_at, take_more}
use Rattle.std.proofs.Math.Seq.{get_or-append_seam}
use Rattle.std.proofs.lemmas.Bool.{cases_lt}
use Rattle.std.proofs.Math.Nat.{pow-le-pow_right}
use Rattle.algebra.specs.Field.{FieldOps}
use Rattle.algebra.specs.Polynomial.{tabulate}
use Rattle.algebra.proofs.Lists.{get_or-tabulate, length-tabulate}
use Rattle.p3_converse.specs.Positions.{coefficients_at}
use Rattle.algebra.specs.Nested.{lists}
use Rattle.p3_converse.specs.Unfolding.{common_length}

pub length-coefficients_at : {A : Type 0} (F : FieldOps A) (polys : List (List A)) (m : ℕ) → length (coefficients_at F polys m) ≡ length polys
length-coefficients_at F polys m = length-map polys (λ p. get_or p m F.zero)

pub common_length-first : {T Z : Type 0} (vectors : List (Vec T Z)) (v : Vec T Z) → 0 < length vectors → v ≡ get_or vectors 0 v → vec_len v ≡ common_length vectors
common_length-first [] v l e = absurd (omega (arith, l))
common_length-first (u ∷ us) v l e = ap (λ w. vec_len w) e

-- one polynomial more
pub coefficients_at-next : {T Z : Type 0} (F : FieldOps T) (vectors : List (Vec T Z)) (k m : ℕ) (v : Vec T Z) (x : T) → k < length vectors → v ≡ get_or vectors k v → x ≡ get_or v.items m F.zero
    → coefficients_at F (lists (take (k + 1) vectors)) m ≡ coefficients_at F (lists (take k vectors)) m ++ x ∷ []
coefficients_at-next F vectors k m v x l e ex =
    ap (λ vs. coefficients_at F (lists vs) m) (take_more vectors k v l ∙ ap (λ u. take k vectors ++ u ∷ []) (sym e))
    ∙ ap (λ ps. coefficients_at F ps m) (map-append (λ u. u.items) (take k vectors) (v ∷ []))
    ∙ map-append (λ p. get_or p m F.zero) (lists (take k vectors)) (v.items ∷ [])
    ∙ ap (λ y. coefficients_at F (lists (take k vectors)) m ++ y ∷ []) (sym ex)

pub log_small : (k : ℕ) → 2 ^ k < 2 ^ 64 → k < 64
log_small k l = elim (cases_lt k 64) [ inl b ↦ b | inr b ↦ absurd (omega (arith, l, pow-le-pow_right {n = 2} (omega arith) {i = 64} {j = k} b)) ]

-- vectors of one length, as lists
pub one_length-lists : {T Z : Type 0} (vectors : List (Vec T Z)) (d : ℕ) → All (λ v. vec_len v ≡ d) vectors → All (λ p. length p ≡ d) (lists vectors)
one_length-lists [] d h k e l = absurd (omega (arith, l))
one_length-lists (v ∷ vs) d h zero e l = sym v.ok.0 ∙ h 0 v (omega arith)
one_length-lists (v ∷ vs) d h (suc k) e l = one_length-lists vs d (λ j u m. h (suc j) u (omega (arith, m))) k e (omega (arith, l))

-- vectors that hold lists of one length
pub one_length-vectors : {T Z : Type 0} (vectors : List (Vec T Z)) (d : ℕ) → All (λ p. length p ≡ d) (lists vectors) → All (λ v. vec_len v ≡ d) vectors
one_length-vectors [] d h k e l = absurd (omega (arith, l))
one_length-vectors (v ∷ vs) d h zero e l = v.ok.0 ∙ h 0 v.items (omega arith)
one_length-vectors (v ∷ vs) d h (suc k) e l = one_length-vectors vs d (λ j p m. h (suc j) p (omega (arith, m))) k e (omega (arith, l))

-- a fact of each value of a function
pub all-tabulate : {A : Type 0} (P : A → Type 0) (n : ℕ) (f : ℕ → A) → ((s : ℕ) → P (f s)) → All P (tabulate n f)
all-tabulate P n f h k e l = subst P (sym (get_or-tabulate n f k e (omega (arith, l, length-tabulate n f)))) (h k)

-- of each but the last, and of the last
pub all-front : {A : Type 0} (P : A → Type 0) (xs : List A) (y : A) → All P (xs ++ y ∷ []) → All P xs
all-front P xs y h k e l = subst P (get_or_append_left xs (y ∷ []) e k l) (h k e (omega (arith, l, length-append xs (y ∷ []))))

-- a list, by its front of `n` and its last
pub front_and_last : {A : Type 0} (n : ℕ) (xs : List A) (y : A) (all : List A) (e : A) → length xs ≡ n → all ≡ xs ++ y ∷ [] → (xs ≡ take n all) × (y ≡ get_or all n e)
front_and_last n xs y all e count is = (
  sym (ap (λ ys. take n ys) is ∙ take_at xs (y ∷ []) n count),
  sym (ap₂ (λ ys k. get_or ys k e) is (sym count) ∙ get_or-append_seam xs y [] e),
)
