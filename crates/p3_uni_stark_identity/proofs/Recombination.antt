-- Products over all chunks but one, and the quotient by recombined columns.
use Rattle.std.proofs.Common.{◌≡◌, ◌≢◌, ℕ, zero, suc, ◌+◌, ◌<◌, ◌==◌, cond, List, [], length, map}
use Rattle.std.proofs.Common.{get_or, All, inl, inr, refl, sym, ap, ap₂, subst, ◌∙◌, arith, add-one}
use Rattle.std.proofs.lemmas.Bool.Decides.{eqb_tells}
use Rattle.std.specs.declared.vec.Vec.{Vec}
use Rattle.algebra.specs.Field.{FieldOps, IsRing}
use Rattle.algebra.specs.Polynomial.{tabulate, sum_below}
use Rattle.algebra.specs.Cosets.{vanishing}
use Rattle.algebra.specs.RecombinedQuotients.{product_below, product_but, chunk_factor, recombined}
use Rattle.algebra.specs.RecombinedQuotients.{recombined_columns}
use Rattle.algebra.proofs.RingLaws.{one_mul}
use Rattle.algebra.specs.Nested.{lists}
use Rattle.algebra.proofs.Nested.{length-lists, lists_at}
use Rattle.algebra.proofs.Lists.{get_or-tabulate, length-tabulate}
use Rattle.algebra.proofs.PolynomialProduct.{sum_below-equal}
use Rattle.p3_field_core.specs.Basis.{unit_vector}
use Rattle.p3_uni_stark_identity.specs.Chunks.{quotient_at}

module _ {A : Type 0} (F : FieldOps A) (R : IsRing F) where
  infixl 70 ◌⊗◌
  open F use {zero as 𝟘, one as 𝟙, mul as ◌⊗◌}

  pub below-next : (n : ℕ) (f : ℕ → A) → product_below F (n + 1) f ≡ product_below F n f ⊗ f n
  below-next zero f = R.mul_one (f zero) ∙ sym (one_mul F R (f zero))
  below-next (suc n) f =
      rw add-one (ap (λ p. f zero ⊗ p) (rw add-one at (below-next n (λ i. f (suc i))))
      ∙ sym (R.mul_assoc (f zero) (product_below F n (λ i. f (suc i))) (f (suc n))))

  -- one factor more
  pub factor_next : (n : ℕ) (f : ℕ → A) (a b r : A) → a ≡ product_below F n f → b ≡ f n
      → r ≡ a ⊗ b → r ≡ product_below F (n + 1) f
  factor_next n f a b r e h is = is ∙ ap₂ (λ x y. x ⊗ y) e h ∙ sym (below-next n f)

  below-same : (n : ℕ) (f g : ℕ → A) → ((i : ℕ) → i < n → f i ≡ g i)
      → product_below F n f ≡ product_below F n g
  below-same zero f g h = refl
  below-same (suc n) f g h =
      ap₂ (λ a b. a ⊗ b) (h zero (omega arith))
      (below-same n (λ i. f (suc i)) (λ i. g (suc i)) (λ i l. h (suc i) (omega (arith, l))))

  -- a factor, or one in its place
  pub here : (i j : ℕ) (x : A) → j ≡ i → cond (j == i) 𝟙 x ≡ 𝟙
  here i j x e = elim (eqb_tells j i) [
    | inl y ↦ ap (λ b. cond b 𝟙 x) y.0
    | inr y ↦ absurd (y.1 e)
  ]

  pub elsewhere : (i j : ℕ) (x : A) → j ≢ i → cond (j == i) 𝟙 x ≡ x
  elsewhere i j x n = elim (eqb_tells j i) [
    | inl y ↦ absurd (n y.1)
    | inr y ↦ ap (λ b. cond b 𝟙 x) y.0
  ]

  either : (i j k l : ℕ) (x : A) → (j ≡ i → l ≡ k) → (l ≡ k → j ≡ i)
      → cond (j == i) 𝟙 x ≡ cond (l == k) 𝟙 x
  either i j k l x f g = elim (eqb_tells j i) [
    | inl y ↦ here i j x y.1 ∙ sym (here k l x (f y.1))
    | inr y ↦ elsewhere i j x y.1 ∙ sym (elsewhere k l x (λ e. y.1 (g e)))
  ]

  -- the product over all but one is that with a one in its place
  pub but_one : (n i : ℕ) (f : ℕ → A)
      → product_below F n (λ j. cond (j == i) 𝟙 (f j)) ≡ product_but F n i f
  but_one zero i f = refl
  but_one (suc n) zero f =
      ap₂ (λ a b. a ⊗ b) (here 0 0 (f 0) refl)
      (below-same n (λ j. cond (suc j == 0) 𝟙 (f (suc j))) (λ j. f (suc j))
      (λ j l. elsewhere 0 (suc j) (f (suc j)) (λ e. omega (arith, e))))
      ∙ one_mul F R (product_below F n (λ j. f (suc j)))
  but_one (suc n) (suc i) f =
      ap₂ (λ a b. a ⊗ b) (elsewhere (suc i) 0 (f 0) (λ e. omega (arith, e)))
      (below-same n (λ j. cond (suc j == suc i) 𝟙 (f (suc j))) (λ j. cond (j == i) 𝟙 (f (suc j)))
      (λ j l. either (suc i) (suc j) i j (f (suc j)) (λ e. omega (arith, e)) (λ e. omega (arith, e)))
      ∙ but_one n i (λ j. f (suc j)))

  -- of factors that are these
  pub but_one_of : (n i : ℕ) (f g : ℕ → A) → ((j : ℕ) → j < n → f j ≡ g j)
      → product_below F n (λ j. cond (j == i) 𝟙 (f j)) ≡ product_but F n i g
  but_one_of n i f g h =
      below-same n (λ j. cond (j == i) 𝟙 (f j)) (λ j. cond (j == i) 𝟙 (g j))
      (λ j l. ap (λ x. cond (j == i) 𝟙 x) (h j l))
      ∙ but_one n i g

  but_same : (n i : ℕ) (f g : ℕ → A) → ((j : ℕ) → j < n → f j ≡ g j)
      → product_but F n i f ≡ product_but F n i g
  but_same n i f g h = sym (but_one n i f) ∙ but_one_of n i f g h

  -- recombined quotients of equal shifts and values
  pub recombined_same : (n k : ℕ) (s s' v v' : ℕ → A) (z : A) → ((i : ℕ) → i < n → s i ≡ s' i)
      → ((i : ℕ) → i < n → v i ≡ v' i) → recombined F n k s v z ≡ recombined F n k s' v' z
  unfolding recombined
  recombined_same n k s s' v v' z e h =
      sum_below-equal F n (λ i. v i ⊗ chunk_factor F n k s i z)
      (λ i. v' i ⊗ chunk_factor F n k s' i z)
      (λ i l. ap₂ (λ a b. a ⊗ b) (h i l)
      (but_same n i (λ j. vanishing F (s j) k z ⊗ F.inv (vanishing F (s j) k (s i)))
      (λ j. vanishing F (s' j) k z ⊗ F.inv (vanishing F (s' j) k (s' i)))
      (λ j m. ap₂ (λ a b. vanishing F a k z ⊗ F.inv (vanishing F a k b)) (e j m) (e i l))))

-- the factor of a chunk, by the values of vanishing polynomials over `m` domains of sizes that are
-- all `2^k`
module _ {E : Type 0} (K : FieldOps E) (R : IsRing K) (m k : ℕ) (s : ℕ → E) (sizes : List ℕ)
    (one_size : All (λ n. n ≡ k) sizes) (many : length sizes ≡ m) where
  pub factor_is : (i : ℕ) (z : E) (values : List E)
      → values ≡ tabulate m (λ j. vanishing K (s j) (get_or sizes j 0) z)
      → product_below K m (λ j. cond (j == i) K.one
      (K.mul (get_or values j K.zero) (K.inv (vanishing K (s j) k (s i)))))
      ≡ chunk_factor K m k s i z
  factor_is i z values are = but_one_of K R m i
      (λ j. K.mul (get_or values j K.zero) (K.inv (vanishing K (s j) k (s i))))
      (λ j. K.mul (vanishing K (s j) k z) (K.inv (vanishing K (s j) k (s i))))
      (λ j l. ap (λ v. K.mul v (K.inv (vanishing K (s j) k (s i))))
      (ap (λ xs. get_or xs j K.zero) are
      ∙ get_or-tabulate m (λ j. vanishing K (s j) (get_or sizes j 0) z) j K.zero l
      ∙ ap (λ n. vanishing K (s j) n z) (one_size j 0 (omega (arith, l, many)))))

-- the factor of the chunk at an index
abbrev pub chunk_factor_at : {E : Type 0} (K : FieldOps E) (k : ℕ) (shifts : List E) (z : E) (m : ℕ)
    → ℕ → E
chunk_factor_at K k shifts z m i = chunk_factor K m k (λ j. get_or shifts j K.zero) i z

-- the quotient, by columns that are recombined by factors
module _ {E : Type 0} (K : FieldOps E) (d : ℕ) (basis : ℕ → E) (k : ℕ) (shifts : List E)
    (rows : List (List E)) (z : E) (m : ℕ) (as_many : length shifts ≡ m)
    (rows_many : length rows ≡ m) (some : 0 < m) (widths : All (λ v. length v ≡ d) rows)
    (factors : List E) (are : factors ≡ tabulate m (chunk_factor_at K k shifts z m)) where
  abbrev term : ℕ → ℕ → E
  term e i = K.mul (get_or (get_or rows i []) e K.zero) (get_or factors i K.zero)

  column_is : (n : ℕ) → n ≡ m → (e : ℕ) → e < d
      → sum_below K n (term e) ≡ get_or (recombined_columns K k shifts rows z) e K.zero
  unfolding recombined
  column_is n same e l =
      sum_below-equal K n (term e)
      (λ i. K.mul (get_or (get_or rows i []) e K.zero) (chunk_factor_at K k shifts z m i))
      (λ i b. ap (λ f. K.mul (get_or (get_or rows i []) e K.zero) f)
      (ap (λ fs. get_or fs i K.zero) are
      ∙ get_or-tabulate m (chunk_factor_at K k shifts z m) i K.zero (omega (arith, b, same))))
      ∙ ap₂ (λ a b. sum_below K a (λ i. K.mul (get_or (get_or rows i []) e K.zero)
      (chunk_factor_at K k shifts z b i))) (same ∙ sym as_many) (sym as_many)
      ∙ sym (get_or-tabulate (length (get_or rows 0 []))
      (λ j. recombined K (length shifts) k (λ i. get_or shifts i K.zero)
      (λ i. get_or (get_or rows i []) j K.zero) z) e K.zero
      (omega (arith, l, widths 0 [] (omega (arith, rows_many, some)))))

  pub quotient_is : (n : ℕ) → n ≡ m
      → sum_below K d (λ e. K.mul (basis e) (sum_below K n (λ i. K.mul
      (get_or (get_or rows i []) e K.zero) (get_or factors i K.zero))))
      ≡ quotient_at K d basis k shifts rows z
  quotient_is n same = sum_below-equal K d (λ e. K.mul (basis e) (sum_below K n (term e)))
      (λ e. K.mul (basis e) (get_or (recombined_columns K k shifts rows z) e K.zero))
      (λ e l. ap (λ x. K.mul (basis e) x) (column_is n same e l))

-- values in a column of chunks that were read
module _ {T B : Type 0} (chunks : List (Vec T B)) (i : ℕ) (v : Vec T B) (l : i < length chunks)
    (is : v ≡ get_or chunks i v) where
  chunk_is : get_or (lists chunks) i [] ≡ v.items
  chunk_is = lists_at chunks i v l ∙ ap (λ (x : Vec T B). x.items) (sym is)

  pub column_there : (values : List T) (n : ℕ) → values ≡ v.items
      → All (λ xs. n < length xs) (lists chunks) → n < length values
  column_there values n same widths =
      subst (λ xs. n < length xs) (chunk_is ∙ sym same)
      (widths i [] (omega (arith, l, length-lists chunks)))

  pub value_is : (values : List T) (n : ℕ) (d : T) → values ≡ v.items
      → get_or values n d ≡ get_or (get_or (lists chunks) i []) n d
  value_is values n d same = ap (λ xs. get_or xs n d) (same ∙ sym chunk_is)

-- an element of the basis, by its coefficients
module _ {A E : Type 0} (F : FieldOps A) (n : ℕ) (coefficients : E → List A)
    (of_coefficients : List A → E)
    (these : (xs : List A) → length xs ≡ n → coefficients (of_coefficients xs) ≡ xs)
    (injective : (x y : E) → coefficients x ≡ coefficients y → x ≡ y) where
  pub basis_element : (i : ℕ) (x : E) → coefficients x ≡ unit_vector F n i
      → x ≡ of_coefficients (unit_vector F n i)
  basis_element i x e = injective x (of_coefficients (unit_vector F n i))
      (e ∙ sym (these (unit_vector F n i)
      (length-tabulate n (λ k. cond (k == i) F.one F.zero))))
