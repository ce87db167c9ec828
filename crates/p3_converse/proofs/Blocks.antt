-- Lists of one length, one after another, summed with the powers of a point.
use Rattle.std.proofs.Common.{◌≡◌, ℕ, zero, suc, ◌+◌, ◌-◌, ◌*◌, ◌<◌, List, [], ◌∷◌, ◌++◌, length, get_or, map, replicate}
use Rattle.std.proofs.Common.{refl, sym, ap, ap₂, ◌∙◌, arith}
use Rattle.std.proofs.lemmas.List.{take_at, drop_at, get_or-map, get_or_append_left, get_or-append_right}
use Rattle.algebra.specs.Field.{FieldOps, IsRing, pow}
use Rattle.algebra.specs.Polynomial.{val, tabulate}
use Rattle.algebra.specs.Lists.{add_lists}
use Rattle.algebra.proofs.Values.{val-nil, val-cons}
use Rattle.algebra.proofs.Lists.{tabulate-get_or, tabulate-equal, map-tabulate}
use Rattle.algebra.proofs.Blocks.{block_sum, val-blocks, val-block_sum}
use Rattle.p3_converse.specs.Positions.{concatenated, coefficients_at, interleaved}
use Rattle.p3_converse.proofs.Positions.{length-coefficients_at}
use Rattle.p3_converse.proofs.Concatenated.{length-concatenated}

-- an entry of the `m`-th list
pub get_or-concatenated : {A : Type 0} (n d m s : ℕ) (f : ℕ → List A) (e : A) → ((i : ℕ) → i < d → length (f i) ≡ n)
    → m < d → s < n → get_or (concatenated d f) (m * n + s) e ≡ get_or (f m) s e
get_or-concatenated n zero m s f e h l b = absurd (omega (arith, l))
get_or-concatenated n (suc d) zero s f e h l b =
    ap (λ k. get_or (f zero ++ concatenated d (λ i. f (suc i))) k e) (let none : 0 * n + s ≡ s = omega arith in none)
    ∙ get_or_append_left (f zero) (concatenated d (λ i. f (suc i))) e s (omega (arith, b, h zero (omega arith)))
get_or-concatenated n (suc d) (suc m) s f e h l b =
    get_or-append_right (f zero) (concatenated d (λ i. f (suc i))) n (suc m * n + s) e (h zero (omega arith)) (omega arith)
    ∙ ap (λ k. get_or (concatenated d (λ i. f (suc i))) k e) (let less : (suc m * n + s) - n ≡ m * n + s = omega arith in less)
    ∙ get_or-concatenated n d m s (λ i. f (suc i)) e (λ i k. h (suc i) (omega (arith, k))) (omega (arith, l)) b

-- a list's values by its places
pub map-places : {A B : Type 0} (g : A → B) (xs : List A) (d : A) → map g xs ≡ tabulate (length xs) (λ s. g (get_or xs s d))
map-places g [] d = refl
map-places g (x ∷ xs) d = ap (λ ys. g x ∷ ys) (map-places g xs d)

module _ {A : Type 0} (F : FieldOps A) (R : IsRing F) where
  infixl 65 ◌⊕◌
  infixl 70 ◌⊗◌
  open F use {zero as 𝟘, add as ◌⊕◌, mul as ◌⊗◌}

  add_lists-tabulate : (n : ℕ) (f g : ℕ → A) → add_lists F (tabulate n f) (tabulate n g) ≡ tabulate n (λ i. f i ⊕ g i)
  add_lists-tabulate zero f g = refl
  add_lists-tabulate (suc n) f g = ap (λ xs. (f zero ⊕ g zero) ∷ xs) (add_lists-tabulate n (λ i. f (suc i)) (λ i. g (suc i)))

  zeros-tabulate : (n : ℕ) (f : ℕ → A) → ((s : ℕ) → f s ≡ 𝟘) → replicate n 𝟘 ≡ tabulate n f
  zeros-tabulate zero f h = refl
  zeros-tabulate (suc n) f h = ap₂ (λ x xs. x ∷ xs) (sym (h zero)) (zeros-tabulate n (λ i. f (suc i)) (λ s. h (suc s)))

  -- what the lists have at place `s`, as coefficients
  abbrev pub across : (d : ℕ) (f : ℕ → List A) (s : ℕ) → List A
  across d f s = tabulate d (λ m. get_or (f m) s 𝟘)

  -- the sum has at place `s` the value of the coefficients at that place
  pub block_sum-concatenated : (n d : ℕ) (f : ℕ → List A) (x : A) → ((m : ℕ) → m < d → length (f m) ≡ n)
      → block_sum F n d (concatenated d f) x ≡ tabulate n (λ s. val F (across d f s) x)
  block_sum-concatenated n zero f x h = zeros-tabulate n (λ s. val F [] x) (λ s. val-nil F R x)
  block_sum-concatenated n (suc d) f x h =
      let later : ℕ → List A = λ m. f (suc m) in
      let first : ℕ → A = λ s. get_or (f zero) s 𝟘 in
      ap₂ (λ us vs. add_lists F us (map (λ a. x ⊗ a) (block_sum F n d vs x)))
      (take_at (f zero) (concatenated d later) n (h zero (omega arith)) ∙ sym (tabulate-get_or n (f zero) 𝟘 (h zero (omega arith))))
      (drop_at (f zero) (concatenated d later) n (h zero (omega arith)))
      ∙ ap (λ vs. add_lists F (tabulate n first) (map (λ a. x ⊗ a) vs)) (block_sum-concatenated n d later x (λ m l. h (suc m) (omega (arith, l))))
      ∙ ap (λ vs. add_lists F (tabulate n first) vs) (map-tabulate (λ a. x ⊗ a) n (λ s. val F (across d later s) x))
      ∙ add_lists-tabulate n first (λ s. x ⊗ val F (across d later s) x)
      ∙ tabulate-equal n (λ s. first s ⊕ x ⊗ val F (across d later s) x) (λ s. val F (across (suc d) f s) x) (λ s l. sym (val-cons F R (first s) (across d later s) x))

  -- of polynomials position by position it has their values
  pub block_sum-interleaved : (d : ℕ) (polys : List (List A)) (x : A) → ((s : ℕ) (e : List A) → s < length polys → length (get_or polys s e) ≡ d)
      → block_sum F (length polys) d (interleaved F polys d) x ≡ map (λ p. val F p x) polys
  block_sum-interleaved d polys x h =
      block_sum-concatenated (length polys) d (coefficients_at F polys) x (λ m l. length-coefficients_at F polys m)
      ∙ tabulate-equal (length polys) (λ s. val F (across d (coefficients_at F polys) s) x) (λ s. val F (get_or polys s []) x)
      (λ s l. ap (λ c. val F c x)
      (tabulate-equal d (λ m. get_or (coefficients_at F polys m) s 𝟘) (λ m. get_or (get_or polys s []) m 𝟘) (λ m _. get_or-map (λ p. get_or p m 𝟘) polys s [] 𝟘 l)
      ∙ tabulate-get_or d (get_or polys s []) 𝟘 (h s [] l)))
      ∙ sym (map-places (λ p. val F p x) polys [])

  -- so the one polynomial with these coefficients has at `z` the value at `z` of theirs at `z^n`
  pub val-interleaved : (n d : ℕ) (polys : List (List A)) (z : A) → length polys ≡ n → ((s : ℕ) (e : List A) → s < length polys → length (get_or polys s e) ≡ d)
      → val F (interleaved F polys d) z ≡ val F (map (λ p. val F p (pow F z n)) polys) z
  val-interleaved n d polys z e h =
      val-blocks F R n d (interleaved F polys d) z size
      ∙ sym (val-block_sum F R n d (interleaved F polys d) (pow F z n) z size)
      ∙ ap (λ c. val F c z) (ap (λ m. block_sum F m d (interleaved F polys d) (pow F z n)) (sym e) ∙ block_sum-interleaved d polys (pow F z n) h)
    where
      size : length (interleaved F polys d) ≡ d * n
      size = length-concatenated n d (coefficients_at F polys) (λ m _. length-coefficients_at F polys m ∙ e)
