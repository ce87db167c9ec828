-- A polynomial by blocks of `n` coefficients: its value at `x` is that, at `x^n`, of the polynomial
-- of the blocks' values at `x`; and the blocks summed with the powers of `z` have at `x` that
-- polynomial's value at `z`.
use Rattle.std.proofs.Common.{◌≡◌, ℕ, zero, suc, ◌*◌, ◌≤◌, List, [], ◌∷◌, length, map, take, drop}
use Rattle.std.proofs.Common.{replicate, refl, sym, ap, ap₂, ◌∙◌, arith, length-drop}
use Rattle.std.proofs.lemmas.List.{take-append-drop, length-take-le, length-map, length-replicate}
use Rattle.algebra.specs.Field.{FieldOps, IsRing, pow}
use Rattle.algebra.specs.Polynomial.{val}
use Rattle.algebra.specs.Lists.{add_lists}
use Rattle.algebra.proofs.Values.{length-add_lists, val-nil, val-cons, val-append}
use Rattle.algebra.proofs.Values.{val-add, val-scale, val-zeros}
use Rattle.algebra.proofs.Lists.{Each}

module _ {A : Type 0} (F : FieldOps A) (n : ℕ) where
  infixl 65 ◌⊕◌
  infixl 70 ◌⊗◌
  open F use {zero as 𝟘, add as ◌⊕◌, mul as ◌⊗◌}

  -- the values at `x` of the first `d` blocks
  abbrev pub block_values : (d : ℕ) (c : List A) (x : A) → List A
  block_values zero c x = []
  block_values (suc d) c x = val F (take n c) x ∷ block_values d (drop n c) x

  -- the sum of the first `d` blocks, each times its power of `z`
  abbrev pub block_sum : (d : ℕ) (c : List A) (z : A) → List A
  block_sum zero c z = replicate n 𝟘
  block_sum (suc d) c z = add_lists F (take n c) (map (λ a. z ⊗ a) (block_sum d (drop n c) z))

  pub length-block_values : (d : ℕ) (c : List A) (x : A) → length (block_values d c x) ≡ d
  length-block_values zero c x = refl
  length-block_values (suc d) c x = ap suc (length-block_values d (drop n c) x)

module _ {A : Type 0} (F : FieldOps A) (R : IsRing F) (n : ℕ) where
  infixl 65 ◌⊕◌
  infixl 70 ◌⊗◌
  open F use {zero as 𝟘, add as ◌⊕◌, mul as ◌⊗◌}

  enough : (d : ℕ) (c : List A) → length c ≡ suc d * n → n ≤ length c
  enough d c e = omega (arith, e)

  rest : (d : ℕ) (c : List A) → length c ≡ suc d * n → length (drop n c) ≡ d * n
  rest d c e = omega (arith, length-drop n c, e)

  pub length-block_sum : (d : ℕ) (c : List A) (z : A) → length c ≡ d * n → length (block_sum F n d c z) ≡ n
  length-block_sum zero c z e = length-replicate n 𝟘
  length-block_sum (suc d) c z e =
      length-add_lists F (take n c) (map (λ a. z ⊗ a) (block_sum F n d (drop n c) z))
      (length-take-le n c (enough d c e) ∙ sym (length-map (block_sum F n d (drop n c) z) (λ a. z ⊗ a) ∙ length-block_sum d (drop n c) z (rest d c e)))
      ∙ length-take-le n c (enough d c e)

  pub val-blocks : (d : ℕ) (c : List A) (x : A) → length c ≡ d * n → val F c x ≡ val F (block_values F n d c x) (pow F x n)
  val-blocks zero [] x e = val-nil F R x ∙ sym (val-nil F R (pow F x n))
  val-blocks zero (a ∷ c) x e = absurd (omega (arith, e))
  val-blocks (suc d) c x e =
      ap (λ t. val F t x) (sym (take-append-drop n c))
      ∙ val-append F R (take n c) (drop n c) x
      ∙ ap₂ (λ m v. val F (take n c) x ⊕ pow F x m ⊗ v) (length-take-le n c (enough d c e)) (val-blocks d (drop n c) x (rest d c e))
      ∙ sym (val-cons F R (val F (take n c) x) (block_values F n d (drop n c) x) (pow F x n))

  pub val-block_sum : (d : ℕ) (c : List A) (z x : A) → length c ≡ d * n → val F (block_sum F n d c z) x ≡ val F (block_values F n d c x) z
  val-block_sum zero c z x e = val-zeros F R (replicate n 𝟘) x (zeros n) ∙ sym (val-nil F R z)
    where
      zeros : (m : ℕ) → Each (λ a. a ≡ 𝟘) (replicate m 𝟘)
      zeros zero = tt
      zeros (suc m) = (refl, zeros m)
  val-block_sum (suc d) c z x e =
      val-add F R (take n c) (map (λ a. z ⊗ a) (block_sum F n d (drop n c) z)) x
      (length-take-le n c (enough d c e) ∙ sym (length-map (block_sum F n d (drop n c) z) (λ a. z ⊗ a) ∙ length-block_sum d (drop n c) z (rest d c e)))
      ∙ ap (λ v. val F (take n c) x ⊕ v) (val-scale F R z (block_sum F n d (drop n c) z) x ∙ ap (λ v. z ⊗ v) (val-block_sum d (drop n c) z x (rest d c e)))
      ∙ sym (val-cons F R (val F (take n c) x) (block_values F n d (drop n c) x) z)
