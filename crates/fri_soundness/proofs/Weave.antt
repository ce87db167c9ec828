-- `n` polynomials `p_j` woven into the one `sum_j X^j p_j(X^n)`.
use Rattle.std.proofs.Common.{◌≡◌, ℕ, zero, suc, ◌*◌, List, [], ◌∷◌, ◌++◌, length, map, refl, sym, ap, ap₂, ◌∙◌, arith}
use Rattle.std.proofs.Common.{length-append}
use Rattle.std.proofs.lemmas.List.{length-map}
use Rattle.algebra.specs.Field.{FieldOps, IsRing, pow}
use Rattle.algebra.specs.Polynomial.{val}
use Rattle.algebra.proofs.Ring.{◌:+◌, ◌:*◌, ◌:=◌, ring, o}
use Rattle.algebra.proofs.Values.{val-nil, val-cons, val-append}
use Rattle.algebra.proofs.Lists.{Each}

module _ {A : Type 0} (F : FieldOps A) where
  abbrev pub first : List A → A
  first [] = F.zero
  first (a ∷ p) = a

  abbrev pub later : List A → List A
  later [] = []
  later (a ∷ p) = p

  -- their coefficients of one power after another
  abbrev pub weave : ℕ → List (List A) → List A
  weave zero ps = []
  weave (suc k) ps = map first ps ++ weave k (map later ps)

  pub length-weave : (k : ℕ) (ps : List (List A)) → length (weave k ps) ≡ k * length ps
  length-weave zero ps = let z : 0 ≡ 0 * length ps = omega arith in z
  length-weave (suc k) ps = omega (
    arith,
    length-append (map first ps) (weave k (map later ps)),
    length-map ps first,
    length-weave k (map later ps),
    ap (λ n. k * n) (length-map ps later),
  )

  each-later : (k : ℕ) (ps : List (List A)) → Each (λ p. length p ≡ suc k) ps → Each (λ p. length p ≡ k) (map later ps)
  each-later k [] h = tt
  each-later k ([] ∷ ps) h = absurd (omega (arith, h.0))
  each-later k ((a ∷ p) ∷ ps) h = (omega (arith, h.0), each-later k ps h.1)

module _ {A : Type 0} (F : FieldOps A) (R : IsRing F) where
  open F use {zero as 𝟘, add as ◌⊕◌, mul as ◌⊗◌}

  infixl 65 ◌⊕◌
  infixl 70 ◌⊗◌
  none : (z y : A) (ps : List (List A)) → Each (λ p. length p ≡ 0) ps → val F (map (λ p. val F p y) ps) z ≡ 𝟘
  none z y [] h = val-nil F R z
  none z y ([] ∷ ps) h = val-cons F R (val F [] y) (map (λ p. val F p y) ps) z ∙ ap₂ (λ a b. a ⊕ z ⊗ b) (val-nil F R y) (none z y ps h.1)
      ∙ ring F R 1 (λ z. o :+ z :* o := o) refl z
  none z y ((a ∷ p) ∷ ps) h = absurd (omega (arith, h.0))

  parted : (k : ℕ) (z y : A) (ps : List (List A)) → Each (λ p. length p ≡ suc k) ps
      → val F (map (λ p. val F p y) ps) z ≡ val F (map (first F) ps) z ⊕ y ⊗ val F (map (λ p. val F p y) (map (later F) ps)) z
  parted k z y [] h = rw (val-nil F R z) (ring F R 1 (λ y. o := o :+ y :* o) refl y)
  parted k z y ([] ∷ ps) h = absurd (omega (arith, h.0))
  parted k z y ((a ∷ p) ∷ ps) h =
      rw (
        val-cons F R (val F (a ∷ p) y) (map (λ p. val F p y) ps) z,
        val-cons F R a p y,
        parted k z y ps h.1,
        val-cons F R a (map (first F) ps) z,
        val-cons F R (val F p y) (map (λ p. val F p y) (map (later F) ps)) z,
      )
      (ring F R 6 (λ a y v z s t. a :+ y :* v :+ z :* (s :+ y :* t) := a :+ z :* s :+ y :* (v :+ z :* t)) refl a y (val F p y) z
      (val F (map (first F) ps) z) (val F (map (λ p. val F p y) (map (later F) ps)) z))

  pub val-weave : (k n : ℕ) (ps : List (List A)) (z : A) → length ps ≡ n → Each (λ p. length p ≡ k) ps
      → val F (weave F k ps) z ≡ val F (map (λ p. val F p (pow F z n)) ps) z
  val-weave zero n ps z e h = val-nil F R z ∙ sym (none z (pow F z n) ps h)
  val-weave (suc k) n ps z e h =
      val-append F R (map (first F) ps) (weave F k (map (later F) ps)) z
      ∙ ap₂ (λ m v. val F (map (first F) ps) z ⊕ pow F z m ⊗ v) (length-map ps (first F) ∙ e)
      (val-weave k n (map (later F) ps) z (length-map ps (later F) ∙ e) (each-later F k ps h))
      ∙ sym (parted k z (pow F z n) ps h)
