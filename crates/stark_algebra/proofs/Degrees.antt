-- What keeps degrees of polynomials below a bound.
use Rattle.std.proofs.Common.{◌≡◌, ℕ, zero, suc, ◌+◌, ◌-◌, ◌≤◌, List, [], ◌∷◌, ◌++◌, length, map}
use Rattle.std.proofs.Common.{replicate, refl, sym, ap, ap₂, ◌∙◌, arith, length-append}
use Rattle.std.proofs.lemmas.List.{length-map, length-replicate}
use Rattle.algebra.specs.Field.{FieldOps, IsRing, IsField, sub, pow}
use Rattle.algebra.specs.Lists.{add_lists}
use Rattle.algebra.specs.Polynomial.{val}
use Rattle.algebra.proofs.Ring.{◌:+◌, ◌:*◌, ◌:=◌, ring, :1, minus}
use Rattle.algebra.proofs.RingLaws.{one_mul, zero_mul}
use Rattle.algebra.proofs.Combine.{sub-eq, sub-self}
use Rattle.algebra.proofs.Powers.{pow-zero, pow-suc_is}
use Rattle.algebra.proofs.Lists.{Each, Distinct}
use Rattle.algebra.proofs.Values.{stretched, length-add_lists, val-nil, val-cons, val-one}
use Rattle.algebra.proofs.Values.{val-padded, val-shift, val-scale, val-stretched, val-add}
use Rattle.algebra.proofs.CosetWords.{length-stretched}
use Rattle.algebra.proofs.Roots.{zero_everywhere}
use Rattle.stark_algebra.specs.Degrees.{HasDegreeBelow}

module _ {A : Type 0} (F : FieldOps A) (R : IsRing F) where
  infixl 65 ◌⊕◌
  infixl 70 ◌⊗◌
  open F use {zero as 𝟘, one as 𝟙, add as ◌⊕◌, mul as ◌⊗◌, neg}

  pub degree-same : {d : ℕ} (f g : A → A) → ((x : A) → g x ≡ f x) → HasDegreeBelow F d f
      → HasDegreeBelow F d g
  degree-same f g same h = record {
    polynomial = h.polynomial;
    degree = h.degree;
    values = λ x. same x ∙ h.values x;
  }

  pub degree-more : (d e : ℕ) (f : A → A) → d ≤ e → HasDegreeBelow F d f → HasDegreeBelow F e f
  degree-more d e f l h = record {
    polynomial = h.polynomial ++ replicate (e - d) 𝟘;
    degree = length-append h.polynomial (replicate (e - d) 𝟘)
        ∙ ap₂ (λ m n. m + n) h.degree (length-replicate (e - d) 𝟘)
        ∙ omega (arith, l);
    values = λ x. h.values x ∙ sym (val-padded F R h.polynomial (e - d) x);
  }

  pub degree-constant : (a : A) → HasDegreeBelow F 1 (λ _. a)
  degree-constant a = record {
    polynomial = a ∷ [];
    degree = refl;
    values = λ x. sym (val-one F R a x);
  }

  pub degree-zero : (d : ℕ) → HasDegreeBelow F d (λ _. 𝟘)
  degree-zero d = degree-more 0 d (λ _. 𝟘) (omega arith)
      (record { polynomial = []; degree = refl; values = λ x. sym (val-nil F R x) })

  pub degree-add : (d : ℕ) (f g : A → A) → HasDegreeBelow F d f → HasDegreeBelow F d g
      → HasDegreeBelow F d (λ x. f x ⊕ g x)
  degree-add d f g h k = record {
    polynomial = add_lists F h.polynomial k.polynomial;
    degree = length-add_lists F h.polynomial k.polynomial (h.degree ∙ sym k.degree) ∙ h.degree;
    values = λ x. ap₂ (λ a b. a ⊕ b) (h.values x) (k.values x)
        ∙ sym (val-add F R h.polynomial k.polynomial x (h.degree ∙ sym k.degree));
  }

  pub degree-scale : (d : ℕ) (k : A) (f : A → A) → HasDegreeBelow F d f
      → HasDegreeBelow F d (λ x. k ⊗ f x)
  degree-scale d k f h = record {
    polynomial = map (λ a. k ⊗ a) h.polynomial;
    degree = length-map h.polynomial (λ a. k ⊗ a) ∙ h.degree;
    values = λ x. ap (λ v. k ⊗ v) (h.values x) ∙ sym (val-scale F R k h.polynomial x);
  }

  pub degree-neg : (d : ℕ) (f : A → A) → HasDegreeBelow F d f → HasDegreeBelow F d (λ x. neg (f x))
  degree-neg d f h = degree-same (λ x. neg 𝟙 ⊗ f x) (λ x. neg (f x))
      (λ x. ring F R 1 (λ v. minus v := minus :1 :* v) refl (f x)) (degree-scale d (neg 𝟙) f h)

  pub degree-sub : (d : ℕ) (f g : A → A) → HasDegreeBelow F d f → HasDegreeBelow F d g
      → HasDegreeBelow F d (λ x. sub F (f x) (g x))
  degree-sub d f g h k = degree-add d f (λ x. neg (g x)) h (degree-neg d g k)

  pub degree-shift : (d : ℕ) (f : A → A) → HasDegreeBelow F d f
      → HasDegreeBelow F (suc d) (λ x. x ⊗ f x)
  degree-shift d f h = record {
    polynomial = 𝟘 ∷ h.polynomial;
    degree = ap suc h.degree;
    values = λ x. ap (λ v. x ⊗ v) (h.values x) ∙ sym (val-shift F R h.polynomial x);
  }

  pub degree-stretched : (d : ℕ) (s : A) (f : A → A) → HasDegreeBelow F d f
      → HasDegreeBelow F d (λ x. f (s ⊗ x))
  degree-stretched d s f h = record {
    polynomial = stretched F 𝟙 s h.polynomial;
    degree = length-stretched F 𝟙 s h.polynomial ∙ h.degree;
    values = λ x. h.values (s ⊗ x)
        ∙ sym (val-stretched F R 𝟙 s h.polynomial x ∙ one_mul F R (val F h.polynomial (s ⊗ x)));
  }

  pub degree-power : (n : ℕ) → HasDegreeBelow F (suc n) (λ x. pow F x n)
  degree-power zero = degree-same (λ _. 𝟙) (λ x. pow F x 0) (λ x. pow-zero F x) (degree-constant 𝟙)
  degree-power (suc n) = degree-same (λ x. x ⊗ pow F x n) (λ x. pow F x (suc n)) (λ x. pow-suc_is F x n)
      (degree-shift (suc n) (λ x. pow F x n) (degree-power n))

  pub degree-identity : HasDegreeBelow F 2 (λ x. x)
  degree-identity = degree-same (λ x. x ⊗ 𝟙) (λ x. x) (λ x. sym (R.mul_one x))
      (degree-shift 1 (λ _. 𝟙) (degree-constant 𝟙))

  -- a product by a list of coefficients
  times : (c : List A) (e : ℕ) (g : A → A) → HasDegreeBelow F (suc e) g
      → HasDegreeBelow F (length c + e) (λ x. val F c x ⊗ g x)
  times [] e g k = degree-same (λ _. 𝟘) (λ x. val F [] x ⊗ g x)
      (λ x. ap (λ v. v ⊗ g x) (val-nil F R x) ∙ zero_mul F R (g x)) (degree-zero (0 + e))
  times (c ∷ cs) e g k =
      degree-same (λ x. c ⊗ g x ⊕ x ⊗ (val F cs x ⊗ g x)) (λ x. val F (c ∷ cs) x ⊗ g x)
      (λ x. ap (λ v. v ⊗ g x) (val-cons F R c cs x)
      ∙ ring F R 4 (λ c x v g. (c :+ x :* v) :* g := c :* g :+ x :* (v :* g)) refl c x (val F cs x) (g x))
      (degree-add (suc (length cs) + e) (λ x. c ⊗ g x) (λ x. x ⊗ (val F cs x ⊗ g x))
      (degree-more (suc e) (suc (length cs) + e) (λ x. c ⊗ g x) (omega arith) (degree-scale (suc e) c g k))
      (degree-more (suc (length cs + e)) (suc (length cs) + e) (λ x. x ⊗ (val F cs x ⊗ g x)) (omega arith)
      (degree-shift (length cs + e) (λ x. val F cs x ⊗ g x) (times cs e g k))))

  -- degrees of factors add up
  pub degree-mul : (d e : ℕ) (f g : A → A) → HasDegreeBelow F (suc d) f → HasDegreeBelow F (suc e) g
      → HasDegreeBelow F (suc (d + e)) (λ x. f x ⊗ g x)
  degree-mul d e f g h k =
      degree-more (length h.polynomial + e) (suc (d + e)) (λ x. f x ⊗ g x) (omega (arith, h.degree))
      (degree-same (λ x. val F h.polynomial x ⊗ g x) (λ x. f x ⊗ g x) (λ x. ap (λ v. v ⊗ g x) (h.values x))
      (times h.polynomial e g k))

module _ {A : Type 0} (F : FieldOps A) (L : IsField F) where
  infixl 65 ◌⊕◌
  infixl 70 ◌⊗◌
  open F use {zero as 𝟘, one as 𝟙, add as ◌⊕◌, mul as ◌⊗◌, neg}

  each-values : (f g : A → A) → ((x : A) → f x ≡ g x) → (xs : List A)
      → Each (λ x. f x ≡ 𝟘) xs → Each (λ x. g x ≡ 𝟘) xs
  each-values f g same [] h = tt
  each-values f g same (x ∷ xs) h = (sym (same x) ∙ h.0, each-values f g same xs h.1)

  -- zero at as many points as the bound says, so everywhere
  pub degree-roots : (d : ℕ) (f : A → A) → HasDegreeBelow F d f → (xs : List A) → Distinct xs
      → d ≤ length xs → Each (λ x. f x ≡ 𝟘) xs → (y : A) → f y ≡ 𝟘
  degree-roots d f h xs distinct l zeros y =
      h.values y ∙ zero_everywhere F L h.polynomial xs (omega (arith, h.degree, l)) distinct
      (each-values f (λ x. val F h.polynomial x) h.values xs zeros) y

  each-sub : (f g : A → A) (xs : List A) → Each (λ x. f x ≡ g x) xs
      → Each (λ x. sub F (f x) (g x) ≡ 𝟘) xs
  each-sub f g [] h = tt
  each-sub f g (x ∷ xs) h = (ap (λ v. sub F v (g x)) h.0 ∙ sub-self F L.ring (g x), each-sub f g xs h.1)

  -- equal at as many points as the bound says, so everywhere
  pub degree-equal : (d : ℕ) (f g : A → A) → HasDegreeBelow F d f → HasDegreeBelow F d g
      → (xs : List A) → Distinct xs → d ≤ length xs → Each (λ x. f x ≡ g x) xs → (y : A) → f y ≡ g y
  degree-equal d f g h k xs distinct l same y =
      sub-eq F L.ring (degree-roots d (λ x. sub F (f x) (g x)) (degree-sub F L.ring d f g h k) xs
      distinct l (each-sub f g xs same) y)
