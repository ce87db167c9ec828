-- What vanishes on the domain of the `n`-th roots of one is a multiple of `X^n - 1`.
use Rattle.std.proofs.Common.{◌≡◌, ℕ, zero, suc, ◌+◌, ◌^◌, ◌<◌, ◌≤◌, ◌↔◌, List, [], ◌∷◌, length}
use Rattle.std.proofs.Common.{refl, sym, ap, ◌∙◌, arith, mul_comm, pow_pos}
use Rattle.algebra.specs.Field.{FieldOps, IsRing, IsField, sub, pow}
use Rattle.algebra.specs.Polynomial.{val, tabulate}
use Rattle.algebra.specs.TwoAdic.{AreRoots}
use Rattle.algebra.proofs.Ring.{◌:+◌, ◌:-◌, ◌:*◌, ◌:=◌, ring, o, :1}
use Rattle.algebra.proofs.RingLaws.{zero_mul}
use Rattle.algebra.proofs.Combine.{sub-self}
use Rattle.algebra.proofs.Powers.{pow-zero, pow-suc_is, pow-mul, pow-one_base}
use Rattle.algebra.proofs.Points.{full_turn, powers_differ}
use Rattle.algebra.proofs.Lists.{Each, Distinct, distinct-tabulate, length-tabulate}
use Rattle.algebra.proofs.Values.{val-cons, val-one}
use Rattle.stark_algebra.specs.Degrees.{HasDegreeBelow}
use Rattle.stark_algebra.specs.Selectors.{zerofier}
use Rattle.stark_algebra.specs.Laws.{IsMultiple}
use Rattle.stark_algebra.proofs.Degrees.{degree-zero, degree-add, degree-constant, degree-shift}
use Rattle.stark_algebra.proofs.Degrees.{degree-more, degree-roots}

module _ {A : Type 0} (F : FieldOps A) where
  infixl 65 ◌⊕◌
  infixl 70 ◌⊗◌
  open F use {zero as 𝟘, one as 𝟙, add as ◌⊕◌, mul as ◌⊗◌, neg}

  -- the leading coefficient apart
  record HasTop (n : ℕ) (f : A → A) : Type 0 where
    pub rest : A → A
    pub top : A
    pub degree : HasDegreeBelow F n rest
    pub sum : (x : A) → f x ≡ rest x ⊕ top ⊗ pow F x n

  -- divided by `X^n - 1`, with remainder
  pub record IsDivided (n d : ℕ) (f : A → A) : Type 0 where
    pub quotient : A → A
    pub remainder : A → A
    pub degree : HasDegreeBelow F d quotient
    pub remainder_degree : HasDegreeBelow F n remainder
    pub division : (x : A) → f x ≡ zerofier F n x ⊗ quotient x ⊕ remainder x

module _ {A : Type 0} (F : FieldOps A) (R : IsRing F) where
  infixl 65 ◌⊕◌
  infixl 70 ◌⊗◌
  open F use {zero as 𝟘, one as 𝟙, add as ◌⊕◌, mul as ◌⊗◌, neg}

  top_of : (c : List A) (n : ℕ) → length c ≡ suc n → HasTop F n (λ x. val F c x)
  top_of [] n e = absurd (omega (arith, e))
  top_of (a ∷ []) zero e = record {
    rest = λ x. 𝟘;
    top = a;
    degree = degree-zero F R 0;
    sum = λ x. val-one F R a x ∙ ring F R 1 (λ a. a := o :+ a :* :1) refl a ∙ ap (λ p. 𝟘 ⊕ a ⊗ p) (sym (pow-zero F x));
  }
  top_of (a ∷ b ∷ cs) zero e = absurd (omega (arith, e))
  top_of (a ∷ cs) (suc n) e =
      let h = top_of cs n (omega (arith, e)) in
      record {
        rest = λ x. a ⊕ x ⊗ h.rest x;
        top = h.top;
        degree = degree-add F R (suc n) (λ _. a) (λ x. x ⊗ h.rest x)
            (degree-more F R 1 (suc n) (λ _. a) (omega arith) (degree-constant F R a))
            (degree-shift F R n h.rest h.degree);
        sum = λ x. val-cons F R a cs x ∙ ap (λ v. a ⊕ x ⊗ v) (h.sum x)
            ∙ ring F R 5 (λ a x r t p. a :+ x :* (r :+ t :* p) := a :+ x :* r :+ t :* (x :* p)) refl a x (h.rest x) h.top (pow F x n)
            ∙ ap (λ p. a ⊕ x ⊗ h.rest x ⊕ h.top ⊗ p) (sym (pow-suc_is F x n));
      }

  divided_list : (n d : ℕ) (c : List A) → 1 ≤ n → length c ≡ d + n → IsDivided F n d (λ x. val F c x)
  divided_list n zero c p e = record {
    quotient = λ x. 𝟘;
    remainder = λ x. val F c x;
    degree = degree-zero F R 0;
    remainder_degree = record { polynomial = c; degree = omega (arith, e); values = λ x. refl };
    division = λ x. ring F R 2 (λ z v. v := z :* o :+ v) refl (zerofier F n x) (val F c x);
  }
  divided_list n (suc d) [] p e = absurd (omega (arith, e))
  divided_list n (suc d) (c ∷ cs) p e =
      let h = divided_list n d cs p (omega (arith, e)) in
      let k = degree-shift F R n h.remainder h.remainder_degree in
      let t = top_of k.polynomial n k.degree in
      record {
        quotient = λ x. x ⊗ h.quotient x ⊕ t.top;
        remainder = λ x. c ⊕ t.top ⊕ t.rest x;
        degree = degree-add F R (suc d) (λ x. x ⊗ h.quotient x) (λ _. t.top)
            (degree-shift F R d h.quotient h.degree)
            (degree-more F R 1 (suc d) (λ _. t.top) (omega arith) (degree-constant F R t.top));
        remainder_degree = degree-add F R n (λ _. c ⊕ t.top) t.rest
            (degree-more F R 1 n (λ _. c ⊕ t.top) p (degree-constant F R (c ⊕ t.top))) t.degree;
        division = λ x. val-cons F R c cs x ∙ ap (λ v. c ⊕ x ⊗ v) (h.division x)
            ∙ ring F R 5 (λ c x z q r. c :+ x :* (z :* q :+ r) := c :+ z :* (x :* q) :+ x :* r) refl c x (zerofier F n x) (h.quotient x) (h.remainder x)
            ∙ ap (λ v. c ⊕ zerofier F n x ⊗ (x ⊗ h.quotient x) ⊕ v) (k.values x ∙ t.sum x)
            ∙ ring F R 5 (λ c p m t r. c :+ (p :- :1) :* m :+ (r :+ t :* p) := (p :- :1) :* (m :+ t) :+ (c :+ t :+ r)) refl c (pow F x n) (x ⊗ h.quotient x) t.top (t.rest x);
      }

  pub divided : (n d : ℕ) (f : A → A) → 1 ≤ n → HasDegreeBelow F (d + n) f → IsDivided F n d f
  divided n d f p h =
      let e = divided_list n d h.polynomial p h.degree in
      record {
        quotient = e.quotient;
        remainder = e.remainder;
        degree = e.degree;
        remainder_degree = e.remainder_degree;
        division = λ x. h.values x ∙ e.division x;
      }

pub each-tabulate : {A : Type 0} (P : A → Type 0) (n : ℕ) (f : ℕ → A) → ((i : ℕ) → i < n → P (f i))
    → Each P (tabulate n f)
each-tabulate P zero f h = tt
each-tabulate P (suc n) f h = (
  h zero (omega arith),
  each-tabulate P n (λ i. f (suc i)) (λ i l. h (suc i) (omega (arith, l))),
)

module _ {A : Type 0} (F : FieldOps A) (L : IsField F) (top : ℕ) (w : ℕ → A)
    (W : AreRoots F top w) (k : ℕ) (b : k ≤ top) where
  infixl 65 ◌⊕◌
  infixl 70 ◌⊗◌
  open F use {zero as 𝟘, one as 𝟙, add as ◌⊕◌, mul as ◌⊗◌, neg}

  -- the points of the domain, in natural order
  abbrev pub points : List A
  points = tabulate (2 ^ k) (λ i. pow F (w k) i)

  pub points-turn : (i : ℕ) → pow F (pow F (w k) i) (2 ^ k) ≡ 𝟙
  points-turn i =
      sym (pow-mul F L.ring (w k) (2 ^ k) i)
      ∙ ap (λ m. pow F (w k) m) (mul_comm (2 ^ k) i)
      ∙ pow-mul F L.ring (w k) i (2 ^ k)
      ∙ ap (λ x. pow F x i) (full_turn F L top w W k b)
      ∙ pow-one_base F L.ring i

  pub points-zero : (i : ℕ) → zerofier F (2 ^ k) (pow F (w k) i) ≡ 𝟘
  points-zero i = ap (λ p. sub F p 𝟙) (points-turn i) ∙ sub-self F L.ring 𝟙

  pub points-distinct : Distinct points
  points-distinct = distinct-tabulate (2 ^ k) (λ i. pow F (w k) i)
      (λ i j p q e. differ i j p (powers_differ F L top w W k i j b (omega (arith, p, q)) q e))
    where
      differ : (i j : ℕ) → i < j → i ≡ j → ⊥
      differ i j p e = omega (arith, p, e)

  -- zero at each point, so everywhere
  pub zero_from_points : (f : A → A) → HasDegreeBelow F (2 ^ k) f
      → ((i : ℕ) → i < 2 ^ k → f (pow F (w k) i) ≡ 𝟘) → (x : A) → f x ≡ 𝟘
  zero_from_points f h zeros = degree-roots F L (2 ^ k) f h points points-distinct
      (let e = length-tabulate (2 ^ k) (λ i. pow F (w k) i) in omega (arith, e))
      (each-tabulate (λ x. f x ≡ 𝟘) (2 ^ k) (λ i. pow F (w k) i) zeros)

  multiple_from_zeros : (d : ℕ) (f : A → A) → HasDegreeBelow F (d + 2 ^ k) f
      → ((i : ℕ) → i < 2 ^ k → f (pow F (w k) i) ≡ 𝟘) → IsMultiple F (2 ^ k) d f
  multiple_from_zeros d f h zeros =
      let e = divided F L.ring (2 ^ k) d f (pow_pos k) h in
      record {
        quotient = e.quotient;
        degree = e.degree;
        product = λ x. e.division x
            ∙ ap (λ v. zerofier F (2 ^ k) x ⊗ e.quotient x ⊕ v) (nothing e x)
            ∙ L.add_zero (zerofier F (2 ^ k) x ⊗ e.quotient x);
      }
    where
      nothing : (e : IsDivided F (2 ^ k) d f) (x : A) → e.remainder x ≡ 𝟘
      nothing e = zero_from_points e.remainder e.remainder_degree (λ i l.
          sym (ring F L.ring 2 (λ q v. o :* q :+ v := v) refl (e.quotient (pow F (w k) i)) (e.remainder (pow F (w k) i)))
          ∙ ap (λ z. z ⊗ e.quotient (pow F (w k) i) ⊕ e.remainder (pow F (w k) i)) (sym (points-zero i))
          ∙ sym (e.division (pow F (w k) i)) ∙ zeros i l)

  pub vanishes_exactly : (d : ℕ) (f : A → A) → HasDegreeBelow F (d + 2 ^ k) f
      → ((i : ℕ) → i < 2 ^ k → f (pow F (w k) i) ≡ 𝟘) ↔ IsMultiple F (2 ^ k) d f
  vanishes_exactly d f h = (
    multiple_from_zeros d f h,
    λ m i l. m.product (pow F (w k) i) ∙ ap (λ z. z ⊗ m.quotient (pow F (w k) i)) (points-zero i)
        ∙ zero_mul F L.ring (m.quotient (pow F (w k) i)),
  )
