-- The value of a polynomial, and what operations on its coefficients do to it.
use Rattle.std.proofs.Common.{◌≡◌, ℕ, zero, suc, List, [], ◌∷◌, ◌++◌, length, map, get_or}
use Rattle.std.proofs.Common.{replicate, refl, sym, ap, ap₂, ◌∙◌}
use Rattle.algebra.specs.Field.{FieldOps, IsRing, IsHomomorphism, pow, sub}
use Rattle.algebra.specs.Lists.{add_lists}
use Rattle.algebra.specs.Polynomial.{sum_below, val}
use Rattle.algebra.proofs.RingLaws.{mul_zero, mul_left_comm}
use Rattle.algebra.proofs.Ring.{◌:+◌, ◌:-◌, ◌:*◌, ◌:=◌, ring, o, :1}
use Rattle.algebra.proofs.Powers.{pow-zero, pow-suc_is}
use Rattle.algebra.proofs.Lists.{Each}

module _ {A : Type 0} (F : FieldOps A) where
  infixl 65 ◌⊕◌
  infixl 70 ◌⊗◌
  open F use {add as ◌⊕◌, mul as ◌⊗◌}

  -- the differences of the entries at each place that both lists have
  abbrev pub sub_lists : List A → List A → List A
  sub_lists [] ds = []
  sub_lists (c ∷ cs) [] = []
  sub_lists (c ∷ cs) (d ∷ ds) = sub F c d ∷ sub_lists cs ds

  -- entry `i` times `k * s^i`
  abbrev pub stretched : A → A → List A → List A
  stretched k s [] = []
  stretched k s (c ∷ cs) = (k ⊗ c) ∷ stretched (k ⊗ s) s cs

-- every second entry, from the first on, and from the second on
abbrev pub evens : {A : Type 0} → List A → List A
evens [] = []
evens (c ∷ []) = c ∷ []
evens (c ∷ d ∷ cs) = c ∷ evens cs

abbrev pub odds : {A : Type 0} → List A → List A
odds [] = []
odds (c ∷ []) = []
odds (c ∷ d ∷ cs) = d ∷ odds cs

pub length-sub_lists : {A : Type 0} (F : FieldOps A) (c d : List A) → length c ≡ length d → length (sub_lists F c d) ≡ length c
length-sub_lists F [] d e = refl
length-sub_lists F (c ∷ cs) [] e = absurd cc
length-sub_lists F (c ∷ cs) (d ∷ ds) e = ap suc (length-sub_lists F cs ds cc)

pub length-add_lists : {A : Type 0} (F : FieldOps A) (c d : List A) → length c ≡ length d → length (add_lists F c d) ≡ length c
length-add_lists F [] d e = refl
length-add_lists F (c ∷ cs) [] e = absurd cc
length-add_lists F (c ∷ cs) (d ∷ ds) e = ap suc (length-add_lists F cs ds cc)

module _ {A : Type 0} (F : FieldOps A) (R : IsRing F) where
  infixl 65 ◌⊕◌
  infixl 70 ◌⊗◌
  open F use {zero as 𝟘, one as 𝟙, add as ◌⊕◌, mul as ◌⊗◌, neg}

  sum_below-mul : (k : A) (n : ℕ) (f g : ℕ → A) → ((i : ℕ) → f i ≡ k ⊗ g i) → sum_below F n f ≡ k ⊗ sum_below F n g
  unfolding sum_below
  sum_below-mul k zero f g h = sym (mul_zero F R k)
  sum_below-mul k (suc n) f g h = ap₂ (λ x y. x ⊕ y) (h zero) (sum_below-mul k n (λ i. f (suc i)) (λ i. g (suc i)) (λ i. h (suc i))) ∙ sym (R.mul_add k (g zero) (sum_below F n (λ i. g (suc i))))

  pub val-nil : (x : A) → val F [] x ≡ 𝟘
  unfolding val sum_below
  val-nil x = refl

  -- Horner's rule
  pub val-cons : (c : A) (cs : List A) (x : A) → val F (c ∷ cs) x ≡ c ⊕ x ⊗ val F cs x
  unfolding val sum_below pow
  val-cons c cs x = ap₂ (λ a b. a ⊕ b) (R.mul_one c) (sum_below-mul x (length cs) (λ i. get_or cs i 𝟘 ⊗ (x ⊗ pow F x i)) (λ i. get_or cs i 𝟘 ⊗ pow F x i) (λ i. mul_left_comm F R (get_or cs i 𝟘) x (pow F x i)))

  pub val-one : (c x : A) → val F (c ∷ []) x ≡ c
  val-one c x = val-cons c [] x ∙ ap (λ t. c ⊕ x ⊗ t) (val-nil x) ∙ ring F R 2 (λ c x. c :+ x :* o := c) refl c x

  pub val-two : (c d x : A) → val F (c ∷ d ∷ []) x ≡ c ⊕ x ⊗ d
  val-two c d x = val-cons c (d ∷ []) x ∙ ap (λ t. c ⊕ x ⊗ t) (val-one d x)

  -- zero coefficients give zero
  pub val-zeros : (c : List A) (x : A) → Each (λ a. a ≡ 𝟘) c → val F c x ≡ 𝟘
  val-zeros [] x h = val-nil x
  val-zeros (c ∷ cs) x h = val-cons c cs x ∙ ap₂ (λ a b. a ⊕ x ⊗ b) h.0 (val-zeros cs x h.1) ∙ ring F R 1 (λ x. o :+ x :* o := o) refl x

  pub val-append : (c d : List A) (x : A) → val F (c ++ d) x ≡ val F c x ⊕ pow F x (length c) ⊗ val F d x
  val-append [] d x = rw (val-nil x, pow-zero F x) (ring F R 1 (λ v. v := o :+ :1 :* v) refl (val F d x))
  val-append (c ∷ cs) d x = rw (val-cons c (cs ++ d) x, val-cons c cs x, pow-suc_is F x (length cs), val-append cs d x)
      (ring F R 5 (λ c x p v w. c :+ x :* (v :+ p :* w) := c :+ x :* v :+ x :* p :* w) refl c x (pow F x (length cs)) (val F cs x) (val F d x))

  -- zeros at the end change nothing
  pub val-padded : (c : List A) (n : ℕ) (x : A) → val F (c ++ replicate n 𝟘) x ≡ val F c x
  val-padded c n x = val-append c (replicate n 𝟘) x ∙ ap (λ v. val F c x ⊕ pow F x (length c) ⊗ v) (val-zeros (replicate n 𝟘) x (zeros n)) ∙ ring F R 2 (λ v p. v :+ p :* o := v) refl (val F c x) (pow F x (length c))
    where
      zeros : (n : ℕ) → Each (λ a. a ≡ 𝟘) (replicate n 𝟘)
      zeros zero = tt
      zeros (suc n) = (refl, zeros n)

  -- a zero in front multiplies by the point
  pub val-shift : (c : List A) (x : A) → val F (𝟘 ∷ c) x ≡ x ⊗ val F c x
  val-shift c x = val-cons 𝟘 c x ∙ ring F R 2 (λ x v. o :+ x :* v := x :* v) refl x (val F c x)

  pub val-scale : (k : A) (c : List A) (x : A) → val F (map (λ a. k ⊗ a) c) x ≡ k ⊗ val F c x
  val-scale k [] x = rw (val-nil x) (sym (mul_zero F R k))
  val-scale k (c ∷ cs) x = rw (val-cons (k ⊗ c) (map (λ a. k ⊗ a) cs) x, val-cons c cs x, val-scale k cs x)
      (ring F R 4 (λ k c x v. k :* c :+ x :* (k :* v) := k :* (c :+ x :* v)) refl k c x (val F cs x))

  -- powers of `s` on the coefficients move the point
  pub val-stretched : (k s : A) (c : List A) (x : A) → val F (stretched F k s c) x ≡ k ⊗ val F c (s ⊗ x)
  val-stretched k s [] x = rw (val-nil x, val-nil (s ⊗ x)) (sym (mul_zero F R k))
  val-stretched k s (c ∷ cs) x = rw (val-cons (k ⊗ c) (stretched F (k ⊗ s) s cs) x, val-cons c cs (s ⊗ x), val-stretched (k ⊗ s) s cs x)
      (ring F R 5 (λ k s c x v. k :* c :+ x :* (k :* s :* v) := k :* (c :+ s :* x :* v)) refl k s c x (val F cs (s ⊗ x)))

  pub val-add : (c d : List A) (x : A) → length c ≡ length d → val F (add_lists F c d) x ≡ val F c x ⊕ val F d x
  val-add [] [] x e = rw (val-nil x) (sym (R.add_zero 𝟘))
  val-add [] (d ∷ ds) x e = absurd cc
  val-add (c ∷ cs) [] x e = absurd cc
  val-add (c ∷ cs) (d ∷ ds) x e = rw (val-cons (c ⊕ d) (add_lists F cs ds) x, val-cons c cs x, val-cons d ds x, val-add cs ds x cc)
      (ring F R 5 (λ c d x p q. c :+ d :+ x :* (p :+ q) := c :+ x :* p :+ (d :+ x :* q)) refl c d x (val F cs x) (val F ds x))

  pub val-sub : (c d : List A) (x : A) → length c ≡ length d → val F (sub_lists F c d) x ≡ sub F (val F c x) (val F d x)
  val-sub [] [] x e = rw (val-nil x) (sym (R.add_neg 𝟘))
  val-sub [] (d ∷ ds) x e = absurd cc
  val-sub (c ∷ cs) [] x e = absurd cc
  val-sub (c ∷ cs) (d ∷ ds) x e = rw (val-cons (sub F c d) (sub_lists F cs ds) x, val-cons c cs x, val-cons d ds x, val-sub cs ds x cc)
      (ring F R 5 (λ c d x p q. c :- d :+ x :* (p :- q) := c :+ x :* p :- (d :+ x :* q)) refl c d x (val F cs x) (val F ds x))

  -- by the even and the odd coefficients
  pub val-halves : (c : List A) (x : A) → val F c x ≡ val F (evens c) (x ⊗ x) ⊕ x ⊗ val F (odds c) (x ⊗ x)
  val-halves [] x = rw (val-nil x, val-nil (x ⊗ x)) (ring F R 1 (λ x. o := o :+ x :* o) refl x)
  val-halves (c ∷ []) x = rw (val-one c x, val-one c (x ⊗ x), val-nil (x ⊗ x)) (ring F R 2 (λ c x. c := c :+ x :* o) refl c x)
  val-halves (c ∷ d ∷ cs) x = rw (val-cons c (d ∷ cs) x, val-cons d cs x, val-cons c (evens cs) (x ⊗ x), val-cons d (odds cs) (x ⊗ x), val-halves cs x)
      (ring F R 5 (λ c d x u v. c :+ x :* (d :+ x :* (u :+ x :* v)) := c :+ x :* x :* u :+ x :* (d :+ x :* x :* v)) refl c d x (val F (evens cs) (x ⊗ x)) (val F (odds cs) (x ⊗ x)))

-- a homomorphism carries the value of a polynomial to that of the polynomial of the images
pub homomorphism-val : {A E : Type 0} (F : FieldOps A) (K : FieldOps E) (h : A → E) → IsRing F → IsRing K → IsHomomorphism F K h → (c : List A) (x : A) → h (val F c x) ≡ val K (map h c) (h x)
homomorphism-val F K h R S H [] x = ap h (val-nil F R x) ∙ H.zero ∙ sym (val-nil K S (h x))
homomorphism-val F K h R S H (c ∷ cs) x =
    ap h (val-cons F R c cs x)
    ∙ H.add c (F.mul x (val F cs x))
    ∙ ap (λ t. K.add (h c) t) (H.mul x (val F cs x) ∙ ap (λ t. K.mul (h x) t) (homomorphism-val F K h R S H cs x))
    ∙ sym (val-cons K S (h c) (map h cs) (h x))
