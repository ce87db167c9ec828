-- Interpolation of polynomials: given one at each of some distinct challenges, those whose sums
-- with the challenge's powers they are.
use Rattle.std.proofs.Common.{◌≡◌, ℕ, List, [], ◌∷◌, length, map, refl, sym, ap, ap₂, ◌∙◌}
use Rattle.std.proofs.lemmas.List.{length-map}
use Rattle.algebra.specs.Field.{FieldOps, IsRing, IsField, sub}
use Rattle.algebra.specs.Polynomial.{val}
use Rattle.algebra.specs.Interpolation.{interpolant, slopes, plus_multiple}
use Rattle.algebra.proofs.Values.{sub_lists, length-sub_lists, val-sub, val-scale}
use Rattle.algebra.proofs.Interpolation.{interpolant_interpolates, interpolates_unique}
use Rattle.algebra.proofs.Lists.{Each, Distinct}

module _ {A : Type 0} (F : FieldOps A) where
  abbrev pub scaled : A → List A → List A
  scaled k p = map (λ a. F.mul k a) p

  abbrev pub plus_multiples : A → List A → List (List A) → List (List A)
  plus_multiples r y [] = y ∷ []
  plus_multiples r y (q ∷ qs) = sub_lists F y (scaled r q) ∷ plus_multiples r q qs

  abbrev pub slopes_of : A → List A → List A → List (List A) → List (List A)
  slopes_of x y [] ps = []
  slopes_of x y (a ∷ xs) [] = []
  slopes_of x y (a ∷ xs) (p ∷ ps) = scaled (F.inv (sub F a x)) (sub_lists F p y) ∷ slopes_of x y xs ps

  -- by divided differences, one for each challenge
  abbrev pub through : List A → List (List A) → List (List A)
  through [] ps = []
  through (x ∷ xs) [] = []
  through (x ∷ xs) (p ∷ ps) = plus_multiples x p (through xs (slopes_of x p xs ps))

  module _ (k : ℕ) where
    difference : (p q : List A) (r : A) → length p ≡ k → length q ≡ k → length (sub_lists F p (scaled r q)) ≡ k
    difference p q r m n = length-sub_lists F p (scaled r q) (m ∙ sym (length-map q (λ a. F.mul r a) ∙ n)) ∙ m

    each-slopes : (x : A) (y : List A) (xs : List A) (ps : List (List A)) → length y ≡ k → Each (λ p. length p ≡ k) ps
        → Each (λ p. length p ≡ k) (slopes_of x y xs ps)
    each-slopes x y [] ps n h = tt
    each-slopes x y (a ∷ xs) [] n h = tt
    each-slopes x y (a ∷ xs) (p ∷ ps) n h = (
      length-map (sub_lists F p y) (λ c. F.mul (F.inv (sub F a x)) c) ∙ length-sub_lists F p y (h.0 ∙ sym n) ∙ h.0,
      each-slopes x y xs ps n h.1,
    )

    each-plus : (r : A) (y : List A) (qs : List (List A)) → length y ≡ k → Each (λ p. length p ≡ k) qs
        → Each (λ p. length p ≡ k) (plus_multiples r y qs)
    each-plus r y [] n h = (n, tt)
    each-plus r y (q ∷ qs) n h = (difference y q r n h.0, each-plus r q qs h.0 h.1)

    pub each-through : (xs : List A) (ps : List (List A)) → Each (λ p. length p ≡ k) ps
        → Each (λ p. length p ≡ k) (through xs ps)
    each-through [] ps h = tt
    each-through (x ∷ xs) [] h = tt
    each-through (x ∷ xs) (p ∷ ps) h =
        each-plus x p (through xs (slopes_of x p xs ps)) h.0
        (each-through xs (slopes_of x p xs ps) (each-slopes x p xs ps h.0 h.1))

module _ {A : Type 0} (F : FieldOps A) (R : IsRing F) (k : ℕ) (z : A) where
  at : List (List A) → List A
  at ps = map (λ p. val F p z) ps

  val-slopes : (x : A) (y : List A) (xs : List A) (ps : List (List A)) → length y ≡ k → Each (λ p. length p ≡ k) ps
      → map (λ p. val F p z) (slopes_of F x y xs ps) ≡ slopes F x (val F y z) xs (map (λ p. val F p z) ps)
  val-slopes x y [] ps n h = refl
  val-slopes x y (a ∷ xs) [] n h = refl
  val-slopes x y (a ∷ xs) (p ∷ ps) n h = ap₂ (λ v vs. v ∷ vs)
      (val-scale F R (F.inv (sub F a x)) (sub_lists F p y) z
      ∙ ap (λ v. F.mul (F.inv (sub F a x)) v) (val-sub F R p y z (h.0 ∙ sym n))
      ∙ R.mul_comm (F.inv (sub F a x)) (sub F (val F p z) (val F y z)))
      (val-slopes x y xs ps n h.1)

  val-plus : (r : A) (y : List A) (qs : List (List A)) → length y ≡ k → Each (λ p. length p ≡ k) qs
      → map (λ p. val F p z) (plus_multiples F r y qs) ≡ plus_multiple F r (val F y z) (map (λ p. val F p z) qs)
  val-plus r y [] n h = refl
  val-plus r y (q ∷ qs) n h = ap₂ (λ v vs. v ∷ vs)
      (val-sub F R y (scaled F r q) z (n ∙ sym (length-map q (λ a. F.mul r a) ∙ h.0))
      ∙ ap (λ v. sub F (val F y z) v) (val-scale F R r q z))
      (val-plus r q qs h.0 h.1)

  pub val-through : (xs : List A) (ps : List (List A)) → Each (λ p. length p ≡ k) ps
      → map (λ p. val F p z) (through F xs ps) ≡ interpolant F xs (map (λ p. val F p z) ps)
  val-through [] ps h = refl
  val-through (x ∷ xs) [] h = refl
  val-through (x ∷ xs) (p ∷ ps) h =
      val-plus x p (through F xs (slopes_of F x p xs ps)) h.0
      (each-through F k xs (slopes_of F x p xs ps) (each-slopes F k x p xs ps h.0 h.1))
      ∙ ap (λ vs. plus_multiple F x (val F p z) vs)
      (val-through xs (slopes_of F x p xs ps) (each-slopes F k x p xs ps h.0 h.1)
      ∙ ap (λ vs. interpolant F xs vs) (val-slopes x p xs ps h.0 h.1))

module _ {A : Type 0} (F : FieldOps A) (L : IsField F) (k : ℕ) where
  -- entries are the values of these at `z`, if at each challenge their sum is the value at `z` of
  -- the polynomial given there
  pub told : (xs : List A) (ps : List (List A)) (z : A) (us : List A) → Distinct xs
      → length ps ≡ length xs → Each (λ p. length p ≡ k) ps → length us ≡ length xs
      → map (λ x. val F us x) xs ≡ map (λ p. val F p z) ps
      → us ≡ map (λ p. val F p z) (through F xs ps)
  told xs ps z us d n h m e =
      interpolates_unique F L xs (map (λ p. val F p z) ps) us (interpolant F xs (map (λ p. val F p z) ps)) d
      (record { count = m; values = e })
      (interpolant_interpolates F L xs (map (λ p. val F p z) ps) (sym (length-map ps (λ p. val F p z) ∙ n)) d)
      ∙ sym (val-through F L.ring k z xs ps h)

  pub length-through : (xs : List A) (ps : List (List A)) → Distinct xs → length ps ≡ length xs
      → Each (λ p. length p ≡ k) ps → length (through F xs ps) ≡ length xs
  length-through xs ps d n h =
      sym (length-map (through F xs ps) (λ p. val F p F.zero))
      ∙ ap length (val-through F L.ring k F.zero xs ps h)
      ∙ (interpolant_interpolates F L xs (map (λ p. val F p F.zero) ps) (sym (length-map ps (λ p. val F p F.zero) ∙ n)) d).count
