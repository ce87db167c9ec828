-- Newton's form: one coefficient more, and that its coefficients by powers interpolate.
use Rattle.std.proofs.Common.{All, ◌≡◌, ◌≢◌, ℕ, zero, suc, ◌+◌, ◌-◌, ◌<◌, ◌≤◌, List, [], ◌∷◌, ◌++◌, length, get_or, take, drop, map, refl, sym, ap, ap₂, ◌∙◌, arith, length-take, length-drop, append-nil}
use borrow.Rule.Slice.PartMut.{put_mid}
use Rattle.std.proofs.Math.ListN.{set}
use Rattle.std.proofs.lemmas.List.{get_or-map, get_or-take, get_or_default, length-map, length-set, map-append, take_more, take_more_set, drop-set-lt, drop_more, length-take-le, take_at, drop_at, append_assoc, drop_all, drop-drop}
use Rattle.algebra.specs.Field.{FieldOps, IsRing, IsField, sub}
use Rattle.algebra.specs.Polynomial.{val, tabulate}
use Rattle.algebra.specs.Interpolation.{AreDistinct, Interpolates, interpolant, plus_multiple}
use Rattle.algebra.specs.Products.{product}
use Rattle.algebra.proofs.RingLaws.{mul_zero}
use Rattle.algebra.proofs.Ring.{◌:+◌, ◌:*◌, ◌:-◌, ◌:=◌, ring, o, :1}
use Rattle.algebra.proofs.Combine.{combine, sub-eq}
use Rattle.algebra.proofs.Values.{val-nil}
use Rattle.algebra.proofs.Division.{length-plus_multiple, val-plus_multiple}
use Rattle.algebra.proofs.Interpolation.{interpolant_interpolates, interpolates_unique}
use Rattle.algebra.proofs.Products.{product-append, product-nonzero}
use Rattle.algebra.proofs.Lists.{each_from_All, distinct_from_AllPairs, get_or-tabulate, length-tabulate, head_eq}
use Rattle.p3_converse.specs.Newton.{difference_product, weights_of, newton_val, expanded}

-- functions that agree at each entry
pub map-equal : {A B : Type 0} (f g : A → B) (xs : List A) → ((k : ℕ) (d : A) → k < length xs → f (get_or xs k d) ≡ g (get_or xs k d)) → map f xs ≡ map g xs
map-equal f g [] h = refl
map-equal f g (x ∷ xs) h = ap₂ (λ y ys. y ∷ ys) (h zero x (omega arith)) (map-equal f g xs (λ k d l. h (suc k) d (omega (arith, l))))

-- what the weights are the inverses of
abbrev pub product_before : {A : Type 0} → FieldOps A → List A → ℕ → A
product_before F points t = difference_product F (get_or points t F.zero) (take t points)

pub length-weights_of : {A : Type 0} (F : FieldOps A) (points : List A) → length (weights_of F points) ≡ length points
length-weights_of F points = length-tabulate (length points) (λ t. F.inv (product_before F points t))

-- a list whose entries from `j` on were written
pub put_rest : {A : Type 0} (xs ys : List A) (j : ℕ) → put_mid j (length xs - j) xs ys ≡ take j xs ++ ys
put_rest xs ys j = ap (λ zs. take j xs ++ (ys ++ zs)) (drop_all (length xs - j) (drop j xs) (omega (arith, length-drop j xs))) ∙ ap (λ zs. take j xs ++ zs) (append-nil ys)

module _ {A : Type 0} (F : FieldOps A) (R : IsRing F) where
  infixl 65 ◌⊕◌
  infixl 70 ◌⊗◌
  open F use {zero as 𝟘, add as ◌⊕◌, mul as ◌⊗◌}

  -- one coefficient more
  pub newton_val-append : (ps cs : List A) (c x : A) → length cs < length ps → newton_val F ps (cs ++ c ∷ []) x ≡ newton_val F ps cs x ⊕ difference_product F x (take (length cs) ps) ⊗ c
  newton_val-append [] cs c x l = absurd (omega (arith, l))
  newton_val-append (p ∷ ps) [] c x l = ring F R 3 (λ c x p. c :+ (x :- p) :* o := o :+ :1 :* c) refl c x p
  newton_val-append (p ∷ ps) (b ∷ bs) c x l =
      ap (λ v. b ⊕ sub F x p ⊗ v) (newton_val-append ps bs c x (omega (arith, l)))
      ∙ ring F R 6 (λ b x p v d c. b :+ (x :- p) :* (v :+ d :* c) := b :+ (x :- p) :* v :+ (x :- p) :* d :* c) refl b x p (newton_val F ps bs x) (difference_product F x (take (length bs) ps)) c

  -- the product vanishes at each of the points
  pub difference_product-zero : (qs : List A) (k : ℕ) (d : A) → k < length qs → difference_product F (get_or qs k d) qs ≡ 𝟘
  difference_product-zero [] k d l = absurd (omega (arith, l))
  difference_product-zero (q ∷ qs) zero d l = ring F R 2 (λ q v. (q :- q) :* v := o) refl q (difference_product F q qs)
  difference_product-zero (q ∷ qs) (suc k) d l = ap (λ v. (sub F (get_or qs k d) q) ⊗ v) (difference_product-zero qs k d (omega (arith, l))) ∙ mul_zero F R (sub F (get_or qs k d) q)

  pub difference_product-take_next : (x : A) (ps : List A) (i : ℕ) (d : A) → i < length ps → difference_product F x (take (i + 1) ps) ≡ difference_product F x (take i ps) ⊗ (sub F x (get_or ps i d))
  difference_product-take_next x ps i d l =
      ap (λ qs. difference_product F x qs) (take_more ps i d l)
      ∙ ap (λ xs. product F xs) (map-append (λ p. sub F x p) (take i ps) (get_or ps i d ∷ []))
      ∙ product-append F R (map (λ p. sub F x p) (take i ps)) ((sub F x (get_or ps i d)) ∷ [])
      ∙ ap (λ v. difference_product F x (take i ps) ⊗ v) (R.mul_one (sub F x (get_or ps i d)))

  pub val-expanded : (ps cs : List A) (x : A) → val F (expanded F ps cs) x ≡ newton_val F ps cs x
  val-expanded ps [] x = val-nil F R x
  val-expanded [] (c ∷ cs) x = val-nil F R x
  val-expanded (p ∷ ps) (c ∷ cs) x = val-plus_multiple F R p c (expanded F ps cs) x ∙ ap (λ v. c ⊕ sub F x p ⊗ v) (val-expanded ps cs x)

  pub length-expanded : (ps cs : List A) → length cs ≤ length ps → length (expanded F ps cs) ≡ length cs
  length-expanded ps [] l = refl
  length-expanded [] (c ∷ cs) l = absurd (omega (arith, l))
  length-expanded (p ∷ ps) (c ∷ cs) l = length-plus_multiple F p c (expanded F ps cs) ∙ ap suc (length-expanded ps cs (omega (arith, l)))

  -- from entry `j` on, multiplied out with the polynomial behind it
  pub expanded_step : (ps cs entries new : List A) (j : ℕ) (p : A) → j < length cs → length cs ≡ length ps → p ≡ get_or ps j p
      → entries ≡ take (j + 1) cs ++ expanded F (drop (j + 1) ps) (drop (j + 1) cs) → ((y : A) (q : List A) → drop j entries ≡ y ∷ q → new ≡ plus_multiple F p y q)
      → take j entries ++ new ≡ take j cs ++ expanded F (drop j ps) (drop j cs)
  expanded_step ps cs entries new j p l n ep e multiplied =
      ap₂ (λ us vs. us ++ vs) (ap (λ xs. take j xs) split ∙ take_at (take j cs) (y ∷ behind) j front) (multiplied y behind (ap (λ xs. drop j xs) split ∙ drop_at (take j cs) (y ∷ behind) j front))
      ∙ ap₂ (λ qs bs. take j cs ++ expanded F qs bs) (ap (λ q. q ∷ drop (j + 1) ps) ep ∙ sym (drop_more ps j p (omega (arith, l, n)))) (sym (drop_more cs j p l))
    where
      y : A
      y = get_or cs j p

      behind : List A
      behind = expanded F (drop (j + 1) ps) (drop (j + 1) cs)

      front : length (take j cs) ≡ j
      front = length-take-le j cs (omega (arith, l))

      split : entries ≡ take j cs ++ y ∷ behind
      split = e ∙ ap (λ xs. xs ++ behind) (take_more cs j p l) ∙ append_assoc (take j cs) (y ∷ []) behind

module _ {A : Type 0} (F : FieldOps A) (ps ys : List A) where
  -- the first `t` entries are coefficients of Newton's form that has the first `t` values, the others are values
  pub record IsNewtonUpTo (t : ℕ) (entries : List A) : Type 0 where
    pub lengths : length entries ≡ length ys
    pub done : map (λ x. newton_val F ps (take t entries) x) (take t ps) ≡ take t ys
    pub rest : drop t entries ≡ drop t ys

module _ {A : Type 0} (F : FieldOps A) (L : IsField F) (ps : List A) (distinct : AreDistinct ps) where
  infixl 65 ◌⊕◌
  infixl 70 ◌⊗◌
  open F use {zero as 𝟘, one as 𝟙, add as ◌⊕◌, mul as ◌⊗◌, neg, inv}

  pub difference_product-nonzero : (t : ℕ) (d : A) → t < length ps → difference_product F (get_or ps t d) (take t ps) ≢ 𝟘
  difference_product-nonzero t d l = product-nonzero F L differences (each_from_All (λ x. x ≢ 𝟘) differences nonzero)
    where
      differences : List A
      differences = map (λ p. sub F (get_or ps t d) p) (take t ps)

      nonzero : (k : ℕ) (e : A) → k < length differences → get_or differences k e ≢ 𝟘
      nonzero k e m z =
          let shorter : k < length (take t ps) = omega (arith, m, length-map (take t ps) (λ p. sub F (get_or ps t d) p)) in
          let below : k < t = omega (arith, shorter, length-take t ps) in
          distinct k t d below l (sym (sub-eq F L.ring (ap (λ p. sub F (get_or ps t d) p) (sym (get_or-take t ps k d below)) ∙ sym (get_or-map (λ p. sub F (get_or ps t d) p) (take t ps) k d e shorter) ∙ z)))

  pub products-nonzero : (xs : List A) → xs ≡ tabulate (length ps) (product_before F ps) → All (λ x. x ≢ 𝟘) xs
  products-nonzero xs e k d l z =
      let below : k < length ps = omega (arith, l, ap length e, length-tabulate (length ps) (product_before F ps)) in
      difference_product-nonzero k 𝟘 below (sym (get_or-tabulate (length ps) (product_before F ps) k d below) ∙ sym (ap (λ ys. get_or ys k d) e) ∙ z)

  pub weights-entry : (t : ℕ) (w p : A) → t < length ps → w ≡ get_or (weights_of F ps) t w → p ≡ get_or ps t p → w ≡ inv (difference_product F p (take t ps))
  weights-entry t w p l ew ep =
      ew ∙ get_or-tabulate (length ps) (λ t. inv (product_before F ps t)) t w l
      ∙ ap (λ q. inv (difference_product F q (take t ps))) (get_or_default ps t 𝟘 p l ∙ sym ep)

  pub newton_start : (ys : List A) → length ys ≡ length ps → IsNewtonUpTo F ps ys 1 ys
  newton_start ys n = record { lengths = refl; done = first ps ys n; rest = refl }
    where
      first : (qs zs : List A) → length zs ≡ length qs → map (λ x. newton_val F qs (take 1 zs) x) (take 1 qs) ≡ take 1 zs
      first [] [] e = refl
      first [] (z ∷ zs) e = absurd (omega (arith, e))
      first (q ∷ qs) [] e = absurd (omega (arith, e))
      first (q ∷ qs) (z ∷ zs) e = ap (λ v. v ∷ []) (ring F L.ring 2 (λ z q. z :+ (q :- q) :* o := z) refl z q)

  -- the next coefficient
  pub newton_step : (ys entries : List A) (t : ℕ) (y p e w a : A) → length ys ≡ length ps → t < length ps → y ≡ get_or entries t y → p ≡ get_or ps t p
      → e ≡ newton_val F ps (take t entries) p → w ≡ inv (difference_product F p (take t ps)) → a ≡ sub F y e ⊗ w
      → IsNewtonUpTo F ps ys t entries → IsNewtonUpTo F ps ys (t + 1) (set entries t a)
  newton_step ys entries t y p e w a n l ey ep ee ew ea here = record {
    lengths = length-set entries t a ∙ here.lengths;
    done =
        ap₂ (λ cs qs. map (λ x. newton_val F ps cs x) qs) next (take_more ps t p l ∙ ap (λ q. take t ps ++ q ∷ []) (sym ep))
        ∙ map-append (λ x. newton_val F ps (take t entries ++ a ∷ []) x) (take t ps) (p ∷ [])
        ∙ ap₂ (λ us v. us ++ v ∷ []) (map-equal (λ x. newton_val F ps (take t entries ++ a ∷ []) x) (λ x. newton_val F ps (take t entries) x) (take t ps) earlier ∙ here.done) (here_too ∙ value)
        ∙ sym (take_more ys t y (omega (arith, n, l)));
    rest = drop-set-lt (t + 1) entries t a (omega arith) ∙ sym (drop-drop 1 t entries) ∙ ap (λ zs. drop 1 zs) here.rest ∙ drop-drop 1 t ys;
  }
    where
      inside : t < length entries
      inside = omega (arith, here.lengths, n, l)

      next : take (t + 1) (set entries t a) ≡ take t entries ++ a ∷ []
      next = take_more_set entries t a inside

      longer : (x : A) → newton_val F ps (take t entries ++ a ∷ []) x ≡ newton_val F ps (take t entries) x ⊕ difference_product F x (take t ps) ⊗ a
      longer x =
          newton_val-append F L.ring ps (take t entries) a x (omega (arith, length-take-le t entries (omega (arith, inside)), l))
          ∙ ap (λ n. newton_val F ps (take t entries) x ⊕ difference_product F x (take n ps) ⊗ a) (length-take-le t entries (omega (arith, inside)))

      earlier : (k : ℕ) (d : A) → k < length (take t ps) → newton_val F ps (take t entries ++ a ∷ []) (get_or (take t ps) k d) ≡ newton_val F ps (take t entries) (get_or (take t ps) k d)
      earlier k d m =
          longer (get_or (take t ps) k d)
          ∙ ap (λ v. newton_val F ps (take t entries) (get_or (take t ps) k d) ⊕ v ⊗ a) (difference_product-zero F L.ring (take t ps) k d m)
          ∙ ring F L.ring 2 (λ v a. v :+ o :* a := v) refl (newton_val F ps (take t entries) (get_or (take t ps) k d)) a

      divided : difference_product F p (take t ps) ⊗ w ≡ 𝟙
      divided = ap (λ v. difference_product F p (take t ps) ⊗ v) ew
          ∙ L.mul_inv (difference_product F p (take t ps)) (λ z. difference_product-nonzero t p l (ap (λ q. difference_product F q (take t ps)) (sym ep) ∙ z))

      here_too : newton_val F ps (take t entries ++ a ∷ []) p ≡ y
      here_too =
          longer p
          ∙ ap₂ (λ u v. u ⊕ difference_product F p (take t ps) ⊗ v) (sym ee) ea
          ∙ combine F L.ring {k = sub F y e} divided (ring F L.ring 4 (λ e d y w. e :+ d :* ((y :- e) :* w) :+ (y :- e) :* :1 := y :+ (y :- e) :* (d :* w)) refl e (difference_product F p (take t ps)) y w)

      value : y ≡ get_or ys t y
      value = ey ∙ head_eq (sym (drop_more entries t y inside) ∙ here.rest ∙ drop_more ys t y (omega (arith, n, l)))

  -- what has Newton's form with the values is their interpolant
  pub expanded_interpolant : (ys cs : List A) → length ys ≡ length ps → length cs ≡ length ps → map (λ x. newton_val F ps cs x) ps ≡ ys → expanded F ps cs ≡ interpolant F ps ys
  expanded_interpolant ys cs n m h =
      interpolates_unique F L ps ys (expanded F ps cs) (interpolant F ps ys) (distinct_from_AllPairs ps distinct) through (interpolant_interpolates F L ps ys (sym n) (distinct_from_AllPairs ps distinct))
    where
      through : Interpolates F ps ys (expanded F ps cs)
      through = record {
        count = length-expanded F L.ring ps cs (omega (arith, m)) ∙ m;
        values = map-equal (λ x. val F (expanded F ps cs) x) (λ x. newton_val F ps cs x) ps (λ k d l. val-expanded F L.ring ps cs (get_or ps k d)) ∙ h;
      }
