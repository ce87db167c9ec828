-- Through distinct points goes one polynomial with as many coefficients.
use Rattle.std.proofs.Common.{◌≡◌, suc, ◌≤◌, List, [], ◌∷◌, length, map, refl, sym, ap, ap₂, ◌∙◌}
use Rattle.std.proofs.Common.{arith}
use Rattle.std.proofs.lemmas.List.{length-map}
use Rattle.algebra.specs.Field.{FieldOps, IsField, sub}
use Rattle.algebra.specs.Polynomial.{val}
use Rattle.algebra.specs.Interpolation.{Interpolates, interpolant, slopes, plus_multiple}
use Rattle.algebra.proofs.Ring.{◌:+◌, ◌:*◌, ◌:-◌, ◌:=◌, ring, :1}
use Rattle.algebra.proofs.Combine.{combine2, sub-eq}
use Rattle.algebra.proofs.Values.{sub_lists, length-sub_lists, val-sub}
use Rattle.algebra.proofs.Division.{length-plus_multiple, val-plus_multiple}
use Rattle.algebra.proofs.Roots.{zero_from_roots}
use Rattle.algebra.proofs.Lists.{Each, Off, Distinct, head_eq, tail_eq, map-each}

length-slopes : {A : Type 0} (F : FieldOps A) (x y : A) (xs ys : List A) → length xs ≡ length ys → length (slopes F x y xs ys) ≡ length xs
length-slopes F x y [] ys e = refl
length-slopes F x y (a ∷ p) [] e = absurd cc
length-slopes F x y (a ∷ p) (b ∷ q) e = ap suc (length-slopes F x y p q cc)

-- there are as many values as points
pub interpolated-length : {A : Type 0} (F : FieldOps A) (xs ys c : List A) → Interpolates F xs ys c → length ys ≡ length xs
interpolated-length F xs ys c h = ap length (sym h.values) ∙ length-map xs (λ x. val F c x)

module _ {A : Type 0} (F : FieldOps A) (L : IsField F) where
  infixl 65 ◌⊕◌
  infixl 70 ◌⊗◌
  open F use {zero as 𝟘, one as 𝟙, add as ◌⊕◌, mul as ◌⊗◌, neg, inv}

  equal_from_sub : (c d : List A) → length c ≡ length d → Each (λ a. a ≡ 𝟘) (sub_lists F c d) → c ≡ d
  equal_from_sub [] [] e h = refl
  equal_from_sub [] (d ∷ ds) e h = absurd cc
  equal_from_sub (c ∷ cs) [] e h = absurd cc
  equal_from_sub (c ∷ cs) (d ∷ ds) e h = ap₂ (λ x y. x ∷ y) (sub-eq F L.ring h.0) (equal_from_sub cs ds (cc) h.1)

  sub_roots : (c d : List A) → length c ≡ length d → (xs : List A) → Each (λ x. val F c x ≡ val F d x) xs → Each (λ x. val F (sub_lists F c d) x ≡ 𝟘) xs
  sub_roots c d e [] h = tt
  sub_roots c d e (x ∷ xs) h = (val-sub F L.ring c d x e ∙ ap (λ t. sub F t (val F d x)) h.0 ∙ L.add_neg (val F d x), sub_roots c d e xs h.1)

  -- polynomials of one length that agree at as many distinct points are equal
  pub equal_from_values : (c d xs : List A) → length c ≡ length d → length c ≤ length xs → Distinct xs → Each (λ x. val F c x ≡ val F d x) xs → c ≡ d
  equal_from_values c d xs e n s h = equal_from_sub c d e (zero_from_roots F L (sub_lists F c d) xs (omega (arith, n, length-sub_lists F c d e)) s (sub_roots c d e xs h))

  pub interpolates_unique : (xs ys c d : List A) → Distinct xs → Interpolates F xs ys c → Interpolates F xs ys d → c ≡ d
  interpolates_unique xs ys c d s p q = equal_from_values c d xs (p.count ∙ sym q.count) (omega (arith, p.count)) s (map-each (λ x. val F c x) (λ x. val F d x) xs (p.values ∙ sym q.values))

  through : (x y : A) (q xs ys : List A) → length xs ≡ length ys → Off x xs → map (λ t. val F q t) xs ≡ slopes F x y xs ys → map (λ t. val F (plus_multiple F x y q) t) xs ≡ ys
  through x y q [] [] n off h = refl
  through x y q [] (b ∷ bs) n off h = absurd cc
  through x y q (a ∷ p) [] n off h = absurd cc
  through x y q (a ∷ p) (b ∷ bs) n off h = ap₂ (λ s t. s ∷ t) (val-plus_multiple F L.ring x y q a ∙ step) (through x y q p bs (cc) off.1 (tail_eq h))
    where
      step : y ⊕ sub F a x ⊗ val F q a ≡ b
      step = combine2 F L.ring {k = sub F a x} {k' = sub F b y} (head_eq h) (L.mul_inv (sub F a x) (λ z. off.0 (sub-eq F L.ring z)))
          (ring F L.ring 6 (λ a x y b q i. y :+ (a :- x) :* q :+ ((a :- x) :* ((b :- y) :* i) :+ (b :- y) :* :1) := b :+ ((a :- x) :* q :+ (b :- y) :* ((a :- x) :* i))) refl a x y b (val F q a) (inv (sub F a x)))

  pub interpolant_interpolates : (xs ys : List A) → length xs ≡ length ys → Distinct xs → Interpolates F xs ys (interpolant F xs ys)
  interpolant_interpolates [] [] n d = record { count = refl; values = refl }
  interpolant_interpolates [] (y ∷ ys) n d = absurd cc
  interpolant_interpolates (x ∷ xs) [] n d = absurd cc
  interpolant_interpolates (x ∷ xs) (y ∷ ys) n d =
      let rest : Interpolates F xs (slopes F x y xs ys) (interpolant F xs (slopes F x y xs ys)) = interpolant_interpolates xs (slopes F x y xs ys) (sym (length-slopes F x y xs ys (cc))) d.1 in
      record {
        count = length-plus_multiple F x y (interpolant F xs (slopes F x y xs ys)) ∙ ap suc rest.count;
        values = ap₂ (λ s t. s ∷ t) (val-plus_multiple F L.ring x y (interpolant F xs (slopes F x y xs ys)) x ∙ ring F L.ring 3 (λ x y q. y :+ (x :- x) :* q := y) refl x y (val F (interpolant F xs (slopes F x y xs ys)) x))
            (through x y (interpolant F xs (slopes F x y xs ys)) xs ys (cc) d.0 rest.values);
      }
