-- What a batch of quotients shows of its columns.
use Rattle.std.proofs.Common.{◌≡◌, ◌≢◌, ℕ, suc, ◌+◌, ◌*◌, ◌^◌, ◌<◌, ◌≤◌, List, [], ◌∷◌, length, map, get_or, All}
use Rattle.std.proofs.Common.{refl, sym, ap, ◌∙◌, subst, arith}
use Rattle.std.proofs.lemmas.List.{length-map, get_or-map}
use Rattle.algebra.specs.Field.{FieldOps, IsField, sub}
use Rattle.algebra.specs.Polynomial.{val}
use Rattle.algebra.specs.Interpolation.{AreDistinct, plus_multiple}
use Rattle.algebra.specs.TwoAdic.{AreRoots, pt}
use Rattle.algebra.proofs.Ring.{◌:+◌, ◌:*◌, ◌:-◌, ◌:=◌, ring, :1}
use Rattle.algebra.proofs.Combine.{combine, sub-eq}
use Rattle.algebra.proofs.Values.{stretched, val-stretched}
use Rattle.algebra.proofs.Division.{length-plus_multiple, val-plus_multiple}
use Rattle.algebra.proofs.Points.{domain_distinct}
use Rattle.algebra.proofs.Lists.{length-tabulate, get_or-tabulate, map-tabulate}
use Rattle.fri_soundness.specs.Counting.{AllBut, AtMost}
use Rattle.fri_soundness.specs.Curves.{Row, Meets, HasValues, IsClose, IsCorrelated, IsBad, AreRows}
use Rattle.fri_soundness.specs.FoldTests.{indices, AgreesWhere}
use Rattle.fri_soundness.specs.Batches.{OpenedColumn, quotient_at, batch_row, batch_rows, batch_word, IsOpenedWhere}
use Rattle.fri_soundness.proofs.OneRound.{few_are_bad}
use Rattle.fri_soundness.proofs.Decided.{correlated_unless_bad}
use Rattle.fri_soundness.proofs.SoundTests.{all_but-tabulate}

module _ {A : Type 0} (F : FieldOps A) (L : IsField F) where
  infixl 65 ◌⊕◌
  infixl 70 ◌⊗◌
  open F use {zero as 𝟘, one as 𝟙, add as ◌⊕◌, mul as ◌⊗◌, neg, inv}

  -- off `z`, where `q` has the quotient of `u` for its value, `y + (X - z) * q` has `u`
  value_elsewhere : (z y x u v : A) → x ≢ z → sub F y u ⊗ inv (sub F z x) ≡ v → u ≡ y ⊕ sub F x z ⊗ v
  value_elsewhere z y x u v off e =
      sym (ap (λ t. y ⊕ sub F x z ⊗ t) (sym e)
      ∙ combine F L.ring {k = sub F u y} (L.mul_inv (sub F z x) (λ none. off (sym (sub-eq F L.ring none))))
      (ring F L.ring 5 (λ z y x u i. y :+ (x :- z) :* ((y :- u) :* i) :+ (u :- y) :* :1 := u :+ (u :- y) :* ((z :- x) :* i)) refl z y x u (inv (sub F z x))))

  unstretched : (shift : A) (q : List A) (x : A) → shift ≢ 𝟘 → val F (stretched F 𝟙 (inv shift) q) (shift ⊗ x) ≡ val F q x
  unstretched shift q x nonzero =
      val-stretched F L.ring 𝟙 (inv shift) q (shift ⊗ x)
      ∙ L.mul_comm 𝟙 (val F q (inv shift ⊗ (shift ⊗ x)))
      ∙ L.mul_one (val F q (inv shift ⊗ (shift ⊗ x)))
      ∙ ap (λ t. val F q t) (combine F L.ring {k = x} (L.mul_inv shift nonzero) (ring F L.ring 3 (λ s i x. i :* (s :* x) :+ x :* :1 := x :+ x :* (s :* i)) refl shift (inv shift) x))

length-stretched : {A : Type 0} (F : FieldOps A) (k s : A) (c : List A) → length (stretched F k s c) ≡ length c
length-stretched F k s [] = refl
length-stretched F k s (c ∷ cs) = ap suc (length-stretched F (F.mul k s) s cs)

module _ {A : Type 0} (F : FieldOps A) (L : IsField F) (top : ℕ) (w : ℕ → A) (W : AreRoots F top w) (shift : A) (nonzero : shift ≢ F.zero)
    (h k l e : ℕ) (ts : List (OpenedColumn A)) (within : h ≤ top) (count : length ts ≡ l + 1) (enough : (l + 2) * e + k ≤ 2 ^ h) where
  are_rows : AreRows F (batch_rows F w shift h ts) k l e
  are_rows = record {
    distinct = subst AreDistinct (sym (map-tabulate (λ (row : Row A). row.point) (2 ^ h) (batch_row F w shift h ts))) (domain_distinct F L top w W h within);
    words = λ i d b. ap (λ (row : Row A). length row.entries)
        (get_or-tabulate (2 ^ h) (batch_row F w shift h ts) i d (omega (arith, b, length-tabulate (2 ^ h) (batch_row F w shift h ts))))
        ∙ length-map ts (λ t. quotient_at F w shift h i t) ∙ count;
    enough = omega (arith, enough, length-tabulate (2 ^ h) (batch_row F w shift h ts));
  }

  pub few_batches : AtMost (IsBad F (batch_rows F w shift h ts) k l e) (l * (e + 1))
  few_batches = few_are_bad F L (batch_rows F w shift h ts) k l e are_rows

  module _ (alpha : A) (Q : ℕ → Type 0) (good : ¬ (IsBad F (batch_rows F w shift h ts) k l e alpha))
      (few : AllBut Q e (indices h)) (agrees : AgreesWhere F w h k Q (batch_word F w shift h alpha ts)) where
    meets_at : (i : ℕ) → i < 2 ^ h → Q i → Meets F alpha agrees.polynomial (batch_row F w shift h ts i)
    meets_at i b q = sym (get_or-tabulate (2 ^ h) (λ i. val F (map (λ t. quotient_at F w shift h i t) ts) alpha) i F.zero b) ∙ agrees.values i b q

    close : IsClose F (batch_rows F w shift h ts) k e alpha agrees.polynomial
    close = record {
      degree = agrees.degree;
      meets = all_but-tabulate Q (Meets F alpha agrees.polynomial) e (2 ^ h) (λ i. i) (batch_row F w shift h ts) meets_at few;
    }

    correlated : IsCorrelated F (batch_rows F w shift h ts) k l alpha agrees.polynomial
    correlated = correlated_unless_bad F L (batch_rows F w shift h ts) k l e are_rows alpha agrees.polynomial close good

    values_at : (i : ℕ) → i < 2 ^ h → Q i → HasValues F correlated.polynomials (batch_row F w shift h ts i)
    values_at i b q =
        subst (λ row. Meets F alpha agrees.polynomial row → HasValues F correlated.polynomials row) (get_or-tabulate (2 ^ h) (batch_row F w shift h ts) i (batch_row F w shift h ts i) b)
        (correlated.values i (batch_row F w shift h ts i) (omega (arith, b, length-tabulate (2 ^ h) (batch_row F w shift h ts)))) (meets_at i b q)

    quotient_is : (n : ℕ) (d : OpenedColumn A) → n < length ts → (i : ℕ) → i < 2 ^ h → Q i
        → quotient_at F w shift h i (get_or ts n d) ≡ val F (get_or correlated.polynomials n []) (pt F w i h)
    quotient_is n d c i b q =
        sym (get_or-map (λ t. quotient_at F w shift h i t) ts n d F.zero c)
        ∙ ap (λ us. get_or us n F.zero) (values_at i b q)
        ∙ get_or-map (λ p. val F p (pt F w i h)) correlated.polynomials n [] F.zero (omega (arith, c, count, correlated.count))

    pub opened : All (IsOpenedWhere F w shift h (k + 1) Q) ts
    opened n d c =
        let t = get_or ts n d in
        let q = get_or correlated.polynomials n [] in
        let p = stretched F F.one (F.inv shift) q in
        record {
          polynomial = plus_multiple F t.point t.claim p;
          degree = length-plus_multiple F t.point t.claim p
              ∙ ap suc (length-stretched F F.one (F.inv shift) q ∙ correlated.degrees n [] (omega (arith, c, count, correlated.count)))
              ∙ (let s : suc k ≡ k + 1 = omega arith in s);
          claim = val-plus_multiple F L.ring t.point t.claim p t.point
              ∙ ring F L.ring 3 (λ z y v. y :+ (z :- z) :* v := y) refl t.point t.claim (val F p t.point);
          values = λ i b holds off.
              value_elsewhere F L t.point t.claim (F.mul shift (pt F w i h)) (get_or t.column i F.zero) (val F q (pt F w i h)) off (quotient_is n d c i b holds)
              ∙ ap (λ v. F.add t.claim (F.mul (sub F (F.mul shift (pt F w i h)) t.point) v)) (sym (unstretched F L shift q (pt F w i h) nonzero))
              ∙ sym (val-plus_multiple F L.ring t.point t.claim p (F.mul shift (pt F w i h)));
        }
