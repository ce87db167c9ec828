-- Tables of inverse differences: each entry serves all smaller cosets.
use Rattle.std.proofs.Common.{◌≡◌, ◌≢◌, ◌≤◌, ◌<◌, ℕ, zero, suc, ◌+◌, ◌-◌, ◌^◌, List, [], ◌∷◌, length, map, take, All, sym, ap, ◌∙◌, subst, arith}
use Rattle.std.specs.Vec.{vec_len}
use Rattle.std.specs.List.{take-map}
use Rattle.std.proofs.Math.Nat.{pow-le-pow_right}
use Rattle.std.proofs.lemmas.List.{length-map}
use Rattle.algebra.specs.Field.{IsField, IsRing, sub}
use Rattle.algebra.specs.Polynomial.{tabulate}
use Rattle.algebra.specs.TwoAdic.{AreRoots, pt}
use Rattle.algebra.specs.Cosets.{coset_pt, IsOffCoset}
use Rattle.algebra.proofs.Lists.{tabulate-equal, length-tabulate, Each, All_from_each}
use Rattle.algebra.proofs.Combine.{sub-eq}
use Rattle.algebra.proofs.Words.{point-restrict, take-tabulate}
use Rattle.p3_fri_relation.specs.Setting.{Fields}
use Rattle.p3_fri_openings.specs.declared.denominators.PointDenominators.{PointDenominators}
use Rattle.p3_fri_openings.specs.Log2.{log2}
use Rattle.p3_fri_openings.specs.Committed.{coset_of, inverse_differences}
use Rattle.p3_fri_openings.specs.Denominators.{AreInverses, IsCovered}
use Rattle.p3_fri_openings.proofs.Committed.{coset_of_pow}
use Rattle.p3_field_core.proofs.IndexPowers.{exponent_at_most}

-- a covered point is found
pub found : {E : Type 0} (table : List (PointDenominators E)) (n : ℕ) (z : E) → IsCovered n table z
    → All (λ entry. (entry.point ≡ z) → n ≤ vec_len entry.inverses → ⊥) table → ⊥
found [] n z c none = absurd (let w = c.within in omega (arith, w))
found (e ∷ table) n z c none = none c.place e c.within (c.point e) (c.tall e)

module _ {F E : Type 0} (f : Fields F E) (L : IsField f.base) (W : AreRoots f.base f.two_adicity f.root) where
  pub coset_taken : (h H : ℕ) → h ≤ H → H ≤ f.two_adicity → take (2 ^ h) (coset_of f (2 ^ H)) ≡ coset_of f (2 ^ h)
  coset_taken h H l b =
      ap (λ xs. take (2 ^ h) xs) (coset_of_pow f H)
      ∙ take-tabulate (2 ^ h) (2 ^ H) (λ i. coset_pt f.base f.root f.shift i H)
      (pow-le-pow_right {n = 2} (omega arith) {i = h} {j = H} l)
      ∙ tabulate-equal (2 ^ h) (λ i. coset_pt f.base f.root f.shift i H) (λ i. coset_pt f.base f.root f.shift i h)
      (λ i m. ap (λ p. f.base.mul f.shift p) (point-restrict' i m))
      ∙ sym (coset_of_pow f h)
    where
      whole : h + (H - h) ≡ H
      whole = omega (arith, l)

      point-restrict' : (i : ℕ) → i < 2 ^ h → pt f.base f.root i H ≡ pt f.base f.root i h
      point-restrict' i m =
          ap (λ k. pt f.base f.root i k) (sym whole)
          ∙ point-restrict f.base L f.two_adicity f.root W i h (H - h) m (omega (arith, whole, b))

  pub taken : (h : ℕ) (z : E) (entry : PointDenominators E) → AreInverses f entry → entry.point ≡ z
      → 2 ^ h ≤ vec_len entry.inverses
      → take (2 ^ h) entry.inverses.items ≡ inverse_differences f z (2 ^ h)
  taken h z entry a e tall =
      let size : length entry.inverses.items ≡ 2 ^ a.log_height =
      ap length a.inverses_are
      ∙ length-map (coset_of f (2 ^ a.log_height)) (λ x. f.ext.inv (sub f.ext entry.point (f.lift x)))
      ∙ length-tabulate (2 ^ a.log_height) (λ i. coset_pt f.base f.root f.shift i (log2 (2 ^ a.log_height))) in
      let long : vec_len entry.inverses ≡ length entry.inverses.items = entry.inverses.ok.0 in
      let low : h ≤ a.log_height = exponent_at_most h a.log_height (omega (arith, tall, long, size)) in
      ap (λ xs. take (2 ^ h) xs) a.inverses_are
      ∙ take-map (λ x. f.ext.inv (sub f.ext entry.point (f.lift x))) (2 ^ h) (coset_of f (2 ^ a.log_height))
      ∙ ap (λ xs. map (λ x. f.ext.inv (sub f.ext entry.point (f.lift x))) xs) (coset_taken h a.log_height low a.within)
      ∙ ap (λ y. inverse_differences f y (2 ^ h)) e

  -- none of the differences of a point and a coset that it doesn't lie in is zero
  pub differences_nonzero : (R : IsRing f.ext) (h : ℕ) (z : E) → IsOffCoset f.base f.lift f.root f.shift h z
      → All (λ x. x ≢ f.ext.zero) (map (λ x. sub f.ext z (f.lift x)) (coset_of f (2 ^ h)))
  differences_nonzero R h z off =
      subst (λ xs. All (λ x. x ≢ f.ext.zero) (map (λ x. sub f.ext z (f.lift x)) xs)) (sym (coset_of_pow f h))
      (All_from_each (λ x. x ≢ f.ext.zero) _ (each (2 ^ h) (λ i. coset_pt f.base f.root f.shift i h)
      (λ i l e. off i l (sym (sub-eq f.ext R e)))))
    where
      each : (n : ℕ) (p : ℕ → F) → ((i : ℕ) → i < n → sub f.ext z (f.lift (p i)) ≢ f.ext.zero)
          → Each (λ x. x ≢ f.ext.zero) (map (λ x. sub f.ext z (f.lift x)) (tabulate n p))
      each zero p h = tt
      each (suc n) p h = (h 0 (omega arith), each n (λ i. p (suc i)) (λ i l. h (suc i) (omega (arith, l))))
