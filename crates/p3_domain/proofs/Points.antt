-- Points of a domain, over its shift and one after another.
use Rattle.std.proofs.Common.{◌≡◌, ◌≢◌, ℕ, ◌+◌, ◌%◌, ◌^◌, ◌≤◌, ◌↔◌, Contains, refl, sym, ap, ap₂, subst}
use Rattle.std.proofs.Common.{◌∙◌, arith}
use Rattle.algebra.specs.Field.{FieldOps, IsRing, IsField, IsHomomorphism, sub, pow}
use Rattle.algebra.specs.TwoAdic.{AreRoots}
use Rattle.algebra.specs.Cosets.{vanishing}
use Rattle.algebra.proofs.Combine.{cancel_zero}
use Rattle.algebra.proofs.Lifting.{homomorphism-inv, homomorphism-nonzero}
use Rattle.algebra.proofs.Points.{lifted_roots}
use Rattle.algebra.proofs.Ring.{◌:*◌, ◌:=◌, ring}
use Rattle.algebra.proofs.RingLaws.{mul_zero}
use Rattle.p3_field_core.specs.Coset.{coset_point, coset_points}
use Rattle.p3_field_core.proofs.Cosets.{vanishes_exactly}
use Rattle.stark_algebra.specs.Selectors.{zerofier}
use Rattle.p3_uni_stark_identity.specs.Laws.{IsOffSubgroup}
use Rattle.p3_uni_stark_quotient.proofs.Honest.{next_on_coset}
use Rattle.p3_domain.specs.Domains.{IsOffDomain}

module _ {A : Type 0} (F : FieldOps A) (L : IsField F) (s : A) (n : s ≢ F.zero) where
  inverse_nonzero : F.inv s ≢ F.zero
  inverse_nonzero e = L.one_not_zero
      (sym (L.mul_inv s n) ∙ ap (λ x. F.mul s x) e ∙ mul_zero F L.ring s)

  -- a shift over another, and a shift times another element, aren't zero
  pub over_nonzero : (t x : A) → t ≢ F.zero → x ≡ F.mul t (F.inv s) → x ≢ F.zero
  over_nonzero t x m is e = inverse_nonzero (cancel_zero F L t (F.inv s) m (sym is ∙ e))

  pub times_nonzero : (t x : A) → t ≢ F.zero → x ≡ F.mul s t → x ≢ F.zero
  times_nonzero t x m is e = m (cancel_zero F L s t n (sym is ∙ e))

  -- a point over a shift is a point at the shift over that
  pub point_over : (r t x : A) (i : ℕ) → x ≡ F.mul t (F.inv s)
      → F.mul (coset_point F r t i) (F.inv s) ≡ coset_point F r x i
  point_over r t x i is =
      ring F L.ring 3 (λ t p v. t :* p :* v := t :* v :* p) refl t (pow F r i) (F.inv s)
      ∙ ap (λ y. F.mul y (pow F r i)) (sym is)

  -- what vanishes on a domain, at points of another, is what does on its subgroup at points at the
  -- shift over its own
  pub off_over : (w : ℕ → A) (k m : ℕ) (t x : A) → x ≡ F.mul t (F.inv s)
      → IsOffDomain F w k s m t → IsOffSubgroup F (w m) x k
  off_over w k m t x is off i e =
      off i (ap (λ y. zerofier F (2 ^ k) y) (point_over (w m) t x i is) ∙ e)

  -- and the other way round, of the shift times another
  pub off_times : (w : ℕ → A) (k m : ℕ) (g t : A) → t ≡ F.mul s g → IsOffSubgroup F (w m) g k
      → IsOffDomain F w k s m t
  off_times w k m g t is off i e =
      off i (ap (λ y. zerofier F (2 ^ k) y) (sym (point_over (w m) t g i over)) ∙ e)
    where
      over : g ≡ F.mul t (F.inv s)
      over = sym (ap (λ y. F.mul y (F.inv s)) is
          ∙ ring F L.ring 3 (λ s g v. s :* g :* v := g :* (s :* v)) refl s g (F.inv s)
          ∙ ap (λ y. F.mul g y) (L.mul_inv s n) ∙ L.mul_one g)

-- a point of the extension over the shift
module _ {A E : Type 0} (F : FieldOps A) (L : IsField F) (K : FieldOps E) (M : IsField K)
    (lift : A → E) (H : IsHomomorphism F K lift) (s : A) (n : s ≢ F.zero) where
  pub lifted_over : (z x : E) (v : A) → v ≡ F.inv s → x ≡ K.mul z (lift v)
      → x ≡ K.mul z (K.inv (lift s))
  lifted_over z x v inverse is =
      is ∙ ap (λ y. K.mul z y) (ap lift inverse ∙ homomorphism-inv F K lift L M H s n)

module _ {A E : Type 0} (F : FieldOps A) (L : IsField F) (K : FieldOps E) (M : IsField K)
    (lift : A → E) (H : IsHomomorphism F K lift) (top : ℕ) (w : ℕ → A) (W : AreRoots F top w)
    (k : ℕ) (b : k ≤ top) (s : A) where
  -- the next point, after the last the first
  turned : (i : ℕ) → coset_point F (w k) s ((i + 1) % 2 ^ k) ≡ F.mul (w k) (coset_point F (w k) s i)
  turned i = let e : k + 0 ≡ k = omega arith in
      subst (λ m. coset_point F (w m) s ((i + 1) % 2 ^ m) ≡ F.mul (w k) (coset_point F (w m) s i)) e
      (next_on_coset F L top w W k 0 (omega (arith, b)) s i)

  pub next_point : (i : ℕ) (z x : E) → z ≡ lift (coset_point F (w k) s i)
      → x ≡ K.mul z (lift (w k)) → x ≡ lift (coset_point F (w k) s ((i + 1) % 2 ^ k))
  next_point i z x at is =
      is ∙ ap (λ y. K.mul y (lift (w k))) at ∙ sym (H.mul (coset_point F (w k) s i) (w k))
      ∙ ap lift (L.mul_comm (coset_point F (w k) s i) (w k) ∙ sym (turned i))

  -- the zeros of what vanishes on the domain, in the extension
  pub zeros : (n : s ≢ F.zero) (z v : E) → v ≡ vanishing K (lift s) k z
      → (v ≡ K.zero) ↔ Contains (coset_points K (lift (w k)) (lift s) k) z
  zeros n z v is =
      let exactly = vanishes_exactly K M top (λ j. lift (w j))
      (lifted_roots F K lift L M H top w W) k b (lift s) (homomorphism-nonzero F K lift L M H s n) in
      let h = exactly.zeros z in (
        λ e. h.0 (sym is ∙ e),
        λ c. is ∙ h.1 c,
      )
