-- Chunks whose columns lie in the base field.
use Rattle.std.proofs.Common.{◌≡◌, ◌≢◌, ℕ, ◌*◌, ◌^◌, ◌<◌, ◌≤◌, List, length, map, get_or}
use Rattle.std.proofs.Common.{refl, sym, ap, ap₂, ◌∙◌, arith}
use Rattle.std.proofs.lemmas.List.{length-map}
use Rattle.algebra.specs.Field.{FieldOps, IsField, IsHomomorphism, pow}
use Rattle.algebra.specs.Polynomial.{val, tabulate, sum_below}
use Rattle.algebra.specs.TwoAdic.{AreRoots}
use Rattle.algebra.specs.Cosets.{vanishing}
use Rattle.algebra.specs.Interpolation.{Interpolates, interpolant}
use Rattle.algebra.specs.RecombinedQuotients.{ChunksApart, chunk_factor, recombined}
use Rattle.algebra.proofs.Ring.{◌:*◌, ◌:=◌, ring}
use Rattle.algebra.proofs.Combine.{cancel_factor}
use Rattle.algebra.proofs.Powers.{homomorphism-pow}
use Rattle.algebra.proofs.Points.{lifted_roots, powers_differ}
use Rattle.algebra.proofs.Lifting.{homomorphism-sub, homomorphism-inv, homomorphism-nonzero, homomorphism-zero}
use Rattle.algebra.proofs.Values.{homomorphism-val}
use Rattle.algebra.proofs.PolynomialProduct.{sum_below-equal}
use Rattle.algebra.proofs.Sums.{sum_below-factor, sum_below-swap}
use Rattle.algebra.proofs.Interpolation.{interpolant_interpolates}
use Rattle.algebra.proofs.Lists.{Distinct, distinct-tabulate, length-tabulate, get_or-tabulate, map-tabulate}
use Rattle.stark_algebra.specs.Degrees.{HasDegreeBelow}
use Rattle.stark_algebra.specs.Laws.{HasBasis, chunk_column}
use Rattle.stark_algebra.proofs.Degrees.{degree-scale}
use Rattle.stark_algebra.proofs.Recombined.{chunks_recombine, sum-degree}

-- sums of recombined columns are recombined sums
module _ {E : Type 0} (K : FieldOps E) (M : IsField K) (n k d : ℕ) (s : ℕ → E) (b : ℕ → E) (u : ℕ → ℕ → E) (z : E) where
  open K use {mul as ◌⊗◌}

  infixl 70 ◌⊗◌
  recombined-sum : sum_below K d (λ e. b e ⊗ recombined K n k s (λ i. u i e) z)
      ≡ recombined K n k s (λ i. sum_below K d (λ e. b e ⊗ u i e)) z
  unfolding recombined
  recombined-sum =
      sum_below-equal K d (λ e. b e ⊗ sum_below K n (λ i. u i e ⊗ chunk_factor K n k s i z))
      (λ e. sum_below K n (λ i. b e ⊗ (u i e ⊗ chunk_factor K n k s i z)))
      (λ e _. sym (sum_below-factor K M.ring (b e) n (λ i. u i e ⊗ chunk_factor K n k s i z)))
      ∙ sum_below-swap K M.ring d n (λ e i. b e ⊗ (u i e ⊗ chunk_factor K n k s i z))
      ∙ sum_below-equal K n (λ i. sum_below K d (λ e. b e ⊗ (u i e ⊗ chunk_factor K n k s i z)))
      (λ i. sum_below K d (λ e. b e ⊗ u i e) ⊗ chunk_factor K n k s i z)
      (λ i _. sum_below-equal K d (λ e. b e ⊗ (u i e ⊗ chunk_factor K n k s i z)) (λ e. chunk_factor K n k s i z ⊗ (b e ⊗ u i e))
      (λ e _. ring K M.ring 3 (λ b u f. b :* (u :* f) := f :* (b :* u)) refl (b e) (u i e) (chunk_factor K n k s i z))
      ∙ sum_below-factor K M.ring (chunk_factor K n k s i z) d (λ e. b e ⊗ u i e)
      ∙ M.mul_comm (chunk_factor K n k s i z) (sum_below K d (λ e. b e ⊗ u i e)))

module _ {A E : Type 0} (F : FieldOps A) (L : IsField F) (K : FieldOps E) (M : IsField K) (lift : A → E)
    (H : IsHomomorphism F K lift) (top : ℕ) (w : ℕ → A) (W : AreRoots F top w) (k : ℕ) (t : k ≤ top) where
  -- lifted vanishing polynomials
  pub lifted_vanishing : (s x : A) → s ≢ F.zero → lift (vanishing F s k x) ≡ vanishing K (lift s) k (lift x)
  lifted_vanishing s x n =
      homomorphism-sub F K lift L.ring M.ring H (pow F (F.mul x (F.inv s)) (2 ^ k)) F.one
      ∙ ap₂ (λ a b. K.add a (K.neg b))
      (homomorphism-pow F K lift H (F.mul x (F.inv s)) (2 ^ k)
      ∙ ap (λ y. pow K y (2 ^ k)) (H.mul x (F.inv s) ∙ ap (λ y. K.mul (lift x) y) (homomorphism-inv F K lift L M H s n)))
      H.one

  lifted_apart : (n : ℕ) (s : ℕ → A) → ((i : ℕ) → i < n → s i ≢ F.zero) → ChunksApart F n k s → ChunksApart K n k (λ i. lift (s i))
  lifted_apart n s nonzero apart i j li lj other e =
      apart i j li lj other (homomorphism-zero F K lift L M H (vanishing F (s j) k (s i))
      (lifted_vanishing (s j) (s i) (nonzero j lj) ∙ e))

  lifted_point : (s : A) (j : ℕ) → K.mul (lift s) (pow K (lift (w k)) j) ≡ lift (F.mul s (pow F (w k) j))
  lifted_point s j = sym (H.mul s (pow F (w k) j) ∙ ap (λ y. K.mul (lift s) y) (homomorphism-pow F K lift H (w k) j))

  module _ (s : A) (n : s ≢ F.zero) (ys : ℕ → A) where
    abbrev points : List A
    points = tabulate (2 ^ k) (λ j. F.mul s (pow F (w k) j))

    points-distinct : Distinct points
    points-distinct = distinct-tabulate (2 ^ k) (λ j. F.mul s (pow F (w k) j)) (λ i j p q e.
        differ i j p (powers_differ F L top w W k i j t (omega (arith, p, q)) q (cancel_factor F L s (pow F (w k) i) (pow F (w k) j) n e)))
      where
        differ : (i j : ℕ) → i < j → i ≡ j → ⊥
        differ i j p e = omega (arith, p, e)

    through : Interpolates F points (tabulate (2 ^ k) ys) (interpolant F points (tabulate (2 ^ k) ys))
    through = interpolant_interpolates F L points (tabulate (2 ^ k) ys)
        (length-tabulate (2 ^ k) (λ j. F.mul s (pow F (w k) j)) ∙ sym (length-tabulate (2 ^ k) ys)) points-distinct

    column-length : length (interpolant F points (tabulate (2 ^ k) ys)) ≡ 2 ^ k
    column-length = let h = through in h.count ∙ length-tabulate (2 ^ k) (λ j. F.mul s (pow F (w k) j))

    column-there : (j : ℕ) → j < 2 ^ k → val F (interpolant F points (tabulate (2 ^ k) ys)) (F.mul s (pow F (w k) j)) ≡ ys j
    column-there j l =
        let h = through in
        let c = interpolant F points (tabulate (2 ^ k) ys) in
        sym (get_or-tabulate (2 ^ k) (λ j. val F c (F.mul s (pow F (w k) j))) j F.zero l)
        ∙ ap (λ xs. get_or xs j F.zero) (sym (map-tabulate (λ x. val F c x) (2 ^ k) (λ j. F.mul s (pow F (w k) j))) ∙ h.values)
        ∙ get_or-tabulate (2 ^ k) ys j F.zero l

  -- polynomials over the base field that have, on the cosets of chunks, the coefficients of the
  -- values of `q`, put together by the basis and recombined, are `q`
  pub given_columns_recombine : (n : ℕ) (s : ℕ → A) → ((i : ℕ) → i < n → s i ≢ F.zero)
      → ChunksApart F n k s → (d : ℕ) (basis : ℕ → E) (coefficient : E → ℕ → A)
      → HasBasis K lift d basis coefficient → (q : E → E) → HasDegreeBelow K (n * 2 ^ k) q
      → (column : ℕ → ℕ → List A)
      → ((i e : ℕ) → i < n → e < d → length (column i e) ≡ 2 ^ k)
      → ((i j e : ℕ) → i < n → j < 2 ^ k → e < d → val F (column i e) (F.mul (s i) (pow F (w k) j))
      ≡ coefficient (q (lift (F.mul (s i) (pow F (w k) j)))) e)
      → (z : E) → sum_below K d (λ e. K.mul (basis e) (recombined K n k (λ i. lift (s i))
      (λ i. val K (map lift (column i e)) z) z)) ≡ q z
  given_columns_recombine n s nonzero apart d basis coefficient has q dq column long holds z =
      recombined-sum K M n k d (λ i. lift (s i)) basis (λ i e. u i e z) z
      ∙ chunks_recombine K M top (λ j. lift (w j)) (lifted_roots F K lift L M H top w W) k t
      (λ i. lift (s i)) n (λ i l. homomorphism-nonzero F K lift L M H (s i) (nonzero i l))
      (lifted_apart n s nonzero apart) q dq
      (λ i x. sum_below K d (λ e. K.mul (basis e) (u i e x)))
      (λ i l. sum-degree K M.ring d (2 ^ k) (λ e x. K.mul (basis e) (u i e x))
      (λ e b. degree-scale K M.ring (2 ^ k) (basis e) (u i e) (record {
        polynomial = map lift (column i e);
        degree = length-map (column i e) lift ∙ long i e l b;
        values = λ x. refl;
      })))
      (λ i j li lj. sum_below-equal K d
      (λ e. K.mul (basis e) (u i e (K.mul (lift (s i)) (pow K (lift (w k)) j))))
      (λ e. K.mul (basis e)
      (lift (coefficient (q (K.mul (lift (s i)) (pow K (lift (w k)) j))) e)))
      (λ e b. ap (λ v. K.mul (basis e) v) (there i j e li lj b))
      ∙ sym (has.sum (q (K.mul (lift (s i)) (pow K (lift (w k)) j))))) z
    where
      u : ℕ → ℕ → E → E
      u i e x = val K (map lift (column i e)) x

      there : (i j e : ℕ) → i < n → j < 2 ^ k → e < d
          → u i e (K.mul (lift (s i)) (pow K (lift (w k)) j))
          ≡ lift (coefficient (q (K.mul (lift (s i)) (pow K (lift (w k)) j))) e)
      there i j e li lj le =
          ap (λ x. val K (map lift (column i e)) x) (lifted_point (s i) j)
          ∙ sym (homomorphism-val F K lift L.ring M.ring H (column i e)
          (F.mul (s i) (pow F (w k) j)))
          ∙ ap lift (holds i j e li lj le)
          ∙ ap (λ x. lift (coefficient (q x) e)) (sym (lifted_point (s i) j))

  pub columns_recombine : (n : ℕ) (s : ℕ → A) → ((i : ℕ) → i < n → s i ≢ F.zero)
      → ChunksApart F n k s → (d : ℕ) (basis : ℕ → E) (coefficient : E → ℕ → A)
      → HasBasis K lift d basis coefficient → (q : E → E) → HasDegreeBelow K (n * 2 ^ k) q
      → (z : E) → sum_below K d (λ e. K.mul (basis e) (recombined K n k (λ i. lift (s i))
      (λ i. val K (map lift (chunk_column F lift w k coefficient q (s i) e)) z) z)) ≡ q z
  columns_recombine n s nonzero apart d basis coefficient has q dq z =
      given_columns_recombine n s nonzero apart d basis coefficient has q dq
      (λ i e. chunk_column F lift w k coefficient q (s i) e)
      (λ i e l b. column-length (s i) (nonzero i l)
      (λ j. coefficient (q (lift (F.mul (s i) (pow F (w k) j)))) e))
      (λ i j e li lj le. column-there (s i) (nonzero i li)
      (λ j. coefficient (q (lift (F.mul (s i) (pow F (w k) j)))) e) j lj) z
