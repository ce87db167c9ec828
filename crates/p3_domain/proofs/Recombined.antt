-- What chunks on the pieces of a domain recombine to.
use Rattle.std.proofs.Common.{◌≡◌, ◌≢◌, ℕ, ◌+◌, ◌*◌, ◌^◌, ◌<◌, ◌≤◌, List, [], length, map, get_or}
use Rattle.std.proofs.Common.{refl, sym, ap, ap₂, subst, ◌∙◌, arith}
use Rattle.algebra.specs.Field.{FieldOps, IsField, IsHomomorphism, pow}
use Rattle.algebra.specs.Polynomial.{tabulate, sum_below}
use Rattle.algebra.specs.Quotients.{values_at}
use Rattle.algebra.specs.RecombinedQuotients.{recombined}
use Rattle.algebra.specs.TwoAdic.{AreRoots}
use Rattle.algebra.proofs.Lifting.{homomorphism-nonzero}
use Rattle.algebra.proofs.Lists.{length-tabulate, get_or-tabulate}
use Rattle.algebra.proofs.Points.{lifted_roots}
use Rattle.algebra.proofs.PolynomialProduct.{sum_below-equal}
use Rattle.algebra.proofs.Powers.{homomorphism-pow}
use Rattle.p3_field_core.specs.Basis.{unit_vector}
use Rattle.p3_field_core.specs.Coset.{coset_point}
use Rattle.stark_algebra.specs.Degrees.{HasDegreeBelow}
use Rattle.stark_algebra.specs.Laws.{IsSplit, HasBasis}
use Rattle.stark_algebra.proofs.Recombined.{chunks_recombine, cosets_split}
use Rattle.p3_uni_stark_identity.specs.Chunks.{quotient_at}
use Rattle.p3_uni_stark_identity.proofs.Complete.{quotient_found}
use Rattle.p3_uni_stark_identity.proofs.Recombination.{recombined_same}
use Rattle.p3_domain.specs.Domains.{IsSplitInto, domain_point}
use Rattle.p3_domain.specs.Laws.{Recombine, ColumnsRecombine}

-- an element is the sum of its coefficients times the basis
pub is_basis : {A E : Type 0} (K : FieldOps E) (M : IsField K) (lift : A → E) (dimension : ℕ)
    (basis : ℕ → E) (coefficient : E → ℕ → A)
    → ((x : E) → x ≡ sum_below K dimension (λ e. K.mul (lift (coefficient x e)) (basis e)))
    → HasBasis K lift dimension basis coefficient
is_basis K M lift dimension basis coefficient law = record {
  sum = λ x. law x ∙ sum_below-equal K dimension
      (λ e. K.mul (lift (coefficient x e)) (basis e))
      (λ e. K.mul (basis e) (lift (coefficient x e)))
      (λ e _. M.mul_comm (lift (coefficient x e)) (basis e));
}

module _ {A E : Type 0} (F : FieldOps A) (L : IsField F) (K : FieldOps E) (M : IsField K)
    (lift : A → E) (H : IsHomomorphism F K lift) (top : ℕ) (w : ℕ → A) (W : AreRoots F top w)
    (n : ℕ) (b : n ≤ top) (s : A) (nonzero : s ≢ F.zero) (k d : ℕ) (whole : k + d ≡ n)
    (sizes : List ℕ) (shifts : List A) (split : IsSplitInto F w n s d sizes shifts) where
  many : length shifts ≡ 2 ^ d
  many = ap length split.firsts ∙ length-tabulate (2 ^ d) (domain_point F w n s)

  fits : k + d ≤ top
  fits = omega (arith, whole, b)

  lifted_point : (r x : A) (j : ℕ) → lift (coset_point F r x j) ≡ coset_point K (lift r) (lift x) j
  lifted_point r x j =
      H.mul x (pow F r j) ∙ ap (λ y. K.mul (lift x) y) (homomorphism-pow F K lift H r j)

  -- the first point of a piece, in the extension
  abbrev first : ℕ → E
  first i = coset_point K (lift (w (k + d))) (lift s) i

  first_is : (i : ℕ) → i < 2 ^ d → lift (get_or shifts i F.zero) ≡ first i
  first_is i l =
      ap lift (ap (λ xs. get_or xs i F.zero) split.firsts
      ∙ get_or-tabulate (2 ^ d) (domain_point F w n s) i F.zero l
      ∙ ap (λ m. coset_point F (w m) s i) (sym whole))
      ∙ lifted_point (w (k + d)) s i

  abbrev lifted_split : IsSplit K (λ j. lift (w j)) (lift s) k d
  lifted_split = cosets_split K M top (λ j. lift (w j)) (lifted_roots F K lift L M H top w W)
      (lift s) (homomorphism-nonzero F K lift L M H s nonzero) k d fits

  pub polynomials_recombine : Recombine F K lift w k shifts
  polynomials_recombine q degree v degrees same z =
      ap (λ m. recombined K m k (λ i. lift (get_or shifts i F.zero)) (λ i. v i z) z) many
      ∙ recombined_same K M.ring (2 ^ d) k (λ i. lift (get_or shifts i F.zero)) first
      (λ i. v i z) (λ i. v i z) z first_is (λ i l. refl)
      ∙ chunks_recombine K M top (λ j. lift (w j)) (lifted_roots F K lift L M H top w W) k
      (omega (arith, fits)) first (2 ^ d) (λ i l. let h = lifted_split in h.nonzero i)
      (let h = lifted_split in h.apart) q (subst (λ m. HasDegreeBelow K (m * 2 ^ k) q) many degree)
      v (λ i l. degrees i (omega (arith, l, many)))
      (λ i j li lj. ap (λ x. v i x) (sym (there i j li))
      ∙ same i j (omega (arith, li, many)) lj ∙ ap q (there i j li)) z
    where
      there : (i j : ℕ) → i < 2 ^ d → lift (domain_point F w k (get_or shifts i F.zero) j)
          ≡ K.mul (first i) (pow K (lift (w k)) j)
      there i j l = lifted_point (w k) (get_or shifts i F.zero) j
          ∙ ap (λ x. K.mul x (pow K (lift (w k)) j)) (first_is i l)

  pub columns_recombine : (dimension : ℕ) (basis : ℕ → E) (coefficients : E → List A)
      → HasBasis K lift dimension basis (λ x e. get_or (coefficients x) e F.zero)
      → ColumnsRecombine F K lift w dimension basis coefficients k d s shifts
  columns_recombine dimension basis coefficients has off q degree chunks are z =
      ap (λ xs. quotient_at K dimension basis k (map lift xs)
      (map (λ chunk. values_at F K lift chunk z) chunks) z)
      (split.firsts ∙ ap (λ m. tabulate (2 ^ d) (coset_point F (w m) s)) (sym whole))
      ∙ quotient_found F L K M lift H top w W k d fits s nonzero off dimension basis
      (λ x e. get_or (coefficients x) e F.zero) has chunks z q are q degree (λ x _. refl)
