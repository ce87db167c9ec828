-- A domain that is split.
use Rattle.std.proofs.Common.{◌≡◌, ◌≢◌, ℕ, ◌+◌, ◌*◌, ◌^◌, ◌<◌, ◌≤◌, List, [], length, map, get_or, All}
use Rattle.std.proofs.Common.{refl, sym, ap, ap₂, subst, ◌∙◌, arith}
use Rattle.algebra.specs.Field.{FieldOps, IsField, IsHomomorphism, pow}
use Rattle.algebra.specs.Polynomial.{tabulate}
use Rattle.algebra.specs.Quotients.{values_at}
use Rattle.algebra.specs.TwoAdic.{AreRoots}
use Rattle.algebra.proofs.Lists.{length-tabulate, get_or-tabulate}
use Rattle.p3_field_core.specs.Coset.{coset_point}
use Rattle.p3_field_core.proofs.IndexPowers.{exponents_agree}
use Rattle.stark_algebra.specs.Laws.{IsSplit, HasBasis}
use Rattle.stark_algebra.proofs.Recombined.{cosets_split}
use Rattle.p3_uni_stark_identity.specs.Chunks.{AreChunkDomains, chunk_shifts}
use Rattle.p3_domain.specs.Domains.{IsSplitInto}

module _ {A : Type 0} (F : FieldOps A) (L : IsField F) (top : ℕ) (w : ℕ → A) (W : AreRoots F top w)
    (n : ℕ) (b : n ≤ top) (s : A) (nonzero : s ≢ F.zero) where
  points_are : (k d : ℕ) → k + d ≡ n → (i j : ℕ)
      → coset_point F (w k) (coset_point F (w n) s i) j ≡ coset_point F (w n) s (i + j * 2 ^ d)
  points_are k d e i j =
      subst (λ m. coset_point F (w k) (coset_point F (w m) s i) j
      ≡ coset_point F (w m) s (i + j * 2 ^ d)) e (whole.points i j)
    where
      whole : IsSplit F w s k d
      whole = cosets_split F L top w W s nonzero k d (omega (arith, e, b))

  -- the cosets into which that of the domain is split
  pub split_into : (k e d c : ℕ) (sizes : List ℕ) (shifts : List A) → k + e ≡ n → 2 ^ e ≡ c → c ≡ 2 ^ d
      → All (λ m. m ≡ k) sizes → shifts ≡ chunk_shifts F w s k e → AreChunkDomains F sizes shifts
      → IsSplitInto F w n s d sizes shifts
  split_into k e d c sizes shifts whole power count all are apart =
      subst (λ d. IsSplitInto F w n s d sizes shifts) (exponents_agree e d (power ∙ count)) (record {
        sizes = λ i z l. ap (λ m. m + e) (all i z l) ∙ whole;
        firsts = firsts;
        points = λ i j m l h. ap (λ x. coset_point F (w m) x j)
            (ap (λ xs. get_or xs i F.zero) firsts
            ∙ get_or-tabulate (2 ^ e) (coset_point F (w n) s) i F.zero l)
            ∙ points_are m e h i j;
        apart = apart;
      })
    where
      firsts : shifts ≡ tabulate (2 ^ e) (coset_point F (w n) s)
      firsts = subst (λ m. shifts ≡ tabulate (2 ^ e) (coset_point F (w m) s)) whole are
