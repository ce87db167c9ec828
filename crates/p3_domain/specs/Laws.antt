-- The statements of the law function.
use Rattle.std.specs.Prelude.{◌≡◌, ◌<◌, ℕ, ◌+◌, ◌*◌, ◌^◌, List, [], length, map, slice_index_or}
use Rattle.algebra.specs.Field.{FieldOps}
use Rattle.algebra.specs.Quotients.{values_at}
use Rattle.algebra.specs.RecombinedQuotients.{recombined}
use Rattle.stark_algebra.specs.Degrees.{HasDegreeBelow}
use Rattle.p3_uni_stark_identity.specs.Chunks.{quotient_at}
use Rattle.p3_uni_stark_identity.specs.Laws.{AreQuotientChunks, IsOffSubgroup}
use Rattle.p3_domain.specs.Domains.{domain_point}

module _ {A E : Type 0} (F : FieldOps A) (K : FieldOps E) (lift : A → E) (w : ℕ → A) where
  -- polynomials that have on the cosets of these shifts and of `2^k` points the values of one of
  -- degree below the number of all these points recombine to it at each point
  abbrev pub Recombine : (k : ℕ) (shifts : List A) → Type 0
  Recombine k shifts = (q : E → E) → HasDegreeBelow K (length shifts * 2 ^ k) q
      → (v : ℕ → E → E) → ((i : ℕ) → i < length shifts → HasDegreeBelow K (2 ^ k) (v i))
      → ((i j : ℕ) → i < length shifts → j < 2 ^ k
      → v i (lift (domain_point F w k (slice_index_or shifts i F.zero) j))
      ≡ q (lift (domain_point F w k (slice_index_or shifts i F.zero) j)))
      → (z : E) → recombined K (length shifts) k (λ i. lift (slice_index_or shifts i F.zero))
      (λ i. v i z) z ≡ q z

  -- so do chunks of columns over the smaller field, of the coefficients of its values there, where
  -- the coset that is split into those of these shifts is off the subgroup of `2^k` points
  abbrev pub ColumnsRecombine : (dimension : ℕ) (basis : ℕ → E) (coefficients : E → List A)
      (k d : ℕ) (shift : A) (shifts : List A) → Type 0
  ColumnsRecombine dimension basis coefficients k d shift shifts =
      IsOffSubgroup F (w (k + d)) shift k
      → (q : E → E) → HasDegreeBelow K (2 ^ d * 2 ^ k) q → (chunks : List (List (List A)))
      → AreQuotientChunks F lift w shift k d dimension
      (λ x e. slice_index_or (coefficients x) e F.zero) q chunks
      → (z : E) → quotient_at K dimension basis k (map lift shifts)
      (map (λ chunk. values_at F K lift chunk z) chunks) z ≡ q z
