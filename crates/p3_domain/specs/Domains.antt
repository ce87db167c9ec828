-- Domains, by the logarithms of their sizes and by their shifts.
use Rattle.std.specs.Prelude.{◌≡◌, ◌≢◌, ◌<◌, ◌≤◌, ℕ, ◌+◌, ◌*◌, ◌^◌, List, [], All}
use Rattle.std.specs.Prelude.{slice_index_or}
use Rattle.algebra.specs.Field.{FieldOps, pow}
use Rattle.algebra.specs.Polynomial.{tabulate}
use Rattle.p3_field_core.specs.Coset.{coset_point, vanishing}
use Rattle.p3_uni_stark_identity.specs.Chunks.{AreChunkDomains}

-- `2^l` is the least power of two that isn't below `n`
pub record IsCeilLog (n l : ℕ) : Type 0 where
  pub enough : n ≤ 2 ^ l
  pub least : (j : ℕ) → n ≤ 2 ^ j → l ≤ j

-- of the rows every `step`-th from the one at `i` on, `count` of them
abbrev pub strided_rows : {A : Type 0} → (step count : ℕ) → (rows : List (List A)) → (i : ℕ)
    → List (List A)
strided_rows step count rows i = tabulate count (λ j. slice_index_or rows (i + j * step) [])

module _ {A : Type 0} (F : FieldOps A) where
  -- a field with roots of unity up to the order `2^top` has a domain of `n` points or more at every
  -- shift times the generator that can't meet one at the shift
  pub record HasRoom (top : ℕ) (generator : A) (n : ℕ) : Type 0 where
    pub roots : n ≤ 2 ^ top
    pub outside : pow F generator (2 ^ top) ≢ F.one

  module _ (w : ℕ → A) where
    -- point `i` of the domain of `shift` of `2^k` points
    abbrev pub domain_point : (k : ℕ) (shift : A) (i : ℕ) → A
    domain_point k shift i = coset_point F (w k) shift i

    -- what vanishes on the domain of `shift` of `2^k` points is zero at no point of that of `other`
    -- of `2^m`
    abbrev pub IsOffDomain : (k : ℕ) (shift : A) (m : ℕ) (other : A) → Type 0
    IsOffDomain k shift m other = (i : ℕ) → vanishing F shift k (domain_point m other i) ≢ F.zero

    -- the domain of `shift` of `2^n` points is split into `2^d` domains of these sizes and shifts:
    -- they have one size, each begins at the next of its points, and point `j` of the one at `i` is
    -- its point `i + j 2^d`; on none lies another's first point
    pub record IsSplitInto (n : ℕ) (shift : A) (d : ℕ) (log_sizes : List ℕ) (shifts : List A)
        : Type 0 where
      pub sizes : All (λ k. k + d ≡ n) log_sizes
      pub firsts : shifts ≡ tabulate (2 ^ d) (domain_point n shift)
      pub points : (i j k : ℕ) → i < 2 ^ d → k + d ≡ n
          → domain_point k (slice_index_or shifts i F.zero) j ≡ domain_point n shift (i + j * 2 ^ d)
      pub apart : AreChunkDomains F log_sizes shifts
