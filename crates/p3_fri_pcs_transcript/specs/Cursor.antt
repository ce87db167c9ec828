-- Where a comparison with the described counts stands.
use Rattle.std.specs.Prelude.{◌≡◌, ℕ, ◌+◌, ◌-◌, ◌^◌, min, List, ◌++◌, length, map}
use Rattle.algebra.specs.Nested.{lists, nested, joined}
use Rattle.p3_fri_pcs_transcript.specs.declared.pcs_transcript.described.DescribedCounts.{
  DescribedCounts,
}
use Rattle.p3_fri_pcs_transcript.specs.Steps.{widths}

-- the counts that are left, in order
abbrev pub counts_left : DescribedCounts → List ℕ
counts_left c = c.points.now ++ (joined (lists c.matrices.now) ++ widths (nested c.commitments.now))

-- these lists of values were compared and had the described counts
pub record IsCompared {E : Type 0} (before after : DescribedCounts) (values : List (List E))
    : Type 0 where
  pub counts : counts_left before ≡ map length values ++ counts_left after
  pub place : (from : ℕ) → before.opening ≡ min from (2 ^ 64 - 1)
      → after.opening ≡ min (from + length values) (2 ^ 64 - 1)
