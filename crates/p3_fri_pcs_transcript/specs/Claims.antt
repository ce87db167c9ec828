-- Which claims a verifier's transcript takes.
use Rattle.std.specs.Prelude.{◌≡◌, ◌≢◌, ℕ, ◌+◌, ◌-◌, ◌^◌, min, List, [], ◌∷◌, ◌++◌, length}
use Rattle.p3_fri_pcs_transcript.specs.declared.pcs_transcript.failure.PcsTranscriptFailure as Why

-- the counts begin with these
abbrev pub BeginsWith : (counts first : List ℕ) → Type 0
BeginsWith counts first = (left : List ℕ) × (counts ≡ first ++ left)

-- the described counts that are left don't begin with `got`: there are none, and `expected` is 0,
-- or `expected` is the first of them and another
abbrev pub Differs : (left : List ℕ) (expected got : ℕ) → Type 0
Differs [] expected got = expected ≡ 0
Differs (described ∷ _) expected got = (expected ≡ described) × (got ≢ described)

-- the first of the claimed counts that isn't as described: those before it are, and it stands as
-- many places after the place `from` as there are before it (at the greatest number, where its
-- place is past that)
pub record IsCountFault
    (from : ℕ) (described claimed : List ℕ) (opening expected got : ℕ) : Type 0 where
  pub before : List ℕ
  pub left : List ℕ
  pub more : List ℕ
  pub described_is : described ≡ before ++ left
  pub claimed_is : claimed ≡ before ++ got ∷ more
  pub place : opening ≡ min (from + length before) (2 ^ 64 - 1)
  pub differs : Differs left expected got

-- the failure names that count
abbrev pub IsClaimFailure : (from : ℕ) (described claimed : List ℕ) → Why.PcsTranscriptFailure
    → Type 0
IsClaimFailure from described claimed
    (Why.TheVariants.ClaimedEvaluationCount opening expected got) =
    IsCountFault from described claimed opening expected got
IsClaimFailure from described claimed _ = ⊥
