-- What is claimed of a STARK's commitments.
use Rattle.std.specs.Prelude.{ℕ, List, [], ◌∷◌, ◌++◌, map, Option, Some, None}
use Rattle.algebra.specs.Nested.{lists}
use Rattle.p3_pcs.specs.Claims.{MatrixClaim, Claim}
use Rattle.p3_uni_stark_verifier.specs.declared.proof.Commitments.{Commitments}
use Rattle.p3_uni_stark_verifier.specs.declared.proof.OpenedValues.{OpenedValues}

-- the claim of a commitment that there may be
abbrev pub claim_if : {Com T : Type 0} → (Com → T) → Option Com → List T
claim_if f None = []
claim_if f (Some commitment) = f commitment ∷ []

-- preprocessed columns are opened first
abbrev pub preprocessed_index : {Com : Type 0} → Option Com → Option ℕ
preprocessed_index None = None
preprocessed_index (Some commitment) = Some 0

-- the claim of a commitment to one matrix
abbrev pub of_one : {E Com Dom : Type 0} → MatrixClaim E Dom → Com → Claim E Com Dom
of_one m commitment = record { commitment = commitment; matrices = m ∷ [] }

module _ {E Dom : Type 0} (domain : Dom) where
  -- a matrix's values at a point
  abbrev pub at_one : (z : E) (values : List E) → MatrixClaim E Dom
  at_one z values = record {
    domain = domain;
    points = record { point = z; values = values } ∷ [];
  }

  -- the same at a point and at the next one
  abbrev pub at_two : (z y : E) (local next : List E) → MatrixClaim E Dom
  at_two z y local next = record {
    domain = domain;
    points = record { point = z; values = local } ∷ record { point = y; values = next } ∷ [];
  }

  -- the claim of the trace, at both points, and that of the quotient's chunks, at the first
  abbrev pub trace_and_chunks : {Com : Type 0} → Commitments Com → OpenedValues E → (z y : E)
      → List (Claim E Com Dom)
  trace_and_chunks commitments opened z y =
      of_one (at_two z y opened.trace_local.items opened.trace_next.items) commitments.trace
      ∷ record {
        commitment = commitments.quotient_chunks;
        matrices = map (at_one z) (lists opened.quotient_chunks.items);
      } ∷ []

  -- preprocessed columns come first, and random polynomials, at the first point, last
  abbrev pub stark_claims : {Com : Type 0} → (preprocessed : Option Com) → Commitments Com
      → OpenedValues E → (z y : E) → List (Claim E Com Dom)
  stark_claims preprocessed commitments opened z y =
      claim_if (of_one (at_two z y opened.preprocessed_local.items
      opened.preprocessed_next.items)) preprocessed
      ++ trace_and_chunks commitments opened z y
      ++ claim_if (of_one (at_one z opened.random.items)) commitments.random
