-- The numbers of a value: what its plain form lists. Those of an element of a prime field are one
-- number, its canonical one, and those of an element of an extension are its coefficients' numbers.
use Rattle.std.specs.Prelude.{ℕ, List, map}
use Rattle.p3_fri_relation.specs.Setting.{InputOpening, RoundOpening, Proof}

-- a digest, as its bytes
abbrev pub Digest : Type 0
Digest = List ℕ

-- for each query the digests from the leaf up
abbrev pub Paths : Type 0
Paths = List (List Digest)

-- what is seen of a proof over a prime field `F` and an extension `E`, and its numbers
abbrev pub SeenProof : Type 0 → Type 0 → Type 0
SeenProof F E = Proof F E Digest Paths Paths

abbrev pub ProofNumbers : Type 0
ProofNumbers = SeenProof ℕ (List ℕ)

-- values at points, by commitment, matrix and point
abbrev pub AtPoints : Type 0 → Type 0
AtPoints A = List (List (List (List A)))

-- a proof with the values of the random columns
pub record Hiding (A P : Type 0) : Type 0 where
  pub random_values : AtPoints A
  pub proof : P

abbrev pub HidingSeen : Type 0 → Type 0 → Type 0
HidingSeen F E = Hiding E (SeenProof F E)

abbrev pub HidingNumbers : Type 0
HidingNumbers = HidingSeen ℕ (List ℕ)

module _ {F : Type 0} (canonical : F → ℕ) where
  abbrev pub batch_numbers : InputOpening F Paths → InputOpening ℕ Paths
  batch_numbers o = record { rows = map (map (map canonical)) o.rows; path = o.path }

module _ {F E : Type 0} (canonical : F → ℕ) (coefficients : E → List F) where
  -- those of the coefficients, that of one first
  abbrev pub coefficient_numbers : E → List ℕ
  coefficient_numbers x = map canonical (coefficients x)

  abbrev pub step_numbers : RoundOpening E Paths → RoundOpening (List ℕ) Paths
  step_numbers o = record { siblings = map (map coefficient_numbers) o.siblings; path = o.path }

  abbrev pub proof_numbers : SeenProof F E → ProofNumbers
  proof_numbers p = record {
    batch_witness = canonical p.batch_witness;
    commitments = p.commitments;
    commit_witnesses = map canonical p.commit_witnesses;
    inputs = map (batch_numbers canonical) p.inputs;
    rounds = map step_numbers p.rounds;
    final_poly = map coefficient_numbers p.final_poly;
    query_witness = canonical p.query_witness;
  }

  abbrev pub hiding_numbers : HidingSeen F E → HidingNumbers
  hiding_numbers h = record {
    random_values = map (map (map (map coefficient_numbers))) h.random_values;
    proof = proof_numbers h.proof;
  }
