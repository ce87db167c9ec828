-- What can be wrong with numbers that are to be those of a value, over a prime field of this order
-- and an extension of this degree.
use Rattle.std.specs.Prelude.{ℕ, List, ◌≢◌, ◌≤◌, ◌⊎◌, length}
use Rattle.std.specs.List.{Any}
use Rattle.p3_fri_relation.specs.Setting.{InputOpening, RoundOpening}
use Rattle.p3_fri_plain.specs.declared.error.PlainProofError.{PlainProofError}
use Rattle.p3_fri_plain.specs.declared.error.PlainProofError.TheVariants.{
  ElementOutOfRange,
  ElementLength,
  DigestLength,
  OutOfMemory,
}
use Rattle.p3_fri_plain.specs.Numbers.{Digest, Paths, ProofNumbers, HidingNumbers}

-- none of these faults is shown
abbrev pub IsFaultless : {A : Type 0} → (PlainProofError → A → Type 0) → A → Type 0
IsFaultless HasFault numbers = (error : PlainProofError) → ¬ HasFault error numbers

-- a number that isn't below the order
abbrev pub ElementFault : ℕ → PlainProofError → ℕ → Type 0
ElementFault order ElementOutOfRange n = order ≤ n
ElementFault order ElementLength n = ⊥
ElementFault order DigestLength n = ⊥
ElementFault order OutOfMemory n = ⊥

-- a coefficient that isn't below the order, or another number of coefficients than the degree
abbrev pub ExtensionFault : ℕ → ℕ → PlainProofError → List ℕ → Type 0
ExtensionFault order degree ElementOutOfRange ns = Any (λ n. order ≤ n) ns
ExtensionFault order degree ElementLength ns = length ns ≢ degree
ExtensionFault order degree DigestLength ns = ⊥
ExtensionFault order degree OutOfMemory ns = ⊥

-- another number of bytes than 32
abbrev pub DigestFault : PlainProofError → Digest → Type 0
DigestFault ElementOutOfRange bytes = ⊥
DigestFault ElementLength bytes = ⊥
DigestFault DigestLength bytes = length bytes ≢ 32
DigestFault OutOfMemory bytes = ⊥

-- of what is opened of one commitment
abbrev pub BatchFault : ℕ → PlainProofError → InputOpening ℕ Paths → Type 0
BatchFault order error o =
    Any (Any (Any (ElementFault order error))) o.rows ⊎ Any (Any (DigestFault error)) o.path

-- of what one round opens
abbrev pub StepFault : ℕ → ℕ → PlainProofError → RoundOpening (List ℕ) Paths → Type 0
StepFault order degree error o =
    Any (Any (ExtensionFault order degree error)) o.siblings
    ⊎ Any (Any (DigestFault error)) o.path

-- of a proof, by the field that shows it
pub data ProofFault (order degree : ℕ) (error : PlainProofError) (p : ProofNumbers)
    : Type 0 where
  InBatchWitness : ElementFault order error p.batch_witness → ProofFault order degree error p
  InCommitments : Any (DigestFault error) p.commitments → ProofFault order degree error p
  InCommitWitnesses : Any (ElementFault order error) p.commit_witnesses
      → ProofFault order degree error p
  InInputs : Any (BatchFault order error) p.inputs → ProofFault order degree error p
  InRounds : Any (StepFault order degree error) p.rounds → ProofFault order degree error p
  InFinalPoly : Any (ExtensionFault order degree error) p.final_poly
      → ProofFault order degree error p
  InQueryWitness : ElementFault order error p.query_witness → ProofFault order degree error p

-- of the values of the random columns, or of the proof beside them
abbrev pub HidingProofFault : ℕ → ℕ → PlainProofError → HidingNumbers → Type 0
HidingProofFault order degree error h =
    Any (Any (Any (Any (ExtensionFault order degree error)))) h.random_values
    ⊎ ProofFault order degree error h.proof
