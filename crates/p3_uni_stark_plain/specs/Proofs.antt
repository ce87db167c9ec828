-- A STARK's proof by its numbers, and what can be wrong with these.
use Rattle.std.specs.Prelude.{ℕ, List}
use Rattle.p3_baby_bear.specs.declared.baby_bear4.BabyBear4.{BabyBear4}
use Rattle.p3_fri_plain.specs.declared.error.PlainProofError.{PlainProofError}
use Rattle.p3_fri_plain.specs.Numbers.{Digest}
use Rattle.p3_uni_stark_plain.specs.declared.forms.PlainStarkProof.{PlainStarkProof}
use Rattle.p3_uni_stark_plain.specs.Parts.{CommitmentBytes, commitments_seen, commitments_listed}
use Rattle.p3_uni_stark_plain.specs.Parts.{Opened, opened_seen, opened_numbers, opened_listed}
use Rattle.p3_uni_stark_plain.specs.Parts.{CommitmentsFault, OpenedFault}
use Rattle.p3_uni_stark_verifier.specs.declared.proof.Proof.{Proof}

-- a proof, of values `A` and of what is seen of an opening's proof
pub record StarkParts (A Opening : Type 0) : Type 0 where
  pub commitments : CommitmentBytes
  pub opened_values : Opened A
  pub opening_proof : Opening
  pub log_height : ℕ

module _ {O Seen : Type 0} (seen : O → Seen) where
  abbrev pub stark_seen : Proof BabyBear4 Digest O → StarkParts BabyBear4 Seen
  stark_seen proof = record {
    commitments = commitments_seen proof.commitments;
    opened_values = opened_seen proof.opened_values;
    opening_proof = seen proof.opening_proof;
    log_height = proof.log_height;
  }

module _ {Seen Numbers : Type 0} (numbers : Seen → Numbers) where
  abbrev pub stark_numbers : StarkParts BabyBear4 Seen → StarkParts (List ℕ) Numbers
  stark_numbers parts = record {
    commitments = parts.commitments;
    opened_values = opened_numbers parts.opened_values;
    opening_proof = numbers parts.opening_proof;
    log_height = parts.log_height;
  }

module _ {Form Numbers : Type 0} (listed : Form → Numbers) where
  abbrev pub stark_listed : PlainStarkProof Form → StarkParts (List ℕ) Numbers
  stark_listed form = record {
    commitments = commitments_listed form.commitments;
    opened_values = opened_listed form.opened_values;
    opening_proof = listed form.opening_proof;
    log_height = form.log_height;
  }

-- of a proof, by the part that shows it
pub data StarkFormFault {Numbers : Type 0} (HasFault : PlainProofError → Numbers → Type 0)
    (error : PlainProofError) (p : StarkParts (List ℕ) Numbers) : Type 0 where
  InCommitments : CommitmentsFault error p.commitments → StarkFormFault HasFault error p
  InOpenedValues : OpenedFault error p.opened_values → StarkFormFault HasFault error p
  InOpeningProof : HasFault error p.opening_proof → StarkFormFault HasFault error p
