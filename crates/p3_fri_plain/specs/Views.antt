-- Proofs and plain forms as lists and records.
use Rattle.std.specs.Prelude.{ℕ, List, map}
use Rattle.std.specs.declared.vec.Vec.{Vec}
use Rattle.algebra.specs.Nested.{lists, nested}
use Rattle.p3_fri_relation.specs.declared.proof.CommitPhaseMultiStep.{CommitPhaseMultiStep}
use Rattle.p3_fri_relation.specs.declared.proof.BatchMultiOpening.{BatchMultiOpening}
use Rattle.p3_fri_relation.specs.declared.proof.FriProof.{FriProof}
use Rattle.p3_fri_relation.specs.Setting.{InputOpening, RoundOpening}
use Rattle.p3_fri_plain.specs.declared.forms.PlainBatch.{PlainBatch}
use Rattle.p3_fri_plain.specs.declared.forms.PlainStep.{PlainStep}
use Rattle.p3_fri_plain.specs.declared.forms.PlainFriProof.{PlainFriProof}
use Rattle.p3_fri_plain.specs.declared.forms.PlainHidingProof.{PlainHidingProof}
use Rattle.p3_fri_plain.specs.Numbers.{Digest, Paths, SeenProof, ProofNumbers}
use Rattle.p3_fri_plain.specs.Numbers.{HidingSeen, HidingNumbers}

module _ {T M Com Data Err A B : Type 0} where
  abbrev pub batch_seen : BatchMultiOpening T M Com Data (Vec (Vec Digest A) B) Err
      → InputOpening T Paths
  batch_seen o =
      record { rows = nested o.opened_values.items; path = lists o.opening_proof.items }

  abbrev pub step_seen : CommitPhaseMultiStep T M Com Data (Vec (Vec Digest A) B) Err
      → RoundOpening T Paths
  step_seen o =
      record { siblings = lists o.sibling_values.items; path = lists o.opening_proof.items }

abbrev pub batch_listed : PlainBatch → InputOpening ℕ Paths
batch_listed form =
    record { rows = nested form.opened_values.items; path = nested form.paths.items }

abbrev pub step_listed : PlainStep → RoundOpening (List ℕ) Paths
step_listed form =
    record { siblings = nested form.sibling_values.items; path = nested form.paths.items }

module _ {F E M Data Err A B InM InCom InData InErr C D X : Type 0} where
  abbrev pub proof_seen : FriProof E M F
      (Vec (BatchMultiOpening F InM InCom InData (Vec (Vec Digest C) D) InErr) X)
      Digest Data (Vec (Vec Digest A) B) Err
      → SeenProof F E
  proof_seen proof = record {
    batch_witness = proof.batch_pow_witness;
    commitments = proof.commit_phase_commits.items;
    commit_witnesses = proof.commit_pow_witnesses.items;
    inputs = map batch_seen proof.input_openings.items;
    rounds = map step_seen proof.commit_phase_openings.items;
    final_poly = proof.final_poly.items;
    query_witness = proof.query_pow_witness;
  }

abbrev pub proof_listed : PlainFriProof → ProofNumbers
proof_listed form = record {
  batch_witness = form.batch_pow_witness;
  commitments = lists form.commit_phase_commits.items;
  commit_witnesses = form.commit_pow_witnesses.items;
  inputs = map batch_listed form.input_openings.items;
  rounds = map step_listed form.commit_phase_openings.items;
  final_poly = lists form.final_poly.items;
  query_witness = form.query_pow_witness;
}

module _ {F E M Data Err A B InM InCom InData InErr C D X V W Y Z : Type 0} where
  abbrev pub hiding_seen : Vec (Vec (Vec (Vec E V) W) Y) Z
      × FriProof E M F
      (Vec (BatchMultiOpening F InM InCom InData (Vec (Vec Digest C) D) InErr) X)
      Digest Data (Vec (Vec Digest A) B) Err
      → HidingSeen F E
  hiding_seen pair = record {
    random_values = map (λ matrices. nested matrices.items) pair.0.items;
    proof = proof_seen pair.1;
  }

abbrev pub hiding_listed : PlainHidingProof → HidingNumbers
hiding_listed form = record {
  random_values = map (λ matrices. map (λ points. nested points.items) matrices.items)
      form.random_values.items;
  proof = proof_listed form.proof;
}
