-- Which refusal a failure along a transcript becomes.
use Rattle.p3_fri_folding.specs.declared.pow_phase.PowPhase.TheVariants.{Batch}
use Rattle.p3_fri_transcript.specs.declared.transcript.failure.TranscriptFailure as test_failure
use test_failure.TheVariants.{PowWitness}
use test_failure.TheVariants.{MissingPowWitness}
use test_failure.TheVariants.{FinalPolyLen}
use test_failure.TheVariants.{CommitRoundCount}
use test_failure.TheVariants.{CommitPowWitnessCount}
use test_failure.TheVariants.{OutOfMemory as no_memory}
use Rattle.p3_fri_pcs_transcript.specs.declared.pcs_transcript.failure.PcsTranscriptFailure as Why
use Why.TheVariants.{ClaimedEvaluationCount}
use Why.TheVariants.{PowWitness as wrong_witness}
use Why.TheVariants.{MissingPowWitness as no_witness}
use Why.TheVariants.{OutOfMemory as no_memory_left}
use Rattle.p3_fri_relation.specs.declared.error.FriError.{FriError}
use Rattle.p3_fri_relation.specs.declared.error.FriError as refusal
use refusal.TheVariants.{CommitRoundCountMismatch, CommitPowWitnessCountMismatch}
use refusal.TheVariants.{ClaimedEvaluationCountMismatch, FinalPolyLengthMismatch, InvalidPowWitness}
use refusal.TheVariants.{OutOfMemory}

module _ {A B : Type 0} where
  -- of the low-degree test's transcript
  abbrev pub of_transcript : test_failure.TranscriptFailure → FriError A B
  of_transcript (PowWitness phase) = InvalidPowWitness phase
  of_transcript (MissingPowWitness phase) = InvalidPowWitness phase
  of_transcript (FinalPolyLen expected got) = FinalPolyLengthMismatch expected got
  of_transcript (CommitRoundCount expected got) = CommitRoundCountMismatch expected got
  of_transcript (CommitPowWitnessCount expected got) = CommitPowWitnessCountMismatch expected got
  of_transcript no_memory = OutOfMemory

  -- of the transcript around it
  abbrev pub of_pcs_transcript : Why.PcsTranscriptFailure → FriError A B
  of_pcs_transcript (ClaimedEvaluationCount opening expected got) =
      ClaimedEvaluationCountMismatch opening expected got
  of_pcs_transcript (wrong_witness bits) = InvalidPowWitness Batch
  of_pcs_transcript (no_witness bits) = InvalidPowWitness Batch
  of_pcs_transcript no_memory_left = OutOfMemory
