-- An opening: what is absorbed and drawn before the low-degree test, the test of the quotients'
-- words, and what the committed data opens at its positions.
use Rattle.std.specs.Prelude.{◌≡◌, ℕ, suc, ◌<◌, IsTrue, List, map, length, Some, ⊤}
use Rattle.std.specs.List.{AllZip, flat_map}
use Rattle.algebra.specs.Nested.{joined}
use Rattle.p3_fri_folding.specs.declared.error.FriProverError.{FriProverError}
use Rattle.p3_fri_folding.specs.declared.error.FriProverError.TheVariants.{NoPowWitness, OutOfMemory}
use Rattle.p3_fri_folding.specs.declared.pow_phase.PowPhase.TheVariants.{Batch}
use Rattle.p3_fri_pow.specs.Pow.{sent_witness, NonePasses}
use Rattle.p3_fri_folding.specs.Schedule.{tallest}
use Rattle.p3_fri_pcs_transcript.specs.Steps.{PcsNumbers, pcs_stream}
use Rattle.p3_fri_pcs_transcript.specs.Replay.{BatchReplay, claims_observed, claims_replay}
use Rattle.p3_fri_relation.specs.Setting.{Fields, Proof}
use Rattle.p3_fri_batch.specs.Words.{Opened, batch_word}
use Rattle.p3_fri_batch.specs.Heights.{heights_below}
use Rattle.p3_fri_prover.specs.Openings.{OpensBatch}
use Rattle.p3_fri_prover.specs.Proved.{positions, IsProved}
use Rattle.p3_fri_prover.specs.Prover.{ProverRefusal}
use Rattle.p3_fri_opening_prover.specs.Setting.{OpeningSetting}

-- values by commitment, matrix, point and column
module _ {E : Type 0} where
  -- how many there are at each point
  abbrev pub counts_of : List (List (List (List E))) → List (List (List ℕ))
  counts_of values = map (λ matrices. map (λ points. map (λ ys. length ys) points) matrices) values

  -- all of them, in order
  abbrev pub all_of : List (List (List (List E))) → List E
  all_of values = flat_map (λ matrices. flat_map (λ points. joined points) matrices) values

-- of opened matrices
module _ {F E : Type 0} (f : Fields F E) (ms : List (Opened F E)) where
  -- their log heights, falling, and the tallest
  abbrev pub heights : List ℕ
  heights = heights_below ms (suc f.two_adicity)

  abbrev pub top : ℕ
  top = tallest heights

  -- the words of their quotients, with the batching challenge `alpha`
  abbrev pub words : (alpha : E) → List (List E)
  words alpha = map (λ h. batch_word f alpha h ms) heights

-- with these values at the matrices' points, from the challenger's state `c` on
module _ {F E C D Data Com Path InCom InPath : Type 0}
    (r : OpeningSetting F E C D Data Com Path InCom InPath) (ms : List (Opened F E))
    (values : List (List (List (List E)))) (c : C) where
  -- what the transcript around the test is bound to
  abbrev pub numbers : PcsNumbers
  numbers = record {
    counts = counts_of values;
    batch_pow_bits = r.parameters.batch_pow_bits;
  }

  -- the state once the values are absorbed
  abbrev pub absorbed : C
  absorbed = claims_observed r.setting.moves r.setting.fields.coefficients r.setting.fields.base
      (pcs_stream r.setting.fields.degree numbers) c (all_of values)

  -- what is drawn before the test
  abbrev pub batch : (witness : F) → BatchReplay C E
  batch witness = claims_replay r.setting.moves r.setting.fields.coefficients
      r.setting.fields.base r.parameters.batch_pow_bits
      (pcs_stream r.setting.fields.degree numbers) c (all_of values) (Some witness)

  -- with what was drawn, the proof is one of the words' test, and the data opens at its positions;
  -- the challenger is left in the state `last`
  pub record GoesOn (opened : List D) (proof : Proof F E Com Path InPath) (last : C)
      (drawn : BatchReplay C E) : Type 0 where
    pub passes : IsTrue drawn.passes
    pub proved : IsProved r.setting r.parameters (heights r.setting.fields ms)
        (top r.setting.fields ms) (words r.setting.fields ms drawn.alpha) drawn.state proof
        (length opened) last
    pub inputs : AllZip (λ d o. OpensBatch r.setting.opens_input (top r.setting.fields ms)
        (positions r.setting r.parameters (heights r.setting.fields ms)
        (top r.setting.fields ms) (words r.setting.fields ms drawn.alpha) drawn.state proof)
        (r.committed d) (r.commitment_of d) o) opened proof.inputs

  -- the proof is that of an opening: its witness before the batching challenge passes, and is zero
  -- at no bits, and the test goes on with what is drawn then
  pub record IsOpening (opened : List D) (proof : Proof F E Com Path InPath) (last : C)
      : Type 0 where
    pub canonical : r.parameters.batch_pow_bits ≡ 0
        → proof.batch_witness ≡ r.setting.fields.base.zero
    pub tested : GoesOn opened proof last (batch proof.batch_witness)

  -- the witness found before the batching challenge passes, and the test of the words stops then
  pub record StopsInTest (e : FriProverError) : Type 0 where
    pub witness : F
    pub found : sent_witness r.setting.fields.base.zero r.solution absorbed
        r.parameters.batch_pow_bits ≡ Some witness
    pub passes : IsTrue (batch witness).passes
    pub refused : ProverRefusal r.setting r.round_committed r.round_commitment_of r.parameters
        (heights r.setting.fields ms) (top r.setting.fields ms)
        (words r.setting.fields ms (batch witness).alpha) (batch witness).state r.solution e

  -- why an opening that passed the checks stops: a proof of work was asked for and no witness
  -- passes, or for want of memory
  abbrev pub OpeningStops : FriProverError → Type 0
  OpeningStops (NoPowWitness Batch) = (0 < r.parameters.batch_pow_bits)
      × NonePasses r.setting.moves.observe_value r.setting.moves.draw_bits absorbed
      r.parameters.batch_pow_bits
  OpeningStops OutOfMemory = ⊤
  OpeningStops e = StopsInTest e
