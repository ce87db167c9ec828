-- What follows the seed, put together from what single calls did.
use Rattle.std.proofs.Common.{◌≡◌, ◌≢◌, ℕ, true, List, Option, refl, sym, ap, ◌∙◌, map}
use Rattle.std.specs.List.{flat_map}
use Rattle.algebra.specs.Field.{FieldOps, multiple}
use Rattle.p3_challenger_core.specs.Run.{Moves, observed_all}
use Rattle.p3_challenger_fs.specs.Turns.{bytes_observed}
use Rattle.p3_fri_pow.specs.Reached.{Reaches}
use Rattle.p3_fri_pow.proofs.Reached.{reaches_itself, reaches_same, reaches_join, reaches_all_observed}
use Rattle.p3_fri_transcript.specs.declared.transcript.play.Refusal.{Refusal}
use Rattle.p3_fri_transcript.specs.declared.transcript.play.Refusal.TheVariants.{Seed, Step}
use Rattle.p3_fri_transcript.specs.Steps.{FriNumbers, fri_stream}
use Rattle.p3_fri_pcs_transcript.specs.Replay.{BatchReplay, shown_batch_replay}
use Rattle.p3_fri_pcs_transcript.specs.Steps.{PcsNumbers, pcs_stream}
use Rattle.p3_fri_pcs_transcript.proofs.PcsReplays.{reaches_batch}

-- the stream of a transcript's own shape was absorbed
pub seeded_by : {C F : Type 0} (ops : FieldOps F) (observe : C → F → C) (d : ℕ) (before started : C) (described own : PcsNumbers) (bytes : List ℕ)
    → started ≡ bytes_observed ops observe before bytes → bytes ≡ pcs_stream d described → own ≡ described
    → started ≡ bytes_observed ops observe before (pcs_stream d own)
seeded_by ops observe d before started described own bytes absorbed stream same =
    absorbed ∙ ap (λ bytes. bytes_observed ops observe before bytes) (stream ∙ ap (λ s. pcs_stream d s) (sym same))

module _ {C F E Com : Type 0} (m : Moves C F E Com) (ops : FieldOps F) (d : ℕ) (test : FriNumbers) (start lent : C) where
  abbrev pub begun : C
  begun = bytes_observed ops m.observe_value lent (fri_stream d test)

  -- what is reached on the challenger that was lent
  pub reaches_tested : (last : C) → lent ≡ start → Reaches m begun last → Reaches m start last
  reaches_tested last is absorbed =
      let bytes = map (multiple ops) (fri_stream d test) in
      reaches_join m start lent last (reaches_itself m start lent (sym is))
      (reaches_join m lent (observed_all m.observe_value lent bytes) last (reaches_all_observed m lent bytes) absorbed)

  pub reaches_lent : {A : Type 0} (last : C) (refusal : Refusal A) → lent ≡ start → (refusal ≡ Seed → last ≡ lent)
      → (refusal ≢ Seed → Reaches m begun last) → Reaches m start last
  reaches_lent last Seed is unchanged absorbed = reaches_itself m start last (sym (unchanged refl ∙ is))
  reaches_lent last (Step e) is unchanged absorbed = reaches_tested last is (absorbed (λ same. cc))

module _ {C F E Com : Type 0} (m : Moves C F E Com) (coefficients : E → List F) (values : List E) (started observed : C) where
  -- what is reached once the values are absorbed
  pub reaches_claimed : (last : C) → observed ≡ observed_all m.observe_value started (flat_map coefficients values)
      → Reaches m observed last → Reaches m started last
  reaches_claimed last is then =
      reaches_join m started observed last
      (reaches_same m _ _ _ (reaches_all_observed m started (flat_map coefficients values)) (sym is)) then

  -- and the challenge is drawn
  pub reaches_inside : (bits : ℕ) (inside last : C) (alpha : E) (witness : Option F)
      → observed ≡ observed_all m.observe_value started (flat_map coefficients values)
      → shown_batch_replay m bits observed witness ≡ record { passes = true; alpha = alpha; state = inside }
      → Reaches m inside last → Reaches m started last
  reaches_inside bits inside last alpha witness is batch then =
      reaches_claimed last is
      (reaches_join m observed inside last
      (reaches_same m _ _ _ (reaches_batch m bits observed witness) (ap (λ (r : BatchReplay C E). r.state) batch)) then)
