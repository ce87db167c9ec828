-- What a proof opens in its rounds, by place.
use Rattle.std.proofs.Common.{◌≡◌, ℕ, ◌-◌, ◌^◌, ◌<◌, arith, List, length, get_or, sym, subst}
use Rattle.std.proofs.lemmas.List.{length-map}
use Rattle.std.proofs.lemmas.Slice.Zip.{AllZip-long}
use Rattle.std.specs.Prelude.{Some, slice_get, slice_index}
use Rattle.std.specs.List.{Any}
use Rattle.p3_fri_relation.specs.declared.error.FriError.{FriError}
use Rattle.p3_fri_relation.specs.declared.error.FriError.TheVariants.{CommitPhaseQueryCountMismatch}
use Rattle.p3_fri_relation.specs.declared.error.FriError.TheVariants.{SiblingValuesLengthMismatch}
use Rattle.p3_fri_relation.specs.declared.proof.CommitPhaseMultiStep.{CommitPhaseMultiStep}
use Rattle.p3_fri_relation.specs.Setting.{Parameters, Proof, RoundOpening}
use Rattle.p3_fri_relation.specs.TestRounds.{HasSiblings, HasCounts}
use Rattle.p3_fri_pow.specs.Counts.{IsWrongCount}
use Rattle.p3_fri_relation.specs.Faults.{At, CountFault}
use Rattle.p3_fri_relation.specs.Views.{round_opened, rounds_opened}
use Rattle.p3_fri_verifier.specs.Counts.{HasLengths, SiblingFault}
use Rattle.p3_fri_verifier.proofs.Lists.{get_at, get_in, get_map}

pub opened_at : {E M Com Data Path Err : Type 0} (openings : List (CommitPhaseMultiStep E M Com Data Path Err))
    (k : ℕ) (o : CommitPhaseMultiStep E M Com Data Path Err) → k < length openings → o ≡ get_or openings k o
    → slice_get (rounds_opened openings) k ≡ Some (round_opened o)
opened_at openings k o l is = get_map round_opened openings k o
    (subst (λ x. slice_get openings k ≡ Some x) (sym is) (get_at openings k o l))

-- an element with a property
pub at_opened : {E M Com Data Path Err : Type 0} (P : RoundOpening E Path → Type 0)
    (openings : List (CommitPhaseMultiStep E M Com Data Path Err)) (k : ℕ) (o : CommitPhaseMultiStep E M Com Data Path Err)
    → k < length openings → o ≡ get_or openings k o → P (round_opened o) → At k P (rounds_opened openings)
at_opened P openings k o l is h = (
  round_opened o,
  omega (arith, l, length-map openings round_opened),
  get_in (rounds_opened openings) k (round_opened o) (round_opened o) (opened_at openings k o l is),
  h,
)

module _ {F E Com Path InPath : Type 0} (p : Parameters) (log_arities : List ℕ) (proof : Proof F E Com Path InPath) where
  pub lengths_from_counts : (n : ℕ) → HasCounts p proof log_arities n → HasLengths p log_arities proof
  lengths_from_counts n h = record {
    rounds = AllZip-long (HasSiblings p.num_queries) log_arities proof.rounds h.rounds;
    commitments = h.commitments;
    commit_witnesses = h.commit_witnesses;
    final_poly = h.final_poly;
  }

  -- what is wrong with a round's rows is with the proof's lengths
  pub count_fault : {A B : Type 0} (round : ℕ) → round < length log_arities → (e : FriError A B)
      → At round (λ r. SiblingFault p.num_queries (slice_index log_arities round) round r e) proof.rounds
      → CountFault p log_arities proof e
  count_fault round l (CommitPhaseQueryCountMismatch place expected got) at =
      subst (λ (k : ℕ). At k (λ r. IsWrongCount p.num_queries (length r.siblings) expected got) proof.rounds) (sym at.3.0)
      (at.0, at.1, at.2, at.3.1)
  count_fault round l (SiblingValuesLengthMismatch place expected got) at =
      subst (λ (k : ℕ). (k < length log_arities) × At k (λ r. Any (λ row.
      IsWrongCount (2 ^ slice_index log_arities k - 1) (length row) expected got) r.siblings) proof.rounds) (sym at.3.0)
      (l, (at.0, at.1, at.2, at.3.1))
  count_fault round l _ at = absurd at.3
