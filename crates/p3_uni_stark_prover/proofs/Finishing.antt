-- A proof, put together of what was drawn and opened.
use Rattle.std.proofs.Common.{◌≡◌, ◌≢◌, ◌↔◌, ℕ, ◌^◌, Bool, false, IsTrue, refl, sym, subst}
use Rattle.std.proofs.Common.{Option}
use Rattle.stark_algebra.specs.Selectors.{zerofier}
use Rattle.p3_challenger_core.specs.Run.{Moves, After}
use Rattle.p3_pcs.specs.Scheme.{Scheme}
use Rattle.p3_stark_pcs.specs.Scheme.{StarkScheme}
use Rattle.p3_uni_stark_transcript.specs.Replay.{zeta_drawn}
use Rattle.p3_uni_stark_verifier.specs.declared.proof.Commitments.{Commitments}
use Rattle.p3_uni_stark_verifier.specs.declared.proof.OpenedValues.{OpenedValues}
use Rattle.p3_uni_stark_verifier.specs.Claimed.{preprocessed_index, stark_claims}
use Rattle.p3_uni_stark_verifier.specs.Opened.{trace_generator}
use Rattle.p3_uni_stark_verifier.specs.Setting.{StarkFields}
use Rattle.p3_uni_stark_opening.specs.declared.opening.ColumnData.{ColumnData}
use Rattle.p3_uni_stark_opening.specs.Opened.{if_some, commitments_to, AreOpenable, AreOpened}
use Rattle.p3_uni_stark_prover.specs.Finished.{IsFinished}

-- what a test that failed says
pub refuted : (b : Bool) (P : Type 0) → (IsTrue b ↔ P) → b ≡ false → ¬ P
refuted b P test e p =
    let passed = test.1 p in
    cc

module _ {V E C Com Dom D Opening Error ProverError : Type 0} (fields : StarkFields V E)
    (m : Moves C V E Com) (r : Scheme E C V Dom Com D Opening Error ProverError)
    (t : StarkScheme E V Dom D ProverError) (k count : ℕ) (commitments : Commitments Com)
    (committed : ColumnData D) (same : commitments ≡ commitments_to r committed)
    (c d last : C) (z y : E)
    (drawn : zeta_drawn m c commitments.quotient_chunks commitments.random
    ≡ record { value = z; state = d })
    (off : zerofier fields.ext (2 ^ k) z ≢ fields.ext.zero)
    (next : y ≡ fields.ext.mul (trace_generator fields k) z) (opened : OpenedValues E)
    (proof : Opening) (values : AreOpened r committed z y opened) where
  abbrev known : Option Com
  known = if_some r.commitment_of committed.preprocessed

  abbrev successor : E → E
  successor x = fields.ext.mul (trace_generator fields k) x

  pub finished : ((size : ℕ) → AreOpenable r t count size committed → (domain : Dom)
      → r.domain_size domain ≡ size → r.Accepts (preprocessed_index known) d
      (stark_claims domain known (commitments_to r committed) opened z y) proof)
      → ((size : ℕ) → AreOpenable r t count size committed → (domain : Dom)
      → r.domain_size domain ≡ size → last ≡ r.last_state (preprocessed_index known) d
      (stark_claims domain known (commitments_to r committed) opened z y) proof)
      → IsFinished fields m r t k count commitments committed c last (record {
        commitments = commitments;
        opened_values = opened;
        opening_proof = proof;
        log_height = k;
      })
  finished accepted state = record {
    log_height = refl;
    commitments_are = refl;
    off = subst (λ (b : After C E). zerofier fields.ext (2 ^ k) b.value ≢ fields.ext.zero)
        (sym drawn) off;
    opened = subst (λ (b : After C E). AreOpened r committed b.value (successor b.value) opened)
        (sym drawn) (subst (λ x. AreOpened r committed z x opened) next values);
    accepted = λ size are domain fits.
        subst (λ (b : After C E). r.Accepts (preprocessed_index known) b.state
        (stark_claims domain known commitments opened b.value (successor b.value)) proof)
        (sym drawn)
        (subst (λ x. r.Accepts (preprocessed_index known) d
        (stark_claims domain known commitments opened z x) proof) next
        (subst (λ cs. r.Accepts (preprocessed_index known) d
        (stark_claims domain known cs opened z y) proof) (sym same)
        (accepted size are domain fits)));
    state = λ size are domain fits.
        subst (λ (b : After C E). last ≡ r.last_state (preprocessed_index known) b.state
        (stark_claims domain known commitments opened b.value (successor b.value)) proof)
        (sym drawn)
        (subst (λ x. last ≡ r.last_state (preprocessed_index known) d
        (stark_claims domain known commitments opened z x) proof) next
        (subst (λ cs. last ≡ r.last_state (preprocessed_index known) d
        (stark_claims domain known cs opened z y) proof) (sym same)
        (state size are domain fits)));
  }
