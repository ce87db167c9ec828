-- A finished proof is accepted.
use Rattle.std.proofs.Common.{◌≡◌, ℕ, ◌+◌, ◌^◌, List}
use Rattle.std.proofs.Common.{All, refl, sym, ap, ap₂, subst, ◌∙◌}
use Rattle.std.proofs.Common.{Option}
use Rattle.std.specs.Option.{is_some}
use Rattle.p3_challenger_core.specs.Run.{After}
use Rattle.p3_periodic.specs.Columns.{HasPeriod}
use Rattle.p3_pcs.specs.Claims.{Claim}
use Rattle.p3_stark_pcs.specs.Scheme.{StarkScheme}
use Rattle.p3_uni_stark_transcript.specs.Replay.{zeta_drawn}
use Rattle.p3_uni_stark_verifier.specs.declared.proof.Commitments.{Commitments}
use Rattle.p3_uni_stark_verifier.specs.declared.proof.OpenedValues.{OpenedValues}
use Rattle.p3_uni_stark_verifier.specs.declared.proof.Proof.{Proof}
use Rattle.p3_uni_stark_verifier.specs.declared.proof.Statement.{Statement}
use Rattle.p3_uni_stark_verifier.specs.Chunks.{hiding_bits}
use Rattle.p3_uni_stark_verifier.specs.Claimed.{preprocessed_index, stark_claims}
use Rattle.p3_uni_stark_verifier.specs.Inputs.{IsReady}
use Rattle.p3_uni_stark_verifier.specs.Opened.{trace_generator, ArePeriodic, Agrees}
use Rattle.p3_uni_stark_verifier.specs.Relation.{drawn, HoldsAt, StarkAccepts, IsLastState}
use Rattle.p3_uni_stark_verifier.specs.Setting.{StarkSetting}
use Rattle.p3_uni_stark_verifier.specs.Shown.{key_commitment}
use Rattle.p3_uni_stark_opening.specs.declared.opening.ColumnData.{ColumnData}
use Rattle.p3_uni_stark_prover.specs.Finished.{first_drawn, IsFinished}
use Rattle.p3_uni_stark_opening.specs.Opened.{if_some, AreOpenable}

module _ {V E C Com Dom D Opening Error ProverError : Type 0}
    (S : StarkSetting V E C Com Dom D Opening Error ProverError)
    (t : StarkScheme E V Dom D ProverError) (s : Statement V Com) (k count : ℕ)
    (commitments : Commitments Com) (committed : ColumnData D) (c middle last : C) (alpha : E)
    (begun : first_drawn S.fields S.moves s k (is_some commitments.random) commitments.trace c
    ≡ record { value = alpha; state = middle })
    (known : if_some S.scheme.commitment_of committed.preprocessed ≡ key_commitment s.preprocessed)
    (domain : Dom) (is : S.IsSubgroup (k + hiding_bits S.zk) domain)
    (are : AreOpenable S.scheme t count (S.scheme.domain_size domain) committed) where
  -- a proof of these commitments and this height
  abbrev made : OpenedValues E → Opening → Proof E Com Opening
  made opened opening = record {
    commitments = commitments;
    opened_values = opened;
    opening_proof = opening;
    log_height = k;
  }

  abbrev point : After C E
  point = zeta_drawn S.moves middle commitments.quotient_chunks commitments.random

  drawn_is : (opened : OpenedValues E) (opening : Opening)
      → drawn S.fields S.moves s (made opened opening) c
      ≡ record { alpha = alpha; zeta = point.value; state = point.state }
  drawn_is opened opening = ap (λ (first : After C E).
      (let z = zeta_drawn S.moves first.state commitments.quotient_chunks commitments.random in
      record { alpha = first.value; zeta = z.value; state = z.state })) begun

  abbrev Finished : Proof E Com Opening → Type 0
  Finished p = IsFinished S.fields S.moves S.scheme t k count commitments committed middle last p

  -- a proof is what it is made of
  is_made : (p : Proof E Com Opening) → Finished p → made p.opened_values p.opening_proof ≡ p
  is_made p f = ap₂ (λ (cs : Commitments Com) (n : ℕ). (let q : Proof E Com Opening = record {
    commitments = cs;
    opened_values = p.opened_values;
    opening_proof = p.opening_proof;
    log_height = n;
  } in q)) (sym f.commitments_are) (sym f.log_height)

  abbrev claims_of : OpenedValues E → Option Com → List (Claim E Com Dom)
  claims_of opened key = stark_claims domain key commitments opened point.value
      (S.fields.ext.mul (trace_generator S.fields k) point.value)

  pub state_is : (p : Proof E Com Opening) → Finished p
      → let begun = drawn S.fields S.moves s p c in IsLastState S s p begun.zeta begun.state last
  state_is p f = subst (λ (q : Proof E Com Opening). (let begun = drawn S.fields S.moves s q c in
      IsLastState S s q begun.zeta begun.state last)) (is_made p f)
      (subst (λ b. IsLastState S s (made p.opened_values p.opening_proof) b.zeta b.state last)
      (sym (drawn_is p.opened_values p.opening_proof)) (record {
        domain = domain;
        is_domain = is;
        state = f.state (S.scheme.domain_size domain) are domain refl
            ∙ ap (λ key. S.scheme.last_state (preprocessed_index key) point.state
            (claims_of p.opened_values key) p.opening_proof) known;
      }))

  pub accepted_is : (log : ℕ) (p : Proof E Com Opening) → Finished p
      → IsReady S.fields.two_adicity S.fields.dimension S.zk s
      (made p.opened_values p.opening_proof) log
      → All (HasPeriod (2 ^ k)) s.periodic.now → (periodic : List E)
      → ArePeriodic S.fields k s.periodic.now point.value periodic
      → Agrees S.fields S.zk s (made p.opened_values p.opening_proof) log alpha point.value periodic
      → StarkAccepts S s p c
  accepted_is log p f ready periods periodic are_periodic agrees =
      subst (λ q. StarkAccepts S s q c) (is_made p f) (record {
        log_chunks = log;
        ready = ready;
        holds = subst (λ b. HoldsAt S s (made p.opened_values p.opening_proof) log b.alpha b.zeta
            b.state) (sym (drawn_is p.opened_values p.opening_proof)) (record {
              off = f.off;
              periods = periods;
              opened = record {
                domain = domain;
                is_domain = is;
                accepted = subst (λ key. S.scheme.Accepts (preprocessed_index key) point.state
                    (claims_of p.opened_values key) p.opening_proof) known
                    (f.accepted (S.scheme.domain_size domain) are domain refl);
              };
              periodic = periodic;
              are_periodic = are_periodic;
              identity = agrees;
            });
      })
