-- What the verifier says of a statement, said of its numbers.
use Rattle.std.proofs.Common.{◌≡◌, ℕ, Result, Ok, Err, refl}
use Rattle.std.proofs.lemmas.Bool.{false≢true}
use Rattle.p3_uni_stark_statement.specs.Statements.{Stated, AreNumbersOf}
use Rattle.p3_uni_stark_statement.specs.Statements.{IsAcceptedOf, IsRefusedFor}
use Rattle.p3_uni_stark_verifier.specs.declared.error.VerificationError.{VerificationError}
use Rattle.p3_uni_stark_verifier.specs.declared.proof.Proof.{Proof}
use Rattle.p3_uni_stark_verifier.specs.declared.proof.Statement.{Statement}
use Rattle.p3_uni_stark_verifier.specs.Inputs.{IsReady}
use Rattle.p3_uni_stark_verifier.specs.Relation.{drawn, IsExactly, IsLastState}
use Rattle.p3_uni_stark_verifier.specs.Relation.{StarkAccepts, StarkFault}
use Rattle.p3_uni_stark_verifier.specs.Setting.{StarkSetting}

abbrev refusal : (X : Type 0) {E : Type 0} → E → Result X E
refusal X e = Err e

err_same : {X E : Type 0} (e f : E) → refusal X e ≡ refusal X f → e ≡ f
err_same e f same = cc

module _ {V E C Com Dom D Opening Error ProverError : Type 0} (canonical : V → ℕ)
    (S : StarkSetting V E C Com Dom D Opening Error ProverError) (p : Stated Com)
    (s : Statement V Com) (proof : Proof E Com Opening) (c last : C) {X : Type 0} where
  pub accepted_of : (x : X)
      → IsExactly S.scheme.out_of_memory (StarkAccepts S s proof c) (Ok x)
      → (let begun = drawn S.fields S.moves s proof c in
      IsLastState S s proof begun.zeta begun.state last)
      → AreNumbersOf canonical p s → IsAcceptedOf canonical S p proof c last
  accepted_of x exact ends numbers = record {
    statement = s;
    are_numbers = numbers;
    accepts = (exact (λ e. absurd cc) (λ e. absurd cc)).0 refl;
    state = ends;
  }

  pub refused_of : (e : VerificationError Error)
      → IsExactly {X = X} S.scheme.out_of_memory (StarkAccepts S s proof c) (Err e)
      → StarkFault S s proof c e
      → (¬ ((log : ℕ) × IsReady S.fields.two_adicity S.fields.dimension S.zk s proof log)
      → last ≡ c)
      → AreNumbersOf canonical p s → IsRefusedFor canonical S p proof c last e
  refused_of e exact fault still numbers = record {
    statement = s;
    are_numbers = numbers;
    stands = fault;
    fails = λ no_memory no_opening accepts. false≢true
        ((exact (λ same. no_memory (err_same {X = X} _ _ same))
        (λ same. no_opening (err_same {X = X} _ _ same))).1 accepts);
    unmoved = still;
  }
