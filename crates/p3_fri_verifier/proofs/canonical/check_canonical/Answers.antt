use Rattle.std.proofs.Common.{◌≡◌, ◌≢◌, ◌∙◌, sym, refl, subst}
use Rattle.std.specs.List.{Any}
use Rattle.std.proofs.lemmas.List.Elements.{All-same}
use Rattle.p3_fri_folding.specs.declared.pow_phase.PowPhase.TheVariants.{CommitPhase}
use Rattle.p3_fri_verifier.proofs.canonical.check_canonical.Goals as goal

pub returns-then-not-are_canonical-clause-exact : goal.returns-then-not-are_canonical-clause-exact
returns-then-not-are_canonical-clause-exact g c =
    let witnesses = c.as_slice-witnesses.ensures.value in (
      (λ e. cc),
      (λ h. sym c.if-not-are_canonical.true
          ∙ c.are_canonical.ensures.exact.1 (λ none. All-same (λ w. w ≡ g.F.Field.ops.zero) _ _ witnesses (h.in_test.commit none))),
    )

pub returns-then-not-are_canonical-clause-refusal : goal.returns-then-not-are_canonical-clause-refusal
returns-then-not-are_canonical-clause-refusal g c =
    let fault = c.are_canonical.ensures.otherwise c.if-not-are_canonical.true in
    (CommitPhase, refl, (fault.0, subst (λ ws. Any (λ w. w ≢ g.F.Field.ops.zero) ws) c.as_slice-witnesses.ensures.value fault.1))

pub returns-clause-exact : goal.returns-clause-exact
returns-clause-exact g c = (
  (λ _. record {
    batch = c.is_canonical.ensures.exact.0 c.if-not-is_canonical.false;
    in_test = record {
      commit = λ none. All-same (λ w. w ≡ g.F.Field.ops.zero) _ _ (sym c.as_slice-witnesses.ensures.value)
          (c.are_canonical.ensures.exact.0 c.if-not-are_canonical.false none);
      query = c.is_canonical-2.ensures.exact.0 c.if-not-is_canonical-2.false;
    };
  }),
  (λ _. refl),
)
