use Rattle.std.proofs.Common.{◌≡◌, refl, ap, subst, ◌∙◌}
use Rattle.std.specs.Prelude.{replicate}
use Rattle.p3_uni_stark_system.specs.Systems.{numbers_of}
use Rattle.fri_stark_json.specs.Systems.{numbers_in, IsMadeFor}
use Rattle.fri_stark_json.proofs.Verdicts.{accepted_named, refused_named}
use Rattle.fri_stark_json.proofs.verification.verify_form.Given.{Over}
use Rattle.fri_stark_json.proofs.verification.verify_form.Goals as goal
use Rattle.fri_stark_json.proofs.verification.verify_form.Goals.{After-verify_system-verified}

made_for : (g : Over) (c : After-verify_system-verified g)
    → IsMadeFor g.P.MadeScheme.IsMade c.args.system.now c.made-scheme.result
made_for g c = (
  replicate 32 0,
  subst (λ p. g.P.MadeScheme.IsMade p c.args.system.now.num_random_codewords (replicate 32 0)
      c.made-scheme.result) c.in-Ok-verifier_parameters.ensures.parameters c.made-scheme.ensures,
)

same_numbers : (g : Over) (c : After-verify_system-verified g)
    → numbers_of c.plain.result c.as_slice.result.now
    ≡ numbers_in c.args.system.now c.args.public_values.now.public_values.items
same_numbers g c = c.plain.ensures c.as_slice.result.now
    ∙ ap (λ values. numbers_in c.args.system.now values) c.as_slice.ensures.value

pub returns-in-Ok-verified-clause-accepted : goal.returns-in-Ok-verified-clause-accepted
returns-in-Ok-verified-clause-accepted g c =
    let at = (goal.at.returns-in-Ok-verified-clause-accepted g c).After-verify_system-verified in
    accepted_named _ _ _ _ (numbers_of c.plain.result c.as_slice.result.now) _
    c.new-challenger.result _ c.made-scheme.result c.verify_system-verified.new.scheme
    (made_for g at)
    (g.met.P.Pcs.keeps_law c.made-scheme.result c.verify_system-verified.new.scheme
    c.in-Ok-verified.ensures.kept) c.in-Ok.proof c.in-Ok.ensures.ok
    c.verify_system-verified.new.challenger (same_numbers g at) c.new-challenger.ensures _ refl
    c.in-Ok-verified.ensures.accepted

pub returns-clause-refused : goal.returns-clause-refused
returns-clause-refused g c =
    let at = (goal.at.returns-clause-refused g c).After-verify_system-verified in
    refused_named _ _ _ _ (numbers_of c.plain.result c.as_slice.result.now) _
    c.new-challenger.result _ c.made-scheme.result c.verify_system-verified.new.scheme
    (made_for g at)
    (g.met.P.Pcs.keeps_law c.made-scheme.result c.verify_system-verified.new.scheme
    c.in-Err-verified.ensures.kept) c.in-Ok.proof c.in-Ok.ensures.ok
    c.verify_system-verified.new.challenger (same_numbers g at) c.new-challenger.ensures _ _ _ _
    (g.met.P.MadeScheme.blowup_law _ _ _ c.made-scheme.result (made_for g at).1)
    c.in-Err-verified.error c.in-Err-verified.ensures.refused
