use Rattle.std.proofs.Common.{◌≡◌, ap, subst, sym, ◌∙◌}
use Rattle.algebra.specs.Nested.{lists}
use Rattle.p3_uni_stark_system.specs.Systems.{SystemNumbers, numbers_of}
use Rattle.fri_stark_json.specs.Systems.{numbers_in, IsMadeWith}
use Rattle.fri_stark_json.proofs.Verdicts.{accepted_named, satisfied_named, same_height}
use Rattle.fri_stark_json.proofs.Verdicts.{unproved_named}
use Rattle.fri_stark_json.proofs.proving.prove_form.Given.{Over}
use Rattle.fri_stark_json.proofs.proving.prove_form.Goals as goal
use Rattle.fri_stark_json.proofs.proving.prove_form.Goals.{After-prove_system-proved}

made_with : (g : Over) (c : After-prove_system-proved g)
    → IsMadeWith g.P.MadeScheme.IsMade c.args.system.now c.args.seed c.made-scheme.result
made_with g c =
    subst (λ p. g.P.MadeScheme.IsMade p c.args.system.now.num_random_codewords c.args.seed
    c.made-scheme.result) c.in-Ok.ensures.parameters c.made-scheme.ensures

same_numbers : (g : Over) (c : After-prove_system-proved g)
    → numbers_of c.plain.result c.as_slice.result.now
    ≡ numbers_in c.args.system.now c.args.trace.now.public_values.items
same_numbers g c = c.plain.ensures c.as_slice.result.now
    ∙ ap (λ values. numbers_in c.args.system.now values) c.as_slice.ensures.value

pub returns-in-Ok-stark_to_plain-clause-accepted :
    goal.returns-in-Ok-stark_to_plain-clause-accepted
returns-in-Ok-stark_to_plain-clause-accepted g c =
    let at = (goal.at.returns-in-Ok-stark_to_plain-clause-accepted g c).After-prove_system-proved in
    accepted_named _ _ _ _ (numbers_of c.plain.result c.as_slice.result.now) _
    c.new-challenger.result _ c.made-scheme.result c.prove_system-proved.new.scheme
    (made_with g at) c.in-Ok-proved.ensures.kept c.in-Ok-proved.proof
    (sym c.in-Ok-stark_to_plain.ensures) c.prove_system-proved.new.challenger
    (same_numbers g at) c.new-challenger.ensures _
    (same_height g.P.Proof.Plain.seen g.P.Proof.Plain.numbers g.P.Proof.Plain.listed
    c.in-Ok-proved.proof c.in-Ok-stark_to_plain.form (sym c.in-Ok-stark_to_plain.ensures))
    c.in-Ok-proved.ensures.accepted

pub returns-in-Ok-stark_to_plain-clause-satisfied :
    goal.returns-in-Ok-stark_to_plain-clause-satisfied
returns-in-Ok-stark_to_plain-clause-satisfied g c =
    let at = (goal.at.returns-in-Ok-stark_to_plain-clause-satisfied g c).After-prove_system-proved in
    satisfied_named _ _ _ c.plain.result.air.now c.args.system.now.air
    (numbers_of c.plain.result c.as_slice.result.now)
    (numbers_in c.args.system.now c.args.trace.now.public_values.items)
    (lists c.as_slice-2.result.now) (lists c.args.trace.now.trace.items)
    (ap (λ (m : SystemNumbers). m.air) (c.plain.ensures c.as_slice.result.now))
    (same_numbers g at) (ap lists c.as_slice-2.ensures.value) c.in-Ok-proved.ensures.satisfied

pub returns-in-Err-proved-clause-refused : goal.returns-in-Err-proved-clause-refused
returns-in-Err-proved-clause-refused g c =
    let at = (goal.at.returns-in-Err-proved-clause-refused g c).After-prove_system-proved in record {
      made = c.made-scheme.result;
      is_made = made_with g at;
      after = c.prove_system-proved.new.scheme;
      holds = unproved_named _ _ _ _ _ _ _ _ c.in-Err-proved.error _ _ c.plain.result.air.now
          c.args.system.now.air (numbers_of c.plain.result c.as_slice.result.now)
          (numbers_in c.args.system.now c.args.trace.now.public_values.items)
          (lists c.as_slice-2.result.now) (lists c.args.trace.now.trace.items)
          (g.met.P.MadeScheme.blowup_law _ _ _ c.made-scheme.result (made_with g at))
          (ap (λ (m : SystemNumbers). m.air) (c.plain.ensures c.as_slice.result.now))
          (same_numbers g at) (ap lists c.as_slice-2.ensures.value)
          (rw c.new-challenger.ensures at c.in-Err-proved.ensures.refused);
    }
