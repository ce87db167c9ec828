use Rattle.std.proofs.lemmas.Result.{IfOk-weaker, IfErr-weaker}
use Rattle.p3_air_plain.specs.Elements.{owned_assigned}
use Rattle.p3_uni_stark_system.proofs.Proved.{accepted_numbers, fault_of_numbers}
use Rattle.p3_uni_stark_system.proofs.proving.prove_system.Goals as goal

pub returns-clause-accepted : goal.returns-clause-accepted
returns-clause-accepted g c =
    IfOk-weaker c.prove_elements.result _ _ (λ proof h.
    accepted_numbers g.F.PrimeField64.canonical _ _ _ _ _ proof c.args.challenger.now _
    c.in-Ok.ensures.form c.in-Ok-assignment_from_plain.ensures.numbers h)
    c.prove_elements.ensures.proved

pub returns-clause-satisfied : goal.returns-clause-satisfied
returns-clause-satisfied g c =
    IfOk-weaker c.prove_elements.result _ _ (λ proof h. record {
      air = c.in-Ok.air;
      is_form = c.in-Ok.ensures.form;
      given = owned_assigned c.in-Ok-assignment_from_plain.given;
      are_numbers = c.in-Ok-assignment_from_plain.ensures.numbers;
      satisfied = h;
    }) c.prove_elements.ensures.satisfied

pub returns-clause-refused : goal.returns-clause-refused
returns-clause-refused g c =
    IfErr-weaker c.prove_elements.result _ _ (λ e h.
    fault_of_numbers _ _ _ _ _ _ _ _ _ _ _ _ _ c.in-Ok.ensures.form
    c.in-Ok-assignment_from_plain.ensures.numbers e h) c.prove_elements.ensures.refused
