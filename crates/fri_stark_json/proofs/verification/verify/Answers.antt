use Rattle.std.proofs.Common.{inl, inr}
use Rattle.std.proofs.lemmas.Result.{IfOk-weaker, IfErr-weaker}
use Rattle.fri_stark_json.proofs.verification.verify.Goals as goal

pub returns-in-Ok : goal.returns-in-Ok
returns-in-Ok g c = record {
  accepted = IfOk-weaker c.verify_form.result _ _ (λ a h. (c.in-Ok.form, h))
      c.verify_form.ensures.accepted;
  bits = c.verify_form.ensures.bits;
  refused = IfErr-weaker c.verify_form.result _ _ (λ e h. inr (c.in-Ok.form, h))
      c.verify_form.ensures.refused;
}

pub returns-in-Err-clause-refused : goal.returns-in-Err-clause-refused
returns-in-Err-clause-refused g c = inl c.in-Err.ensures
