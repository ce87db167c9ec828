use Rattle.std.proofs.lemmas.Result.{IfOk-weaker}
use Rattle.fri_stark_bytes.proofs.calls.verify.Goals as goal

pub returns : goal.returns
returns g c = IfOk-weaker c.number_bytes.result _ _
    (λ bytes is. record {
      system = c.in_ok-system.system;
      public_values = c.in_ok-public_values.public_values;
      form = c.in_ok-form.form;
      log_height = c.in-Ok.accepted.log_height;
      accepted = c.in-Ok.ensures.accepted;
      is_answer = is;
    })
    c.number_bytes.ensures
