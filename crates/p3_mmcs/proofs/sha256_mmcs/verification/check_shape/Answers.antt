use Rattle.std.proofs.Common.{length, sym, ◌∙◌}
use Rattle.p3_field_core.proofs.IndexPowers.{exponents_agree}
use Rattle.p3_mmcs.proofs.sha256_mmcs.verification.check_shape.Goals as goal

pub returns-then-path-log_height : goal.returns-then-path-log_height
returns-then-path-log_height g c commitment index e =
    c.if-path-log_height.true
    (exponents_agree (length c.args.path.now) c.args.log_height (e ∙ sym c.requires.greatest))
