use Rattle.std.proofs.Common.{Some, ap, refl}
use Rattle.p3_field.specs.BabyBearLaws.{same_number}
use Rattle.p3_test_challengers.proofs.always_one.AlwaysOneGrindingChallenger.grind.Goals as goal

pub returns-then-bits-eq0-clause-value : goal.returns-then-bits-eq0-clause-value
returns-then-bits-eq0-clause-value c =
    rw c.if-bits-eq0.true (ap Some (same_number _ _ refl))
