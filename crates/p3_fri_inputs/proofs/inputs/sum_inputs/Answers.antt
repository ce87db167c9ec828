use Rattle.std.proofs.Common.{◌∙◌}
use Rattle.std.proofs.lemmas.Result.{MatchResult-at_ok, MatchResult-at_err}
use Rattle.p3_fri_relation.specs.Setting.{Fields}
use Rattle.p3_fri_relation.specs.Faults.{IsConstantWrong}
use Rattle.p3_fri_relation.specs.Views.{claims_of, inputs_opened}
use Rattle.p3_fri_inputs.proofs.Places.{of_some, of_none}
use Rattle.p3_fri_inputs.proofs.inputs.sum_inputs.Given.{Over}
use Rattle.p3_fri_inputs.proofs.inputs.sum_inputs.Goals.{In-None}
use Rattle.p3_fri_inputs.proofs.inputs.sum_inputs.Goals as goal

abbrev fields_of : (g : Over) → Fields g.row.F.Denot g.row.EF.Denot
fields_of g = record {
  base = g.F.Field.ops;
  ext = g.EF.Field.ops;
  lift = g.EF.ExtensionField.lift;
  coefficients = g.EF.ExtensionField.coefficients;
  degree = g.EF.ExtensionField.DIMENSION;
  root = g.F.TwoAdicField.root;
  two_adicity = g.F.TwoAdicField.TWO_ADICITY;
  shift = g.F.Field.GENERATOR;
}

-- a quotient sum of constants isn't zero, and all sums are defined
constant_wrong : (g : Over) (c : In-None g) → IsConstantWrong (fields_of g)
    c.args.setting.now.log_blowup c.args.alpha c.args.setting.now.log_global_max_height
    (claims_of (λ domain. domain.log_size) c.args.setting.now.claims.now)
    (inputs_opened c.args.setting.now.openings.now) c.args.setting.now.indices.now
constant_wrong g c =
    let read = MatchResult-at_ok _ _ c.in-Ok.inverses c.in-Ok.is c.in_ok-found.ensures in
    let known = of_none c.in_ok-summed.summed _ _ c.in-None.is c.in_ok-summed.ensures in
    let some = known.1 in
    (known.0, (some.0, some.1, (read.0 some.0 some.1, some.2)))

pub all_openings-requires-clause-inverses : goal.all_openings-requires-clause-inverses
all_openings-requires-clause-inverses g c =
    let read = MatchResult-at_ok _ _ c.in-Ok.inverses c.in-Ok.is c.in_ok-found.ensures in
    c.deref.ensures.value ∙ read.1

pub returns-in-Err-clause-fault : goal.returns-in-Err-clause-fault
returns-in-Err-clause-fault g c =
    λ mmcs. MatchResult-at_err _ _ c.in-Err.at c.in-Err.is c.in_ok-found.ensures

pub returns-clause-fault : goal.returns-clause-fault
returns-clause-fault g c =
    λ mmcs. constant_wrong g (goal.at.returns-clause-fault g c).In-None

pub returns-in-Some-clause-defined : goal.returns-in-Some-clause-defined
returns-in-Some-clause-defined g c =
    λ ok. (MatchResult-at_ok _ _ c.in-Ok.inverses c.in-Ok.is c.in_ok-found.ensures).0

pub returns-in-Some-clause-constants : goal.returns-in-Some-clause-constants
returns-in-Some-clause-constants g c =
    let summed = of_some c.in_ok-summed.summed c.in-Some.openings _ _ c.in-Some.is
    c.in_ok-summed.ensures in
    λ ok. summed.1

pub returns-in-Some-clause-sums : goal.returns-in-Some-clause-sums
returns-in-Some-clause-sums g c =
    let summed = of_some c.in_ok-summed.summed c.in-Some.openings _ _ c.in-Some.is
    c.in_ok-summed.ensures in summed.0
