use Rattle.std.proofs.Common.{arith, subst, ◌∙◌}
use Rattle.std.proofs.lemmas.List.{get_or_default, take_all}
use Rattle.std.proofs.lemmas.Grind.{common_steps}
use Rattle.std.proofs.lemmas.List.Elements.{All-more}
use Rattle.p3_air_plain.specs.Faults.{IsInRange, IsOutOfRange}
use Rattle.p3_air_plain.proofs.read.nodes_of.Goals as goal

pub loop-i-preserved : goal.loop-i-preserved
loop-i-preserved g c = record {
  forms = grind (arith, common_steps);
  in_range = All-more (IsInRange g.F.PrimeField64.ORDER_U64) c.args.forms.now c.loop-i.i _
      c.loop-i-test.true c.loop-i.invariant.in_range c.in-Some.ensures.in_range;
}

-- where nothing is answered nothing is said of the answer
pub returns-then-is_err-clause-ok : goal.returns-then-is_err-clause-ok
returns-then-is_err-clause-ok g c = tt

pub returns-in_default-clause-err : goal.returns-in_default-clause-err
returns-in_default-clause-err g c =
    let order = g.F.PrimeField64.ORDER_U64 in
    record {
      within = c.loop-i-test.true;
      before = c.loop-i.invariant.in_range;
      here = λ d. subst (IsOutOfRange order)
          (get_or_default c.args.forms.now c.loop-i.i _ d c.loop-i-test.true)
          c.in_default.ensures.none;
    }

pub returns-clause-ok : goal.returns-clause-ok
returns-clause-ok g c =
    c.loop-i.invariant.forms ∙ take_all c.loop-i.i c.args.forms.now c.loop-i-test.false
