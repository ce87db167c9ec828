use Rattle.std.proofs.Common.{◌≡◌, ◌+◌, ◌<◌, ℕ, Bool, false, All, get_or, take, drop, refl, subst, sym, ap, arith}
use Rattle.std.proofs.lemmas.List.{take_more, drop_more, take_all, drop_all}
use Rattle.std.proofs.lemmas.List.Elements.{All-push}
use Rattle.p3_converse.specs.Branches.{log_sum}
use Rattle.p3_converse.proofs.conditions.log_arities_fit.Goals as goal

pub loop-round-preserved : goal.loop-round-preserved
loop-round-preserved c =
    let rounds = c.args.rounds.now in
    let here = c.loop-round in
    let k = here.round-index in
    let r : ℕ × Bool = get_or rounds k (0, false) in
    let positive : 0 < r.0 = omega arith in
    let sum : log_sum (drop k rounds) ≡ r.0 + log_sum (drop (k + 1) rounds) = ap log_sum (drop_more rounds k (0, false) c.loop-round-test.true) in
    record {
      positive = subst (λ rs. All (λ q. 0 < q.0) rs) (sym (take_more rounds k (0, false) c.loop-round-test.true))
          (All-push (λ (q : ℕ × Bool). 0 < q.0) (take k rounds) r here.invariant.positive positive);
      sum = omega (arith, here.invariant.sum, sum);
      small = omega (arith, here.invariant.small, c.if-round-sum.false);
    }

pub returns : goal.returns
returns c =
    let rounds = c.args.rounds.now in
    let here = c.loop-round in
    let all = take_all here.round-index rounds (omega (arith, c.loop-round-test.false)) in
    let none = ap log_sum (drop_all here.round-index rounds (omega (arith, c.loop-round-test.false))) in (
      λ _. (subst (λ rs. All (λ q. 0 < q.0) rs) all here.invariant.positive, omega (arith, here.invariant.sum, none, here.invariant.small)),
      λ _. refl,
    )
