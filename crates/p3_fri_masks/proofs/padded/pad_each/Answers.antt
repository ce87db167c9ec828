use Rattle.std.proofs.Common.{◌≡◌, length, refl, ap, arith}
use Rattle.p3_fri_masks.specs.Padded.{IsPadded}
use Rattle.p3_fri_masks.proofs.Batches.{none_paired, one_more_paired, all_left, one_fewer, none_left}
use Rattle.std.proofs.lemmas.Result.{IfOk-from_err}
use Rattle.p3_fri_masks.proofs.padded.pad_each.Goals as goal

pub loop-domain-init : goal.loop-domain-init
loop-domain-init g c =
    let given = c.into_iter-domain-iterator.ensures.into_iter_gives in
    record {
      padded_so_far = none_paired (λ p e. (p.0 ≡ e.0) × IsPadded g.F.Field.ops.zero e.1 p.1) c.in_ok-padded.padded.items
          c.in_ok-padded.ensures.items;
      left = all_left _ c.args.evaluations.items _ c.args.evaluations.len given.0 given.1 c.args.evaluations.ok.0;
    }

pub loop-domain-preserved : goal.loop-domain-preserved
loop-domain-preserved g c =
    let step = c.in-Some.ensures.steps.0 in
    let fewer = c.in-Some.ensures.steps.1 in
    let shorter = ap length step in
    let before = c.loop-domain.invariant.left.count in
    let counted : c.next.new.self.rest.len ≡ length c.next.new.self.rest.items = omega arith in
    record {
      padded_so_far = one_more_paired (λ p e. (p.0 ≡ e.0) × IsPadded g.F.Field.ops.zero e.1 p.1)
          c.loop-domain.padded.items _ c.loop-domain.yielded (c.in-Some.domain, c.in_ok-pad.field-0)
          (c.in-Some.domain, c.in-Some.matrix) c.loop-domain.invariant.padded_so_far (refl, c.in_ok-pad.ensures)
          c.in_ok-push.ensures.items;
      left = one_fewer c.loop-domain.yielded c.loop-domain.domain-iterator.rest.items c.next.new.self.rest.items
          c.args.evaluations.items (c.in-Some.domain, c.in-Some.matrix) _ _ c.loop-domain.invariant.left
          step counted;
    }

pub returns : goal.returns
returns g c =
    let all = none_left c.loop-domain.yielded c.loop-domain.domain-iterator.rest.items c.args.evaluations.items
    c.loop-domain.domain-iterator.rest.len c.loop-domain.invariant.left c.in-None.ensures.steps.0 in
    rw (← all) c.loop-domain.invariant.padded_so_far

-- where nothing is answered nothing is said of the answer
pub returns-in_err-pad : goal.returns-in_err-pad
returns-in_err-pad g c =
    IfOk-from_err c.from_residual-in_err-pad.result _ c.from_residual-in_err-pad.ensures.0

pub returns-in_err-push : goal.returns-in_err-push
returns-in_err-push g c =
    IfOk-from_err c.from_residual-in_err-push.result _ c.from_residual-in_err-push.ensures.0
