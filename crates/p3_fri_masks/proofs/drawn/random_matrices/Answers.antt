use Rattle.std.proofs.Common.{◌≡◌, ◌*◌, ◌^◌, length, refl, sym, ap, ◌∙◌, arith}
use Rattle.p3_matrix.specs.Words.{past}
use Rattle.p3_matrix.proofs.Words.{past_none}
use Rattle.p3_fri_masks.specs.Draws.{random_rows}
use Rattle.p3_fri_masks.proofs.Batches.{all_left, one_fewer, none_left}
use Rattle.p3_fri_masks.proofs.RandomRows.{none_random, one_more_random, past_one_more_random}
use Rattle.std.proofs.lemmas.Result.{IfOk-from_err}
use Rattle.p3_fri_masks.proofs.drawn.random_matrices.Goals as goal

pub loop-domain-init : goal.loop-domain-init
loop-domain-init g c =
    let f = g.F.SampleField.from_word in
    let s = g.R.Rng.stream c.args.rng.now in
    let given = c.into_iter-domain-iterator.ensures.into_iter_gives in
    record {
      drawn = none_random f (λ d. 2 ^ d.log_size) c.args.width s
          c.in_ok-matrices.matrices.items c.in_ok-matrices.ensures.items;
      stream = sym (past_none s);
      left = all_left _ c.args.domains.items _ c.args.domains.len given.0 given.1 c.args.domains.ok.0;
    }

pub loop-domain-preserved : goal.loop-domain-preserved
loop-domain-preserved g c =
    let f = g.F.SampleField.from_word in
    let start = g.R.Rng.stream c.args.rng.now in
    let now = g.R.Rng.stream c.loop-domain.rng in
    let d = c.in-Some.domain in
    let made = c.in_ok-random_matrix in
    let step = c.in-Some.ensures.steps.0 in
    let fewer = c.in-Some.ensures.steps.1 in
    let shorter = ap length step in
    let before = c.loop-domain.invariant.left.count in
    let counted : c.next.new.self.rest.len ≡ length c.next.new.self.rest.items = omega arith in
    record {
      drawn = one_more_random f (λ d. 2 ^ d.log_size) c.args.width c.loop-domain.yielded d start now
          c.loop-domain.matrices.items _ (d, made.field-0) c.loop-domain.invariant.drawn
          c.loop-domain.invariant.stream refl
          (made.ensures.rows ∙ ap (λ n. random_rows f n c.args.width now) c.size.ensures)
          made.ensures.width c.in_ok-push.ensures.items;
      stream = past_one_more_random f (λ d. 2 ^ d.log_size) c.args.width c.loop-domain.yielded d start
          now _ c.loop-domain.invariant.stream
          (made.ensures.past ∙ ap (λ n. past (n * c.args.width) now) c.size.ensures);
      left = one_fewer c.loop-domain.yielded c.loop-domain.domain-iterator.rest.items
          c.next.new.self.rest.items c.args.domains.items d _ _ c.loop-domain.invariant.left step counted;
    }

pub returns-clause-random : goal.returns-clause-random
returns-clause-random g c =
    let all = none_left c.loop-domain.yielded c.loop-domain.domain-iterator.rest.items
    c.args.domains.items c.loop-domain.domain-iterator.rest.len c.loop-domain.invariant.left
    c.in-None.ensures.steps.0 in
    rw (← all) c.loop-domain.invariant.drawn

pub returns-clause-past : goal.returns-clause-past
returns-clause-past g c =
    let all = none_left c.loop-domain.yielded c.loop-domain.domain-iterator.rest.items
    c.args.domains.items c.loop-domain.domain-iterator.rest.len c.loop-domain.invariant.left
    c.in-None.ensures.steps.0 in
    rw (← all) c.loop-domain.invariant.stream

-- where nothing is answered nothing is said of the answer
pub returns-in_err-matrices-clause-past : goal.returns-in_err-matrices-clause-past
returns-in_err-matrices-clause-past g c =
    IfOk-from_err c.from_residual.result _ c.from_residual.ensures.0

pub returns-in_err-matrices-clause-random : goal.returns-in_err-matrices-clause-random
returns-in_err-matrices-clause-random g c =
    IfOk-from_err c.from_residual.result _ c.from_residual.ensures.0

pub returns-in_err-push-clause-past : goal.returns-in_err-push-clause-past
returns-in_err-push-clause-past g c =
    IfOk-from_err c.from_residual-in_err-push.result _ c.from_residual-in_err-push.ensures.0

pub returns-in_err-push-clause-random : goal.returns-in_err-push-clause-random
returns-in_err-push-clause-random g c =
    IfOk-from_err c.from_residual-in_err-push.result _ c.from_residual-in_err-push.ensures.0

pub returns-in_err-random_matrix-clause-past : goal.returns-in_err-random_matrix-clause-past
returns-in_err-random_matrix-clause-past g c =
    IfOk-from_err c.from_residual-in_err-random_matrix.result _ c.from_residual-in_err-random_matrix.ensures.0

pub returns-in_err-random_matrix-clause-random : goal.returns-in_err-random_matrix-clause-random
returns-in_err-random_matrix-clause-random g c =
    IfOk-from_err c.from_residual-in_err-random_matrix.result _ c.from_residual-in_err-random_matrix.ensures.0
