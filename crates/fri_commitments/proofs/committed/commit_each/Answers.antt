use Rattle.std.proofs.lemmas.Result.{IfOk-from_err}
use Rattle.std.proofs.Common.{◌++◌, ◌∷◌, [], All, length, append_assoc, ap, sym, ◌∙◌, arith, subst}
use Rattle.std.specs.List.{AllZip}
use Rattle.algebra.proofs.Lists.{all_zip-push}
use Rattle.p3_fri_extensions.proofs.Batches.{in_middle, nothing_left}
use Rattle.fri_commitments.specs.Committed.{KeepsRead}
use Rattle.fri_numbers.proofs.Failed.{request_part, request_wants}
use Rattle.fri_commitments.proofs.Committing.{keeps_on}
use Rattle.fri_commitments.proofs.committed.commit_each.Goals as goal

pub loop-batch-init : goal.loop-batch-init
loop-batch-init g c =
    let given = c.into_iter-batch-iterator.ensures.into_iter_gives in
    let s = c.args.scheme.now in
    record {
      kept = g.met.P.Pcs.keeps_itself_law s;
      committed = subst (λ cs. AllZip (KeepsRead (g.P.Pcs.rules s) (g.P.UnivariateStarkPcs.stark_rules s)) cs [])
          (sym c.in_ok-all.ensures.items) tt;
      whole = given.0;
      count = given.1 ∙ c.args.batches.ok.0 ∙ ap length (sym given.0);
    }

pub commit_batch-requires : goal.commit_batch-requires
commit_batch-requires g c =
    let s = c.args.scheme.now in
    let all = subst (λ bs. All (λ b. (g.P.Pcs.rules s).CanCommit b.evaluations.items) bs)
    (sym c.loop-batch.invariant.whole ∙ ap (λ t. c.loop-batch.yielded ++ t) c.in-Some.ensures.steps.0) c.requires.room.each in
    record {
      room = (g.met.P.Pcs.keeps_law s c.loop-batch.scheme c.loop-batch.invariant.kept).committable c.in-Some.batch.evaluations.items
          (in_middle (λ b. (g.P.Pcs.rules s).CanCommit b.evaluations.items) c.loop-batch.yielded c.in-Some.batch
          c.next.new.self.rest.items all);
    }

pub returns-in_err-all-clause-kept : goal.returns-in_err-all-clause-kept
returns-in_err-all-clause-kept g c = g.met.P.Pcs.keeps_itself_law c.args.scheme.now

pub returns-in_err-commit_batch-clause-kept : goal.returns-in_err-commit_batch-clause-kept
returns-in_err-commit_batch-clause-kept g c =
    c.requires.since c.args.scheme.now c.loop-batch.scheme c.commit_batch.new.scheme
    c.loop-batch.invariant.kept c.in_err-commit_batch.ensures.kept

pub returns-in_err-push-clause-kept : goal.returns-in_err-push-clause-kept
returns-in_err-push-clause-kept g c =
    c.requires.since c.args.scheme.now c.loop-batch.scheme c.commit_batch.new.scheme
    c.loop-batch.invariant.kept c.in_ok-commit_batch.ensures.kept

pub loop-batch-preserved : goal.loop-batch-preserved
loop-batch-preserved g c =
    let pushed = c.in_ok-push.ensures.items in
    let step = c.in-Some.ensures.steps.0 in
    let fewer = c.in-Some.ensures.steps.1 in
    let counted = ap length step in
    let before = c.loop-batch.invariant.count in
    let after = c.commit_batch.new.scheme in
    let kept = c.in_ok-commit_batch.ensures.kept in
    record {
      kept = c.requires.since _ _ _ c.loop-batch.invariant.kept kept;
      committed = subst (λ cs. AllZip (KeepsRead (g.P.Pcs.rules after) (g.P.UnivariateStarkPcs.stark_rules after)) cs
          (c.loop-batch.yielded ++ c.in-Some.batch ∷ [])) (sym pushed)
          (all_zip-push (KeepsRead (g.P.Pcs.rules after) (g.P.UnivariateStarkPcs.stark_rules after)) c.loop-batch.all.items
          c.loop-batch.yielded _ c.in-Some.batch
          (keeps_on _ _ _ _ (g.met.P.Pcs.keeps_law _ _ kept) (g.met.P.UnivariateStarkPcs.keeps_stark_law _ _ kept)
          c.loop-batch.all.items c.loop-batch.yielded c.loop-batch.invariant.committed)
          c.in_ok-commit_batch.ensures.committed);
      whole = append_assoc c.loop-batch.yielded _ c.next.new.self.rest.items
          ∙ ap (λ t. c.loop-batch.yielded ++ t) (sym step) ∙ c.loop-batch.invariant.whole;
      count = omega arith;
    }

pub returns-clause-committed : goal.returns-clause-committed
returns-clause-committed g c =
    let all = nothing_left c.loop-batch.yielded c.loop-batch.batch-iterator.rest.items c.args.batches.items
    c.loop-batch.batch-iterator.rest.len c.loop-batch.invariant.count c.in-None.ensures.steps.0 c.loop-batch.invariant.whole in
    rw (← all) c.loop-batch.invariant.committed

pub returns-in_err-commit_batch-clause-refused : goal.returns-in_err-commit_batch-clause-refused
returns-in_err-commit_batch-clause-refused g c =
    request_part _ _ _ _ _ _ c.from_residual-in_err-commit_batch.ensures.1 c.in_err-commit_batch.ensures.refused
    (λ never. never)
    (λ e h. record {
      scheme = c.loop-batch.scheme;
      is_of = c.loop-batch.invariant.kept;
      before = c.loop-batch.yielded;
      read = c.in-Some.batch;
      after = c.next.new.self.rest.items;
      among = sym c.loop-batch.invariant.whole ∙ ap (λ t. c.loop-batch.yielded ++ t) c.in-Some.ensures.steps.0;
      refused = h;
      not_memory = λ never. never;
    })

-- where nothing is answered nothing is said of the answer
pub returns-in_err-all-clause-committed : goal.returns-in_err-all-clause-committed
returns-in_err-all-clause-committed g c = IfOk-from_err c.from_residual.result _ c.from_residual.ensures.0

pub returns-in_err-all-clause-refused : goal.returns-in_err-all-clause-refused
returns-in_err-all-clause-refused g c = request_wants c.from_residual.result _ _ c.from_residual.ensures.1

pub returns-in_err-commit_batch-clause-committed : goal.returns-in_err-commit_batch-clause-committed
returns-in_err-commit_batch-clause-committed g c = IfOk-from_err c.from_residual-in_err-commit_batch.result _ c.from_residual-in_err-commit_batch.ensures.0

pub returns-in_err-push-clause-committed : goal.returns-in_err-push-clause-committed
returns-in_err-push-clause-committed g c = IfOk-from_err c.from_residual-in_err-push.result _ c.from_residual-in_err-push.ensures.0

pub returns-in_err-push-clause-refused : goal.returns-in_err-push-clause-refused
returns-in_err-push-clause-refused g c = request_wants c.from_residual-in_err-push.result _ _ c.from_residual-in_err-push.ensures.1
