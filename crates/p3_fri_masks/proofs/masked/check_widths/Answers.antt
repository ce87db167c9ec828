use Rattle.std.proofs.Common.{All, sym, subst, arith}
use Rattle.std.proofs.lemmas.List.{take_all}
use Rattle.std.proofs.lemmas.List.Elements.{All-more}
use Rattle.p3_fri_masks.specs.Masked.{IsTooWide}
use Rattle.p3_fri_masks.proofs.masked.check_widths.Goals as goal

pub returns-in_default : goal.returns-in_default
returns-in_default g c = (
  c.loop-evaluation.evaluation-index,
  c.evaluation-item.result,
  c.loop-evaluation-test.true,
  sym c.evaluation-item.is,
  omega (arith, c.in_default.ensures, c.width.ensures.columns),
)

pub returns-in_default-checked_add : goal.returns-in_default-checked_add
returns-in_default-checked_add g c = (
  c.loop-evaluation.evaluation-index,
  c.evaluation-item.result,
  c.loop-evaluation-test.true,
  sym c.evaluation-item.is,
  omega (arith, c.in_default-checked_add.ensures, c.in-Some.ensures.1, c.width.ensures.columns),
)

pub loop-evaluation-preserved : goal.loop-evaluation-preserved
loop-evaluation-preserved g c =
    All-more (λ e. ¬ IsTooWide c.args.num_random_codewords e.1) c.args.evaluations.now
    c.loop-evaluation.evaluation-index c.evaluation-item.result c.loop-evaluation-test.true
    c.loop-evaluation.invariant
    (subst (λ e. ¬ IsTooWide c.args.num_random_codewords e.1) c.evaluation-item.is
    (λ wide. omega (
      arith,
      c.in-Some-checked_add.ensures.0,
      c.in-Some.ensures.1,
      c.width.ensures.columns,
    )))

pub returns : goal.returns
returns g c =
    subst (λ es. All (λ e. ¬ IsTooWide c.args.num_random_codewords e.1) es)
    (take_all c.loop-evaluation.evaluation-index c.args.evaluations.now
    c.loop-evaluation-test.false)
    c.loop-evaluation.invariant
