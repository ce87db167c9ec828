use Rattle.std.proofs.Common.{◌+◌, ◌-◌, ◌*◌, arith, ◌∙◌, inl, inr}
use Rattle.std.proofs.lemmas.Bool.{cases_lt}
use Rattle.algebra.specs.Nested.{lists, nested}
use Rattle.algebra.proofs.Nested.{length-lists, length-nested}
use Rattle.p3_mmcs.specs.Tree.{OpensAt}
use Rattle.p3_mmcs.specs.Faults.{HasFault}
use Rattle.p3_mmcs.proofs.Queries.{each_from, each_between, some_between}
use Rattle.p3_mmcs.proofs.sha256_mmcs.verification.verify_each.Goals as goal

pub returns-in-Err : goal.returns-in-Err
returns-in-Err g c =
    let first = 8 * c.loop-group.group in
    some_between (HasFault g.T.ElementBytes.bytes c.args.commitment.now c.args.dimensions.now
    c.in-Err.fault) (λ rows. lists rows.items) (λ path. path.items) c.args.indices.now
    c.args.opened_values.now c.args.paths.now first (first + c.min.result - first)
    (omega (arith, c.loop-group-test.true, c.div_ceil-groups.ensures, c.min.ensures))
    c.requires.sets c.requires.paths c.in-Err.ensures

pub loop-group-preserved : goal.loop-group-preserved
loop-group-preserved g c k within below =
    let first = 8 * c.loop-group.group in
    elim (cases_lt k first) [
      | inl before ↦ c.loop-group.invariant k within before
      | inr from ↦
          each_between (OpensAt g.T.ElementBytes.bytes c.args.commitment.now c.args.dimensions.now)
          (λ rows. lists rows.items) (λ path. path.items) c.args.indices.now
          c.args.opened_values.now c.args.paths.now first (first + c.min.result - first)
          (omega (arith, c.loop-group-test.true, c.div_ceil-groups.ensures, c.min.ensures))
          c.in_default.ensures k from (omega (arith, within, below, c.min.ensures))
    ]

pub returns : goal.returns
returns g c =
    each_from (OpensAt g.T.ElementBytes.bytes c.args.commitment.now c.args.dimensions.now)
    c.args.indices.now (nested c.args.opened_values.now) (lists c.args.paths.now)
    (length-nested c.args.opened_values.now ∙ c.requires.sets)
    (length-lists c.args.paths.now ∙ c.requires.paths)
    (λ k l. c.loop-group.invariant k l
    (omega (arith, l, c.loop-group-test.false, c.div_ceil-groups.ensures)))
