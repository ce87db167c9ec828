use Rattle.std.proofs.Common.{◌+◌, sym, subst, ◌∙◌, take}
use Rattle.fri_commitments.specs.Preprocessing.{NamesPreprocessed}
use Rattle.fri_commitments.proofs.Preprocessing.{another_found, first_found, plain_next}
use Rattle.fri_commitments.proofs.reading.preprocessing_of.Goals as goal
use Rattle.fri_commitments.proofs.reading.preprocessing_of.Goals.{then-batch+else-is_some, else-batch}

pub returns-then-is_some-clause-refused : goal.returns-then-is_some-clause-refused
returns-then-is_some-clause-refused c =
    another_found c.args.batches.now c.loop-index.index c.index-batches-index.result c.loop-index-test.true
    c.index-batches-index.is c.if-batch.true c.loop-index.found (sym c.is_some.ensures ∙ c.if-is_some.true)
    c.loop-index.invariant

pub loop-index-preserved : goal.loop-index-preserved
loop-index-preserved c =
    let bs = c.args.batches.now in
    let i = c.loop-index.index in
    let b = c.index-batches-index.result in
    elim c.if-batch.branch as (λ _. NamesPreprocessed c.if-batch.found (take (i + 1) bs)) [
      | then-batch+else-is_some w ↦
          subst (λ f. NamesPreprocessed f (take (i + 1) bs)) (sym w.found-is)
          (first_found bs i b c.loop-index-test.true c.index-batches-index.is w.if-batch.true c.loop-index.found
          (sym w.is_some.ensures ∙ w.if-is_some.false) c.loop-index.invariant)
      | else-batch w ↦
          subst (λ f. NamesPreprocessed f (take (i + 1) bs)) (sym w.found-is)
          (plain_next bs i b c.loop-index-test.true c.index-batches-index.is c.loop-index.found c.loop-index.invariant
          w.if-batch.false)
    ]
