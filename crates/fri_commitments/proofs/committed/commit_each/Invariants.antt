use Rattle.std.proofs.Common.{◌≡◌, ◌++◌, length}
use Rattle.std.specs.List.{AllZip}
use Rattle.fri_commitments.specs.Committed.{KeepsRead}
use Rattle.fri_commitments.proofs.committed.commit_each.Given as goal

abbrev pub invariant-loop-batch : goal.invariant-loop-batch
invariant-loop-batch g l = record {
  kept : g.P.Pcs.Keeps l.initial.scheme l.scheme;
  committed : AllZip (KeepsRead (g.P.Pcs.rules l.scheme) (g.P.UnivariateStarkPcs.stark_rules l.scheme))
      l.all.items l.yielded;
  whole : l.yielded ++ l.batch-iterator.rest.items ≡ l.fn.batches.items;
  count : l.batch-iterator.rest.len ≡ length l.batch-iterator.rest.items;
}
