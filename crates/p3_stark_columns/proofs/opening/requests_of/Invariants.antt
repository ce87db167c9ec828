use Rattle.std.proofs.Common.{◌≡◌, map, take}
use Rattle.p3_pcs.specs.Requests.{request}
use Rattle.p3_stark_columns.specs.Asked.{asked}
use Rattle.p3_stark_columns.proofs.opening.requests_of.Given as goal

abbrev pub invariant-loop-batch : goal.invariant-loop-batch
invariant-loop-batch g l =
    map request l.requests.items ≡ map asked (take l.batch-index l.fn.all)
