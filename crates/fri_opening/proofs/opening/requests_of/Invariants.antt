use Rattle.std.proofs.Common.{◌≡◌, ◌++◌, map}
use Rattle.std.specs.Slice.Iter.{iter_mut_rest}
use Rattle.std.specs.Iterator.Adapters.{zip_first, zip_second}
use Rattle.algebra.specs.Nested.{nested}
use Rattle.p3_pcs.specs.Requests.{request}
use Rattle.fri_opening.specs.Openings.{requests_for}
use Rattle.fri_opening.proofs.opening.requests_of.Given as goal

abbrev pub invariant-loop-committed : goal.invariant-loop-committed
invariant-loop-committed g l =
    map request l.requests.items
    ++ requests_for
    (iter_mut_rest (zip_first l.committed-iterator)) (nested (zip_second l.committed-iterator).rest.items)
    ≡ requests_for l.fn.all (nested l.fn.points.items)
