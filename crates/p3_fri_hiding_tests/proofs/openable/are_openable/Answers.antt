use Rattle.std.proofs.Common.{rules}
use Rattle.p3_mmcs.specs.ProverData.{matrices_of}
use Rattle.p3_fri_hiding_tests.specs.Openable.{IsAsked}
use Rattle.p3_fri_hiding_tests.proofs.Fresh.{from_next, from_end, are_fresh}
use Rattle.p3_fri_hiding_tests.proofs.openable.are_openable.Goals as goal

pub loop-request-preserved : goal.loop-request-preserved
loop-request-preserved c =
    let request = c.request-item.result in
    let asked : IsAsked c.args.codewords matrices_of c.loop-request.is_preprocessed request =
    record {
      fresh = record {
        held = search rules;
        kind = search rules;
        unopened = search rules;
        wide = search rules;
        some = search rules;
      };
      counted = search rules;
    } in
    λ others. c.loop-request.invariant (from_next c.args.codewords matrices_of
    c.loop-request.is_preprocessed c.args.requests.now c.loop-request.request-index request
    c.loop-request-test.true c.request-item.is asked others)

pub returns : goal.returns
returns c = λ t.
    are_fresh c.args.codewords matrices_of c.args.is_first_preprocessed c.args.requests.now
    (search rules)
    (c.loop-request.invariant (from_end c.args.codewords matrices_of c.loop-request.is_preprocessed
    c.args.requests.now c.loop-request.request-index c.loop-request-test.false))
