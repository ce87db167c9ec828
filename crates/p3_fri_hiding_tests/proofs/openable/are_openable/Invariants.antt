use Rattle.std.proofs.Common.{drop}
use Rattle.p3_mmcs.specs.ProverData.{matrices_of}
use Rattle.p3_fri_hiding_tests.specs.Openable.{AreAsked}
use Rattle.p3_fri_hiding_tests.proofs.openable.are_openable.Given as goal

-- if the requests that are left are as they are to be, all are
abbrev pub invariant-loop-request : goal.invariant-loop-request
invariant-loop-request l =
    AreAsked l.codewords matrices_of l.is_preprocessed (drop l.request-index l.requests)
    → AreAsked l.codewords matrices_of l.is_first_preprocessed l.requests
