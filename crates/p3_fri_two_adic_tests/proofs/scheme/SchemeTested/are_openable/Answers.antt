use Rattle.p3_fri_two_adic_tests.proofs.scheme.SchemeTested.are_openable.Goals as goal

pub returns : goal.returns
returns c = λ t. c.are_openable.ensures.openable t _
