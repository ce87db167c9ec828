use Rattle.std.proofs.Common.{◌∙◌, arith}
use Rattle.p3_fri_hiding_tests.proofs.Maskable.{extendable}
use Rattle.p3_fri_hiding_tests.proofs.committable.chunks.Goals as goal

pub returns : goal.returns
returns g c =
    extendable _ (λ d. d.shift) (λ d. d.log_size) 27 c.evaluation-first.result
    c.evaluation-second.result (omega arith) c.evaluation-first.ensures
    c.evaluation-second.ensures (omega arith) _ (c.deref.ensures.value ∙ c.two-domains.ensures)
    (c.are_disjoint.ensures.0 c.if-not-are_disjoint.false)
