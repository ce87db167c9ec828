use Rattle.std.proofs.Common.{refl, arith, ◌≡◌, take}
use Rattle.p3_fri_ffi.proofs.Provers.{by_field}
use Rattle.p3_fri_ffi.proofs.prover.p3_fri_prover_commit.Goals as goal

pub returns-then-answer-lt-COMMITMENT-clause-unchanged :
    goal.returns-then-answer-lt-COMMITMENT-clause-unchanged
returns-then-answer-lt-COMMITMENT-clause-unchanged c = λ short.
    by_field c.args.handle.now.kept.prover (λ e. e)
    (λ p e. record { old = p; had = e; new = p; has = e; holds = (refl, refl) })
    (λ p e. record { old = p; had = e; new = p; has = e; holds = (refl, refl) })
    (λ p e. record { old = p; had = e; new = p; has = e; holds = (refl, refl) })

pub returns-in-Ok-clause-committed : goal.returns-in-Ok-clause-committed
returns-in-Ok-clause-committed c = λ is.
    let out : take c.place.new.needed c.place.new.buffer ≡ c.in-Ok.commitment =
    c.place.ensures.bytes (λ four. omega (arith, is, four)) in
    rw (← c.in-Some.ensures.some, ← c.deref_mut.ensures.value, c.opened.ensures, out)
    c.in-Ok.ensures.committed
