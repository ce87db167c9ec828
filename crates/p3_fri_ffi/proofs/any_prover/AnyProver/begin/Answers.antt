use Rattle.std.proofs.Common.{refl}
use Rattle.p3_fri_ffi.proofs.any_prover.AnyProver.begin.Goals as goal

pub returns-in_ok-begin-in-0 : goal.returns-in_ok-begin-in-0
returns-in_ok-begin-in-0 c =
    rw c.in-0.is (record { prover = c.in_ok-begin-in-0.field-0; has = refl; holds = c.in_ok-begin-in-0.ensures })

pub returns-in_ok-begin-in-1 : goal.returns-in_ok-begin-in-1
returns-in_ok-begin-in-1 c =
    rw c.in-1.is (record { prover = c.in_ok-begin-in-1.field-0; has = refl; holds = c.in_ok-begin-in-1.ensures })

pub returns-in_ok-begin-in-2 : goal.returns-in_ok-begin-in-2
returns-in_ok-begin-in-2 c =
    rw c.in-2.is (record { prover = c.in_ok-begin-in-2.field-0; has = refl; holds = c.in_ok-begin-in-2.ensures })
