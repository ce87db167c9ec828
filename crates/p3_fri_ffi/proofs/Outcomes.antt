-- What the status says of an outcome.
use Rattle.std.proofs.Common.{◌≡◌, ◌≢◌, ℕ, List, Result, Ok, Err, subst, sym, refl}
use Rattle.std.specs.Prelude.{IfOk, OnErr, Vec}
use Rattle.std.specs.Global.{Global}

-- what holds of an answer holds of what is written at status 0
pub answered : {R : Type 0} (P : List ℕ → Type 0) (outcome : Result (Vec ℕ Global) R)
    (status : ℕ) (written : List ℕ) → IfOk outcome (λ v. P v.items)
    → IfOk outcome (λ v. status ≡ 0 → written ≡ v.items) → OnErr outcome (status ≢ 0)
    → status ≡ 0 → P written
answered P (Ok v) status written holds same none is = subst P (sym (same is)) holds
answered P (Err e) status written holds same none is = absurd (none is)

-- and so does what holds wherever there is an answer
pub known : {R P : Type 0} (outcome : Result (Vec ℕ Global) R) (status : ℕ)
    → IfOk outcome (λ v. P) → OnErr outcome (status ≢ 0) → status ≡ 0 → P
known (Ok v) status holds none is = holds
known (Err e) status holds none is = absurd (none is)

-- what follows from an answer follows at status 0
pub by_answer : {R P : Type 0} {status : ℕ} (outcome : Result (Vec ℕ Global) R)
    → ((v : Vec ℕ Global) → outcome ≡ Ok v → P) → OnErr outcome (status ≢ 0) → status ≡ 0 → P
by_answer (Ok v) follows none is = follows v refl
by_answer (Err e) follows none is = absurd (none is)
