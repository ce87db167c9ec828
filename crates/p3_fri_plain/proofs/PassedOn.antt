-- Refusals by a fault of a part, as refusals by a fault of the whole.
use Rattle.std.specs.Prelude.{◌≡◌, ◌≢◌, Result, Ok, Err, IfErr}
use Rattle.std.specs.Result.{IsErrAnd}
use Rattle.std.proofs.Common.{sym, ◌∙◌, subst}
use Rattle.p3_fri_plain.specs.declared.error.PlainProofError.{PlainProofError}
use Rattle.p3_fri_plain.specs.declared.error.PlainProofError.TheVariants.{OutOfMemory}

-- where the part's refusal is passed on as it is
pub passed_on : {T : Type 0} (r : Result T PlainProofError) (e : PlainProofError)
    (Q : PlainProofError → Type 0) → IsErrAnd r (λ y. y ≡ e) → (e ≢ OutOfMemory → Q e)
    → IfErr r (λ y. y ≢ OutOfMemory → Q y)
passed_on (Ok x) e Q is whole = tt
passed_on (Err y) e Q is whole = λ other. subst Q (sym is) (whole (λ same. other (is ∙ same)))
