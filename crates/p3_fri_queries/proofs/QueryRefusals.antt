-- Refusals that are handed on.
use Rattle.std.proofs.Common.{◌≡◌, subst, sym, Result, Ok, Err}
use Rattle.std.specs.Prelude.{IsOk, IsErr, IsErrAnd, IfErr}

-- what holds of a refusal holds of the one that it is handed on as
pub handed_on : {T A : Type 0} (P : A → Type 0) (r : Result T A) (e : A)
    → IsErr r × IsErrAnd r (λ x. x ≡ e) → P e → IfErr r P
handed_on P (Ok v) e h p = tt
handed_on P (Err x) e h p = subst P (sym h.1) p

-- what was refused isn't there
pub refused : {T A : Type 0} (r : Result T A) → IsErr r → IsOk r → ⊥
refused (Ok v) e o = cc
refused (Err x) e o = cc
