-- The log heights to which rounds fold, one after another.
use Rattle.std.proofs.Common.{◌≡◌, ℕ, zero, suc, ◌+◌, ◌-◌, ◌<◌, List, [], ◌∷◌, length, get_or, refl, ap, ◌∙◌, add-one, arith}
use Rattle.p3_fri_relation.specs.Queries.{heights_after}

-- the log height from which the `k`-th round folds
abbrev pub height_before : (log_arities : List ℕ) (h k : ℕ) → ℕ
height_before log_arities h k = get_or (h ∷ heights_after log_arities h) k 0

pub height_step : (log_arities : List ℕ) (h k : ℕ) → k < length log_arities
    → height_before log_arities h k - get_or log_arities k 0 ≡ get_or (heights_after log_arities h) k 0
height_step [] h k l = absurd (omega arith)
height_step (a ∷ log_arities) h zero l = refl
height_step (a ∷ log_arities) h (suc k) l = height_step log_arities (h - a) k (omega arith)

pub height_here : (log_arities : List ℕ) (h k height : ℕ) → k < length log_arities
    → height ≡ height_before log_arities h k
    → height - get_or log_arities k 0 ≡ get_or (heights_after log_arities h) k 0
height_here log_arities h k height l e =
    ap (λ (n : ℕ). n - get_or log_arities k 0) e ∙ height_step log_arities h k l

pub height_next : (log_arities : List ℕ) (h k height : ℕ) → k < length log_arities
    → height ≡ height_before log_arities h k
    → height - get_or log_arities k 0 ≡ height_before log_arities h (k + 1)
height_next log_arities h k height l e = rw add-one (height_here log_arities h k height l e)
