-- The first of some matrices that were committed to.
use Rattle.std.proofs.Common.{◌<◌, List, [], ◌∷◌, length, arith}
use Rattle.std.specs.List.{AllZip}
use Rattle.p3_pcs.specs.Requests.{Held, HasColumns}
use Rattle.p3_stark_pcs.specs.Evaluations.{held_at}

-- it has columns, since each does whose polynomials are committed to
module _ {E S : Type 0} (Extends : Held E → S → Type 0)
    (has : (m : Held E) (e : S) → Extends m e → HasColumns m) where
  pub first_has_columns : (ms : List (Held E)) (es : List S) → AllZip Extends ms es
      → 0 < length es → HasColumns (held_at ms 0)
  first_has_columns [] [] h some = absurd (omega arith)
  first_has_columns [] (e ∷ es) h some = absurd h
  first_has_columns (m ∷ ms) [] h some = absurd h
  first_has_columns (m ∷ ms) (e ∷ es) h some = has m e h.0
