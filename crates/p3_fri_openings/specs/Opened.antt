-- The values that rounds ask for.
use Rattle.std.specs.Prelude.{ℕ, List, map}
use Rattle.algebra.specs.Nested.{lists}
use Rattle.p3_pcs.specs.Claims.{zip_with}
use Rattle.p3_fri_relation.specs.Setting.{Fields}
use Rattle.p3_fri_openings.specs.declared.round.OpeningRound.{OpeningRound}
use Rattle.p3_fri_openings.specs.Committed.{committed_values}

-- by matrix, point and column: the values of the committed polynomials
abbrev pub values_asked : {F E : Type 0} → Fields F E → (log_blowup : ℕ) → OpeningRound F E
    → List (List (List E))
values_asked f log_blowup round =
    zip_with (λ matrix points. map (committed_values f log_blowup matrix) points) round.matrices.now
    (lists round.points.now)
