-- What is known of a matrix's points before its quotients are added up.
use Rattle.std.specs.Prelude.{◌≡◌, List, length, map, All}
use Rattle.algebra.specs.Field.{FieldOps, sub}
use Rattle.algebra.specs.Polynomial.{val}
use Rattle.p3_pcs.specs.Claims.{PointClaim}

-- at each point, claimed beside a row opened at `x`: the claimed values combined by `alpha`, the
-- inverse of the distance, and as many values as the row has
pub record AreCombined {E : Type 0} (K : FieldOps E) (alpha x : E) (points : List (PointClaim E))
    (row claimed inverses : List E) : Type 0 where
  pub values : claimed ≡ map (λ z. val K z.values alpha) points
  pub distances : inverses ≡ map (λ z. K.inv (sub K z.point x)) points
  pub widths : All (λ z. length z.values ≡ length row) points
