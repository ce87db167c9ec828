-- Quotients in front of other terms.
use Rattle.std.proofs.Common.{◌≡◌, ℕ, zero, suc, ◌+◌, ◌<◌, List, [], ◌∷◌, ◌++◌, drop, length}
use Rattle.std.proofs.Common.{get_or, sym, ap, ap₂, ◌∙◌, arith, add-one, append_assoc}
use Rattle.std.proofs.lemmas.List.{get_or-map, length-map, drop_all}
use Rattle.std.specs.List.{flat_map}
use Rattle.algebra.specs.Field.{FieldOps, IsField, pow, sub}
use Rattle.algebra.specs.Polynomial.{val}
use Rattle.algebra.specs.Quotients.{quotients}
use Rattle.algebra.proofs.Quotients.{quotients_compressed, length-quotients}
use Rattle.algebra.proofs.Values.{val-append}
use Rattle.p3_pcs.specs.Claims.{PointClaim}
use Rattle.p3_fri_inputs.specs.Points.{AreCombined}

module _ {E : Type 0} (K : FieldOps E) (L : IsField K) (alpha x : E) where
  open K use {add as ◌⊕◌, mul as ◌⊗◌, inv}

  infixl 65 ◌⊕◌
  infixl 70 ◌⊗◌
  -- the quotients at all these points
  abbrev pub at_points : (row : List E) → List (PointClaim E) → List E
  at_points row points = flat_map (λ z. quotients K z.point x z.values row) points

  module _ (row later : List E) where
    -- the sum from a point on: its quotients, and the sum after it moved up
    abbrev pub from_point : PointClaim E → (sum : E) → E
    from_point z sum =
        sub K (val K z.values alpha) (val K row alpha) ⊗ inv (sub K z.point x)
        ⊕ pow K alpha (length row) ⊗ sum

    pub point_in_front : (z : PointClaim E) (rest : List E) → length z.values ≡ length row
        → val K (quotients K z.point x z.values row ++ rest) alpha
        ≡ from_point z (val K rest alpha)
    point_in_front z rest e =
        val-append K L.ring (quotients K z.point x z.values row) rest alpha
        ∙ ap₂ (λ v n. v ⊕ pow K alpha n ⊗ val K rest alpha)
        (quotients_compressed K L z.point x alpha z.values row e)
        (length-quotients K z.point x z.values row e ∙ e)

    pub points_from : (points : List (PointClaim E)) (k : ℕ) (z : PointClaim E)
        → k < length points → length (get_or points k z).values ≡ length row
        → val K (at_points row (drop k points) ++ later) alpha
        ≡ from_point (get_or points k z) (val K (at_points row (drop (suc k) points) ++ later) alpha)
    points_from [] k z l e = absurd (omega (arith, l))
    points_from (y ∷ points) zero z l e =
        ap (λ ts. val K ts alpha)
        (append_assoc (quotients K y.point x y.values row) (at_points row points) later)
        ∙ point_in_front y (at_points row points ++ later) e
    points_from (y ∷ points) (suc k) z l e = points_from points k z (omega (arith, l)) e

    -- the same with what a step of the sum has at hand
    pub points_step : (points : List (PointClaim E)) (claimed inverses : List E)
        → AreCombined K alpha x points row claimed inverses
        → (k : ℕ) (y i at_row step sum : E) → k < length claimed
        → y ≡ get_or claimed k y → i ≡ get_or inverses k i → at_row ≡ val K row alpha
        → step ≡ pow K alpha (length row)
        → sum ≡ val K (at_points row (drop (k + 1) points) ++ later) alpha
        → sub K y at_row ⊗ i ⊕ step ⊗ sum ≡ val K (at_points row (drop k points) ++ later) alpha
    points_step points claimed inverses are k y i at_row step sum l is_y is_i is_row is_step is_sum =
        let z : PointClaim E = record { point = y; values = [] } in
        let below : k < length points =
        omega (arith, l, ap length are.values, length-map points (λ z. val K z.values alpha)) in
        let there = get_or points k z in
        let value : y ≡ val K there.values alpha =
        is_y ∙ ap (λ ys. get_or ys k y) are.values
        ∙ get_or-map (λ z. val K z.values alpha) points k z y below in
        let distance : i ≡ inv (sub K there.point x) =
        is_i ∙ ap (λ ys. get_or ys k i) are.distances
        ∙ get_or-map (λ z. inv (sub K z.point x)) points k z i below in
        ap₂ (λ a b. sub K a at_row ⊗ b ⊕ step ⊗ sum) value distance
        ∙ ap₂ (λ a b. sub K (val K there.values alpha) a ⊗ inv (sub K there.point x) ⊕ b ⊗ sum)
        is_row is_step
        ∙ ap (λ s. from_point there s)
        (is_sum ∙ ap (λ n. val K (at_points row (drop n points) ++ later) alpha) (add-one k))
        ∙ sym (points_from points k z below (are.widths k z below))

    -- after the last point there are the later terms alone
    pub points_end : (points : List (PointClaim E)) (claimed inverses : List E)
        → AreCombined K alpha x points row claimed inverses
        → later ≡ at_points row (drop (length claimed) points) ++ later
    points_end points claimed inverses are =
        ap (λ ps. at_points row ps ++ later)
        (sym (drop_all (length claimed) points
        (omega (arith, ap length are.values, length-map points (λ z. val K z.values alpha)))))
