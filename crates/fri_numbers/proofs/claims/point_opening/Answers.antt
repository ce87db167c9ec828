use Rattle.std.proofs.Common.{All, map, subst, sym}
use Rattle.std.proofs.lemmas.Result.{IfOk-from_err}
use Rattle.fri_numbers.proofs.Failed.{malformed_part, malformed}
use Rattle.fri_numbers.proofs.claims.point_opening.Goals as goal

pub returns-in_err-read_point-clause-refused :
    goal.returns-in_err-read_point-clause-refused
returns-in_err-read_point-clause-refused g c =
    malformed _ _ _ c.from_residual.ensures.1
    (λ whole. c.in_err-read_point.ensures.refused
    (subst g.N.Numbered.IsPoint (sym c.deref.ensures.value) whole.point))

pub returns-in_err-read_points-clause-refused :
    goal.returns-in_err-read_points-clause-refused
returns-in_err-read_points-clause-refused g c =
    malformed_part _ _ _ _ c.from_residual-in_err-read_points.ensures.1
    c.in_err-read_points.ensures.refused
    (λ fails whole. fails (subst (λ lists. All g.N.Numbered.IsPoint (map (λ numbers. numbers.items) lists))
    (sym c.deref-2.ensures.value) whole.values))

-- where nothing is answered nothing is said of the answer
pub returns-in_err-read_point-clause-numbers : goal.returns-in_err-read_point-clause-numbers
returns-in_err-read_point-clause-numbers g c = IfOk-from_err c.from_residual.result _ c.from_residual.ensures.0

pub returns-in_err-read_points-clause-numbers : goal.returns-in_err-read_points-clause-numbers
returns-in_err-read_points-clause-numbers g c = IfOk-from_err c.from_residual-in_err-read_points.result _ c.from_residual-in_err-read_points.ensures.0
