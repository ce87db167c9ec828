use Rattle.p3_converse.proofs.NewtonForm.{IsNewtonUpTo}
use Rattle.p3_converse.proofs.newton.to_newton_form.Given as goal

abbrev pub invariant-loop-t : goal.invariant-loop-t
invariant-loop-t g l = IsNewtonUpTo g.F.Field.ops l.points l.initial.values l.t l.values
