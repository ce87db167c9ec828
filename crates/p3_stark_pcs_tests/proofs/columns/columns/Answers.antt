use Rattle.std.proofs.lemmas.List.Elements.{All-push}
use Rattle.std.proofs.Common.{All, subst, sym}
use Rattle.p3_fri_extensions.specs.Extension.{FitsDomain}
use Rattle.p3_stark_pcs_tests.proofs.columns.columns.Goals as goal

pub loop-shift-preserved : goal.loop-shift-preserved
loop-shift-preserved g c =
    subst (λ es. All (λ e. FitsDomain 27 1 e.0.log_size e.1) es)
    (sym (rw c.expect.ensures at c.push.ensures.items))
    (All-push (λ e. FitsDomain 27 1 e.0.log_size e.1) c.loop-shift.all.items
    c.column.result c.loop-shift.invariant c.column.ensures)
