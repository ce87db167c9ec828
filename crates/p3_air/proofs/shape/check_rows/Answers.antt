use Rattle.std.proofs.Common.{◌<◌, ◌≡◌, length, refl, sym, subst, arith, rules}
use Rattle.algebra.proofs.Nested.{length-lists}
use Rattle.p3_air.proofs.First.{misfit_read}
use Rattle.p3_air.proofs.shape.check_rows.Goals as goal

pub bounds-trace-row : goal.bounds-trace-row
bounds-trace-row g c =
    subst (λ n. c.in-Some.row < n) (length-lists c.args.trace.now) c.in-Some.ensures.within

pub offset_bounds-trace-row : goal.offset_bounds-trace-row
offset_bounds-trace-row g c = search (rules, bounds-trace-row g c)

pub returns-in-Some : goal.returns-in-Some
returns-in-Some g c = (
  misfit_read c.args.layout.now.width c.args.trace.now c.in-Some.row _
      c.index-trace-row.result c.in-Some.ensures
      (subst (λ n. c.in-Some.row < n) (length-lists c.args.trace.now) c.in-Some.ensures.within)
      c.index-trace-row.is (omega (arith, c.index-trace-row.result.ok.0)),
  refl,
)

pub returns-then-preprocessed-trace : goal.returns-then-preprocessed-trace
returns-then-preprocessed-trace g c = (
  search rules,
  c.if-preprocessed-trace.true,
  sym (length-lists c.args.preprocessed.now),
  sym (length-lists c.args.trace.now),
)

pub bounds-preprocessed-row : goal.bounds-preprocessed-row
bounds-preprocessed-row g c =
    subst (λ n. c.in-Some-first_misfit.row < n) (length-lists c.args.preprocessed.now)
    c.in-Some-first_misfit.ensures.within

pub offset_bounds-preprocessed-row : goal.offset_bounds-preprocessed-row
offset_bounds-preprocessed-row g c = search (rules, bounds-preprocessed-row g c)

pub returns-in-Some-first_misfit : goal.returns-in-Some-first_misfit
returns-in-Some-first_misfit g c = (
  misfit_read c.args.layout.now.preprocessed_width c.args.preprocessed.now
      c.in-Some-first_misfit.row c.len-in-Some-first_misfit.result
      c.index-preprocessed-row.result c.in-Some-first_misfit.ensures
      (subst (λ n. c.in-Some-first_misfit.row < n) (length-lists c.args.preprocessed.now)
      c.in-Some-first_misfit.ensures.within)
      c.index-preprocessed-row.is
      (omega (arith, c.index-preprocessed-row.result.ok.0, c.len-in-Some-first_misfit.ensures)),
  refl,
)
