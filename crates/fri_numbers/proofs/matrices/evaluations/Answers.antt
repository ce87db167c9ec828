use Rattle.std.proofs.lemmas.Result.{IfOk-from_err}
use Rattle.std.proofs.Common.{◌<◌, All, map, subst, sym, ap, ap₂, ◌∙◌}
use Rattle.p3_matrix.specs.Rows.{rows_of}
use Rattle.fri_numbers.specs.Listed.{domain_by}
use Rattle.fri_numbers.specs.Shapes.{HasShape}
use Rattle.algebra.specs.Field.{multiple}
use Rattle.fri_schemes.specs.Rows.{log_committed}
use Rattle.fri_numbers.proofs.Canonical.{HaveElements, every_is_element, every_element_again}
use Rattle.fri_numbers.proofs.matrices.evaluations.Given.{Over}
use Rattle.fri_numbers.proofs.matrices.evaluations.Goals as goal

numbered : (g : Over) → HaveElements g.F.Field.ops g.F.PrimeField64.ORDER_U64 g.F.PrimeField64.canonical
numbered g = record {
  below = g.met.F.PrimeField64.canonical_below;
  again = g.met.F.PrimeField64.multiple_canonical;
  numbers = g.met.F.PrimeField64.canonical_multiple;
}

pub returns-clause-listed : goal.returns-clause-listed
returns-clause-listed g c = record {
  domain = ap₂ domain_by
      (ap g.F.PrimeField64.canonical c.domain_committed.ensures.shift ∙ c.in_ok-domain.ensures.shift)
      (c.domain_committed.ensures.size ∙ ap (λ l. log_committed c.args.hides l) c.in_ok-domain.ensures.size);
  width = c.matrix_of-rows.ensures.width;
  listed_rows = c.matrix_of-rows.ensures.rows
      ∙ ap (λ xs. rows_of c.args.matrix.now.width xs)
      (sym (every_element_again g.F.Field.ops g.F.PrimeField64.ORDER_U64 g.F.PrimeField64.canonical (numbered g) c.in_ok-values.values.items)
      ∙ ap (λ ns. map (λ n. multiple g.F.Field.ops n) ns) (c.in_ok-values.ensures.numbers ∙ c.deref.ensures.value));
}

pub returns-clause-well_formed : goal.returns-clause-well_formed
returns-clause-well_formed g c = record {
  shape = subst (λ n. HasShape g.F.PrimeField64.ORDER_U64 g.F.TwoAdicField.TWO_ADICITY c.args.hides c.args.log_blowup
      c.args.matrix.now.domain c.args.matrix.now.width n) (c.len-count.ensures ∙ c.args.matrix.now.values.ok.0)
      c.in_ok-domain.ensures.fits;
  elements = subst (λ ns. All (λ n. n < g.F.PrimeField64.ORDER_U64) ns) (c.in_ok-values.ensures.numbers ∙ c.deref.ensures.value)
      (every_is_element g.F.Field.ops g.F.PrimeField64.ORDER_U64 g.F.PrimeField64.canonical (numbered g) c.in_ok-values.values.items);
}

-- where nothing is answered nothing is said of the answer
pub returns-in_err-domain-clause-fits : goal.returns-in_err-domain-clause-fits
returns-in_err-domain-clause-fits g c = IfOk-from_err c.from_residual.result _ c.from_residual.ensures.0

pub returns-in_err-domain-clause-listed : goal.returns-in_err-domain-clause-listed
returns-in_err-domain-clause-listed g c = IfOk-from_err c.from_residual.result _ c.from_residual.ensures.0

pub returns-in_err-domain-clause-well_formed : goal.returns-in_err-domain-clause-well_formed
returns-in_err-domain-clause-well_formed g c = IfOk-from_err c.from_residual.result _ c.from_residual.ensures.0

pub returns-in_err-values-clause-fits : goal.returns-in_err-values-clause-fits
returns-in_err-values-clause-fits g c = IfOk-from_err c.from_residual-in_err-values.result _ c.from_residual-in_err-values.ensures.0

pub returns-in_err-values-clause-listed : goal.returns-in_err-values-clause-listed
returns-in_err-values-clause-listed g c = IfOk-from_err c.from_residual-in_err-values.result _ c.from_residual-in_err-values.ensures.0

pub returns-in_err-values-clause-well_formed : goal.returns-in_err-values-clause-well_formed
returns-in_err-values-clause-well_formed g c = IfOk-from_err c.from_residual-in_err-values.result _ c.from_residual-in_err-values.ensures.0
