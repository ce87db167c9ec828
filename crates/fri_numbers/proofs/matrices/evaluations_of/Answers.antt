use Rattle.std.proofs.Common.{false, subst, sym, ap, ap₂, ◌∙◌}
use Rattle.p3_matrix.specs.Rows.{rows_of}
use Rattle.fri_numbers.specs.Listed.{domain_by}
use Rattle.fri_numbers.specs.Elements.{record_of}
use Rattle.fri_numbers.specs.Shapes.{HasShape}
use Rattle.fri_numbers.proofs.Canonical.{HaveElements, every_is_element, every_element_again}
use Rattle.fri_numbers.proofs.matrices.evaluations_of.Given.{Over}
use Rattle.fri_numbers.proofs.matrices.evaluations_of.Goals as goal

numbered : (g : Over) → HaveElements g.F.Field.ops g.F.PrimeField64.ORDER_U64 g.F.PrimeField64.canonical
numbered g = record {
  below = g.met.F.PrimeField64.canonical_below;
  again = g.met.F.PrimeField64.multiple_canonical;
  numbers = g.met.F.PrimeField64.canonical_multiple;
}

pub returns-clause-listed : goal.returns-clause-listed
returns-clause-listed g c = record {
  domain = ap₂ domain_by c.in_ok-coset.ensures.shift c.in_ok-coset.ensures.size;
  width = c.matrix_of-rows.ensures.width;
  listed_rows = c.matrix_of-rows.ensures.rows
      ∙ ap (λ xs. rows_of c.args.matrix.width xs)
      (sym (every_element_again g.F.Field.ops g.F.PrimeField64.ORDER_U64 g.F.PrimeField64.canonical (numbered g)
      c.args.matrix.values.items));
}

pub returns-clause-well_formed : goal.returns-clause-well_formed
returns-clause-well_formed g c = record {
  shape = subst (λ n. HasShape g.F.PrimeField64.ORDER_U64 g.F.TwoAdicField.TWO_ADICITY false c.args.log_blowup
      c.args.matrix.domain c.args.matrix.width n)
      (c.len.ensures ∙ (record_of g.F.PrimeField64.canonical c.args.matrix).values.ok.0) c.in_ok-coset.ensures.fits;
  elements = every_is_element g.F.Field.ops g.F.PrimeField64.ORDER_U64 g.F.PrimeField64.canonical (numbered g)
      c.args.matrix.values.items;
}
