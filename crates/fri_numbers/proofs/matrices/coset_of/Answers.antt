use Rattle.std.proofs.Common.{◌*◌, ◌^◌, arith, ap, ◌∙◌}
use Rattle.fri_numbers.proofs.matrices.coset_of.Goals as goal

pub returns-clause-fits : goal.returns-clause-fits
returns-clause-fits g c =
    let within = c.in_ok-coset.ensures.well_formed in
    record {
      coset = record {
        size = omega (arith, within.size, c.in-Some.ensures.low);
        nonzero = within.nonzero;
        element = within.element;
      };
      room = (c.in-Some.ensures.some c.args.domain.now.log_size).0 within.size;
      some_column = omega (arith, c.if-width-eq0.false);
      whole = c.is_count.ensures.0 c.if-not-is_count.false
          ∙ ap (λ k. c.args.width * 2 ^ k) (c.log_size.ensures ∙ c.in_ok-coset.ensures.size);
    }
