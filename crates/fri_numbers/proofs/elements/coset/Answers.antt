use Rattle.std.proofs.Common.{◌<◌, subst, sym, ap, ◌∙◌, arith}
use Rattle.fri_numbers.specs.Numbers.{IsCosetBelow}
use Rattle.fri_numbers.proofs.Canonical.{HaveElements, not_zero, is_coset}
use Rattle.fri_numbers.proofs.elements.coset.Given.{Over}
use Rattle.fri_numbers.proofs.elements.coset.Goals as goal

numbered : (g : Over) → HaveElements g.F.Field.ops g.F.PrimeField64.ORDER_U64 g.F.PrimeField64.canonical
numbered g = record {
  below = g.met.F.PrimeField64.canonical_below;
  again = g.met.F.PrimeField64.multiple_canonical;
  numbers = g.met.F.PrimeField64.canonical_multiple;
}

pub returns-in-None-clause-refused : goal.returns-in-None-clause-refused
returns-in-None-clause-refused g c = λ h.
    let some : 0 < g.F.PrimeField64.canonical c.in-Some.shift =
    subst (λ n. 0 < n) (sym c.in-Some.ensures.number) h.nonzero in
    let is = c.in-None.ensures.some.1 (
      not_zero g.F.Field.ops g.F.PrimeField64.ORDER_U64 g.F.PrimeField64.canonical (numbered g) c.in-Some.shift some,
      omega (arith, c.requires.most, c.if-domain-most.false),
    ) in
    cc is

pub returns-in-Some-new-clause-well_formed : goal.returns-in-Some-new-clause-well_formed
returns-in-Some-new-clause-well_formed g c =
    subst (λ n. IsCosetBelow g.F.PrimeField64.ORDER_U64 c.args.most n c.args.domain.now.log_size)
    (ap g.F.PrimeField64.canonical c.in-Some-new.ensures.shift ∙ c.in-Some.ensures.number)
    (is_coset g.F.Field.ops g.F.PrimeField64.ORDER_U64 g.F.PrimeField64.canonical (numbered g) c.args.most c.in-Some-new.coset.shift
    c.args.domain.now.log_size c.in-Some-new.coset.nonzero (omega (arith, c.if-domain-most.false)))
