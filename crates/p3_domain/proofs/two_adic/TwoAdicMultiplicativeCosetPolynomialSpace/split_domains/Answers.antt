use Rattle.std.proofs.Common.{◌≡◌, ◌+◌, ◌-◌, ◌^◌, ◌≤◌, arith}
use Rattle.p3_field_core.proofs.IndexPowers.{exponent_at_most}
use Rattle.p3_domain.proofs.Splits.{split_into}
use Rattle.p3_domain.proofs.two_adic.TwoAdicMultiplicativeCosetPolynomialSpace.split_domains.Goals as goal

pub overflow_sub-log_chunk_size : goal.overflow_sub-log_chunk_size
overflow_sub-log_chunk_size g c =
    exponent_at_most c.log2_strict_usize-log_num_chunks.result c.args.self.now.log_size
    (let power = c.log2_strict_usize-log_num_chunks.ensures.power in
    let within = c.requires.within in omega (arith, power, within))

pub split_coset-requires-clause-within_two_adicity :
    goal.split_coset-requires-clause-within_two_adicity
split_coset-requires-clause-within_two_adicity g c =
    let e = c.log2_strict_usize-log_num_chunks.result in
    let below : e ≤ c.args.self.now.log_size =
    exponent_at_most e c.args.self.now.log_size
    (let power = c.log2_strict_usize-log_num_chunks.ensures.power in
    let within = c.requires.within in omega (arith, power, within)) in
    let few = c.args.self.now.within_two_adicity in
    omega (arith, below, few)

pub returns : goal.returns
returns g c =
    let self = c.args.self.now in
    let e = c.log2_strict_usize-log_num_chunks.result in
    let below : e ≤ self.log_size = exponent_at_most e self.log_size
    (let power = c.log2_strict_usize-log_num_chunks.ensures.power in
    let within = c.requires.within in omega (arith, power, within)) in
    record {
      pieces = λ d count. split_into g.F.Field.ops g.met.F.Field.laws g.F.TwoAdicField.TWO_ADICITY
          g.F.TwoAdicField.root g.met.F.TwoAdicField.roots_law self.log_size
          self.within_two_adicity self.shift self.nonzero (self.log_size - e) e d
          c.args.num_chunks _ _ (omega (arith, below))
          c.log2_strict_usize-log_num_chunks.ensures.power count c.in_ok-pieces.ensures.sizes
          c.in_ok-pieces.ensures.shifts c.in_ok-pieces.ensures.disjoint;
    }
