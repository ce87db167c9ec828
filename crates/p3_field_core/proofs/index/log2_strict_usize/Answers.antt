-- Below the one of a power of two stand as many zeros as its exponent says.
use Rattle.p3_field_core.proofs.IndexPowers.{pow-count_trailing_zeros}
use Rattle.p3_field_core.proofs.index.log2_strict_usize.Goals as goal

pub returns-clause-power : goal.returns-clause-power
returns-clause-power c =
    pow-count_trailing_zeros 64 c.args.n c.requires.power_of_two c.ranges.n.fits
