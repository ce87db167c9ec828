-- Of no digits the result is 0; of others the highest of all 64 reversed.
use Rattle.std.proofs.Common.{◌/◌, ◌-◌, ◌^◌, sym, ap, ◌∙◌}
use Rattle.algebra.proofs.Digits.{rev-zero}
use Rattle.p3_field_core.proofs.IndexBlocks.{rev-highest}
use Rattle.p3_field_core.proofs.index.reverse_bits_len.Goals as goal

pub returns-then-bit_len-eq0 : goal.returns-then-bit_len-eq0
returns-then-bit_len-eq0 c = rw c.if-bit_len-eq0.true (sym (rev-zero c.args.x))

pub returns-else-bit_len-eq0 : goal.returns-else-bit_len-eq0
returns-else-bit_len-eq0 c =
    ap (λ n. n / 2 ^ (64 - c.args.bit_len)) c.reverse_bits.ensures
    ∙ rev-highest c.args.bit_len c.args.x c.requires.bit_len
