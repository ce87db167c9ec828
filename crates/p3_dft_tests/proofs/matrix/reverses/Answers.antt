use Rattle.std.proofs.Common.{arith, sym, ◌∙◌}
use Rattle.std.proofs.lemmas.Nat.{one_shl}
use Rattle.p3_dft_tests.proofs.matrix.reverses.Goals as goal

pub bit_reverse_rows-reversed-requires : goal.bit_reverse_rows-reversed-requires
bit_reverse_rows-reversed-requires g c = record {
  power_of_two = (c.args.log_height, sym c.height.ensures ∙ c.if-height-log_height.false ∙ one_shl c.args.log_height 64 (omega (arith, c.requires)));
}
