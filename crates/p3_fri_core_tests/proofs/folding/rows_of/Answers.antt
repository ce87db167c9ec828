use Rattle.std.proofs.Common.{◌<◌, arith}
use Rattle.std.proofs.lemmas.Nat.{one_shl}
use Rattle.p3_fri_core_tests.proofs.folding.rows_of.Goals as goal

pub returns-clause-height : goal.returns-clause-height
returns-clause-height g c =
    let small : c.args.log_height < 64 = omega (arith, c.requires.height) in
    omega (
      arith,
      one_shl c.args.log_height 64 small,
      c.height.ensures,
      c.if-height-log_height.false,
    )
