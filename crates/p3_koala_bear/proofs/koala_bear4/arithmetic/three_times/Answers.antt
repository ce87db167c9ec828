use Rattle.std.proofs.Common.{◌/◌, arith}
use Rattle.std.proofs.lemmas.Nat.{and_mask}
use Rattle.p3_koala_bear.proofs.QuarticSteps.{three_times_is}
use Rattle.p3_koala_bear.proofs.koala_bear4.arithmetic.three_times.Goals as goal

pub returns-clause-value : goal.returns-clause-value
returns-clause-value c =
    three_times_is c.args.sum (c.args.sum / 4294967296) _
    (let low = and_mask c.args.sum 32 in omega (arith, low))
