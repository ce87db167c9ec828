use Rattle.std.proofs.Common.{◌∙◌, ap}
use Rattle.p3_challenger_fs.specs.Description.{stream_of}
use Rattle.p3_challenger_fs.specs.Turns.{bytes_observed}
use Rattle.p3_challenger_sha256.specs.Sha256.{element_observed}
use Rattle.fri_statement.specs.Statement.{statement_stream}
use Rattle.fri_statement.proofs.absorption.absorb_statement.Goals as goal

pub returns-clause-absorbed : goal.returns-clause-absorbed
unfolding statement_stream
returns-clause-absorbed g c =
    c.start-script.ensures.state
    ∙ ap (λ bytes. bytes_observed g.F.Field.ops
    (element_observed g.F.PrimeField64.ORDER_U64 g.F.PrimeField64.canonical) c.args.challenger.now bytes)
    (c.in_ok-seed.ensures.stream ∙ ap (λ d. stream_of d) c.in_ok-separator.ensures)
