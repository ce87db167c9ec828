use Rattle.std.proofs.Common.{refl}
use Rattle.p3_fri_queries.proofs.Lists.{in_range_at}
use Rattle.p3_fri_queries.proofs.query.check_rounds.Goals as goal

pub row_fault-requires-clause-small : goal.row_fault-requires-clause-small
row_fault-requires-clause-small g c =
    (in_range_at c.in-Some-first_without_row.round c.args.log_arities.now (c.in_default.ensures.none.0 refl)
    c.in-Some-first_without_row.ensures.some.0).1
