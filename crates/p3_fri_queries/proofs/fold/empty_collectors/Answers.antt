use Rattle.p3_fri_queries.proofs.Queries.{rows_none}
use Rattle.p3_fri_queries.proofs.fold.empty_collectors.Goals as goal

pub returns-clause-rows : goal.returns-clause-rows
returns-clause-rows g c =
    rows_none c.args.rounds c.in_ok-empty_lists-2.field-0.items c.in_ok-empty_lists-2.ensures
