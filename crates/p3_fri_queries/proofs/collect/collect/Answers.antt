use Rattle.std.proofs.Common.{rules, [], ◌∷◌}
use Rattle.std.proofs.lemmas.Grind.{common_steps}
use Rattle.algebra.specs.Nested.{nested}
use Rattle.p3_fri_queries.proofs.Lists.{set_map}
use Rattle.p3_fri_queries.proofs.collect.collect.Goals as goal

pub returns-clause-indices : goal.returns-clause-indices
returns-clause-indices g c = λ _. set_map (λ indices. indices.items) c.args.group_indices_by_round.now c.args.round
    c.push.new.self c.index-group_indices_by_round-round.result (c.args.group_index ∷ []) c.requires.indices
    (search (rules, common_steps))

pub returns-clause-rows : goal.returns-clause-rows
returns-clause-rows g c = λ _. set_map (λ round. nested round.items) c.args.rows_by_round.now c.args.round
    c.push-2.new.self c.index-rows_by_round-round.result ((c.args.row.items ∷ []) ∷ []) c.requires.rows
    (search (rules, common_steps))
