use Rattle.std.proofs.Common.{rules}
use Rattle.std.proofs.lemmas.Grind.{common_steps}
use Rattle.p3_fri_queries.proofs.Gains.{lists_more}
use Rattle.p3_fri_queries.proofs.fold.empty_lists.Goals as goal

pub loop-preserved : goal.loop-preserved
loop-preserved g c =
    lists_more c.loop.counter c.loop.vectors.items c.push.new.self.items c.new.result c.loop.invariant
    (search (rules, common_steps)) (search (rules, common_steps))
