use Rattle.std.proofs.Common.{◌∙◌}
use Rattle.p3_air.proofs.Gains.{undone, when_err}
use Rattle.p3_air.proofs.builder.AirBuilder.one_on.Goals as goal

pub returns-then-is_err-clause-unchanged : goal.returns-then-is_err-clause-unchanged
returns-then-is_err-clause-unchanged g c =
    undone c.args.self.now.air _ c.in_ok-one.one.node _ c.in_ok-one.ensures.made
    c.equal_on.new.self.air c.keep_nodes.new.self.air c.len-count.result
    (c.len-count.ensures ∙ c.args.self.now.air.nodes.ok.0)
    (when_err c.equal_on.result c.if-is_err.ensures.value c.equal_on.ensures.unchanged)
    c.keep_nodes.ensures.layout c.keep_nodes.ensures.nodes c.keep_nodes.ensures.constraints
