use Rattle.std.proofs.Common.{◌∙◌}
use Rattle.p3_air.specs.declared.air.Node.TheVariants.{Sub}
use Rattle.p3_air.proofs.Gains.{undone, node_zero, when_err, when_ok}
use Rattle.p3_air.proofs.builder.AirBuilder.equal_on.Goals as goal

pub returns-then-is_err-clause-unchanged : goal.returns-then-is_err-clause-unchanged
returns-then-is_err-clause-unchanged g c =
    undone c.args.self.now.air c.sub.new.self.air c.in_ok-difference.difference.node
    (Sub c.args.a.node c.args.b.node) c.in_ok-difference.ensures.made c.zero_on.new.self.air
    c.keep_nodes.new.self.air c.len-count.result
    (c.len-count.ensures ∙ c.args.self.now.air.nodes.ok.0)
    (when_err c.zero_on.result c.if-is_err.ensures.value c.zero_on.ensures.unchanged)
    c.keep_nodes.ensures.layout c.keep_nodes.ensures.nodes c.keep_nodes.ensures.constraints

pub returns-clause-asserted : goal.returns-clause-asserted
returns-clause-asserted g c =
    node_zero c.args.self.now.air c.sub.new.self.air c.in_ok-difference.difference.node
    (Sub c.args.a.node c.args.b.node) c.in_ok-difference.ensures.made c.zero_on.new.self.air
    c.args.rows
    (when_ok c.zero_on.result c.if-is_err.ensures.value c.zero_on.ensures.asserted)
