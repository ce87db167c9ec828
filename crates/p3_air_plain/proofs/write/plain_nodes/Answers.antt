use Rattle.p3_air_plain.specs.Forms.{node_form}
use Rattle.p3_air_plain.proofs.Mapped.{image_more, images_end}
use Rattle.p3_air_plain.proofs.write.plain_nodes.Goals as goal

pub loop-node-preserved : goal.loop-node-preserved
loop-node-preserved g c =
    image_more (node_form g.F.PrimeField64.canonical) c.args.nodes.now c.loop-node.node-index
    c.node-item.result c.plain_node.result c.loop-node.forms.items c.push.new.self.items
    c.loop-node-test.true c.node-item.is c.plain_node.ensures c.loop-node.invariant
    c.in_ok-push.ensures.items

pub returns : goal.returns
returns g c =
    images_end (node_form g.F.PrimeField64.canonical) c.args.nodes.now c.loop-node.node-index
    c.loop-node.forms.items c.loop-node-test.false c.loop-node.invariant
