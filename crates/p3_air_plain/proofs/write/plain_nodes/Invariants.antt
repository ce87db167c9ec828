use Rattle.std.proofs.Common.{◌≡◌, map, take}
use Rattle.p3_air_plain.specs.Forms.{node_form}
use Rattle.p3_air_plain.proofs.write.plain_nodes.Given as goal

abbrev pub invariant-loop-node : goal.invariant-loop-node
invariant-loop-node g l = l.forms.items
    ≡ map (node_form g.F.PrimeField64.canonical) (take l.node-index l.nodes)
