use Rattle.std.proofs.Common.{◌≡◌, ◌++◌, take}
use Rattle.std.specs.List.{flat_map}
use Rattle.p3_uni_stark_transcript.specs.Instance.{node_numbers}
use Rattle.p3_uni_stark_transcript.proofs.numbers.push_nodes.Given as goal

abbrev pub invariant-loop-node : goal.invariant-loop-node
invariant-loop-node g l = l.numbers.items ≡ l.fn.numbers.items
    ++ flat_map (node_numbers g.F.PrimeField64.canonical) (take l.node-index l.nodes)
