use Rattle.std.proofs.Common.{◌≡◌, map, take}
use Rattle.std.specs.List.{All}
use Rattle.p3_air_plain.specs.Faults.{IsInRange}
use Rattle.p3_air_plain.specs.Forms.{node_form}
use Rattle.p3_air_plain.proofs.read.nodes_of.Given as goal

abbrev pub invariant-loop-i : goal.invariant-loop-i
invariant-loop-i g l = record {
  forms : map (node_form g.F.PrimeField64.canonical) l.nodes.items ≡ take l.i l.forms;
  in_range : All (IsInRange g.F.PrimeField64.ORDER_U64) (take l.i l.forms);
}
