-- What contracts see of an instance.
use Rattle.algebra.specs.Nested.{lists}
use Rattle.p3_uni_stark_transcript.specs.declared.instance.StarkInstance.{StarkInstance}
use Rattle.p3_uni_stark_transcript.specs.Instance.{Instance}

abbrev pub instance_of : {V : Type 0} → StarkInstance V → Instance V
instance_of s = record {
  layout = s.air.now.layout;
  nodes = s.air.now.nodes.items;
  constraints = s.air.now.constraints.items;
  public_values = s.public_values.now;
  periodic = lists s.periodic.now;
  log_height = s.log_height;
}
