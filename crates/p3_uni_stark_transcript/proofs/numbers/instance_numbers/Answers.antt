use Rattle.std.proofs.Common.{◌++◌, ◌∙◌, ap, map}
use Rattle.std.specs.List.{flat_map}
use Rattle.algebra.specs.Nested.{lists}
use Rattle.p3_uni_stark_transcript.specs.Instance.{node_numbers, constraint_numbers, column_numbers}
use Rattle.p3_uni_stark_transcript.specs.Instance.{instance_numbers, header_numbers}
use Rattle.p3_uni_stark_transcript.specs.Views.{instance_of}
use Rattle.p3_uni_stark_transcript.proofs.Joined.{five_parts}
use Rattle.p3_uni_stark_transcript.proofs.numbers.instance_numbers.Goals as goal

pub returns : goal.returns
unfolding instance_numbers
returns g c =
    let canonical = g.F.PrimeField64.canonical in
    let instance = c.args.instance.now in
    five_parts c.new-numbers.result.items c.push_header.new.numbers.items
    c.push_nodes.new.numbers.items c.push_constraints.new.numbers.items
    c.push_elements.new.numbers.items c.push_columns.new.numbers.items
    (header_numbers (instance_of instance))
    (flat_map (node_numbers canonical) instance.air.now.nodes.items)
    (flat_map constraint_numbers instance.air.now.constraints.items)
    (map canonical instance.public_values.now)
    (flat_map (column_numbers canonical) (lists instance.periodic.now))
    c.new-numbers.ensures.items c.in_ok-push_header.ensures
    (c.in_ok-push_nodes.ensures
    ∙ ap (λ ns. c.push_header.new.numbers.items ++ flat_map (node_numbers canonical) ns)
    c.as_slice.ensures.value)
    (c.in_ok-push_constraints.ensures
    ∙ ap (λ cs. c.push_nodes.new.numbers.items ++ flat_map constraint_numbers cs)
    c.as_slice-2.ensures.value)
    c.in_ok-push_elements.ensures c.in_ok-push_columns.ensures
