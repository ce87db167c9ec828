use Rattle.std.proofs.Common.{◌≡◌, ◌++◌, drop}
use Rattle.std.specs.List.{flat_map}
use Rattle.algebra.specs.Nested.{lists}
use Rattle.p3_challenger_fs.specs.Pattern.{text_bytes}
use Rattle.p3_challenger_fs.proofs.domain_separator.push_labels.Given as goal

abbrev pub invariant-loop-label : goal.invariant-loop-label
invariant-loop-label l =
    l.stream.items ++ flat_map text_bytes (lists (drop l.label-index l.labels))
    ≡ l.initial.stream.items ++ flat_map text_bytes (lists l.labels)
