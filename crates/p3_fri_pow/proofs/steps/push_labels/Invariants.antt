use Rattle.std.proofs.Common.{◌≡◌, map, drop}
use Rattle.p3_challenger_fs.specs.Pattern.{number_bytes}
use Rattle.p3_challenger_fs.specs.Separator.{description}
use Rattle.p3_fri_pow.specs.Labels.{labels_added}
use Rattle.p3_fri_pow.proofs.steps.push_labels.Given as goal

abbrev pub invariant-loop-value : goal.invariant-loop-value
invariant-loop-value l =
    labels_added (map number_bytes (drop l.value-index l.values)) (description l.separator)
    ≡ labels_added (map number_bytes l.values) (description l.initial.separator)
