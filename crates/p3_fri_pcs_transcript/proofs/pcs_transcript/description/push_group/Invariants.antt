use Rattle.std.proofs.Common.{◌≡◌, ◌++◌, map, drop, length}
use Rattle.algebra.specs.Nested.{lists}
use Rattle.p3_challenger_fs.specs.Pattern.{number_bytes}
use Rattle.p3_challenger_fs.specs.Separator.{description}
use Rattle.p3_fri_pcs_transcript.proofs.pcs_transcript.description.push_group.Given as goal

abbrev pub invariant-loop-points : goal.invariant-loop-points
invariant-loop-points l =
    record (description l.separator) { labels = (description l.separator).labels ++ map number_bytes (map length (lists (drop l.points-index l.matrices))) }
    ≡ record (description l.initial.separator) { labels = (description l.initial.separator).labels ++ map number_bytes (map length (lists l.matrices)) }
