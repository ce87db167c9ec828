use Rattle.std.proofs.Common.{◌≡◌, ◌++◌, ◌∷◌, map, drop, length}
use Rattle.std.specs.List.{flat_map}
use Rattle.algebra.specs.Nested.{nested}
use Rattle.p3_challenger_fs.specs.Pattern.{number_bytes}
use Rattle.p3_challenger_fs.specs.Separator.{description}
use Rattle.p3_fri_pcs_transcript.proofs.pcs_transcript.description.push_grouping.Given as goal

abbrev pub invariant-loop-matrices : goal.invariant-loop-matrices
invariant-loop-matrices l =
    record (description l.separator) { labels = (description l.separator).labels ++ map number_bytes (flat_map (λ m. length m ∷ map length m) (nested (drop l.matrices-index l.commitments))) }
    ≡ record (description l.initial.separator) { labels = (description l.initial.separator).labels ++ map number_bytes (flat_map (λ m. length m ∷ map length m) (nested l.commitments)) }
