-- What a separator binds.
use Rattle.std.specs.Prelude.{ℕ, List}
use Rattle.algebra.specs.Nested.{lists}
use Rattle.p3_challenger_fs.specs.declared.domain_separator.DomainSeparator.{DomainSeparator}
use Rattle.p3_challenger_fs.specs.declared.domain_separator.Seed.{Seed}
use Rattle.p3_challenger_fs.specs.declared.pattern.Turn.{Turn}
use Rattle.p3_challenger_fs.specs.Description.{Description}
use Rattle.p3_challenger_fs.specs.Pattern.{pattern_steps}

-- what a separator describes
unfoldable pub description : DomainSeparator → Description
description s = record {
  version = s.version;
  name = s.name.now;
  steps = pattern_steps s.pattern;
  labels = lists s.labels.items;
}

-- the stream of a seed, and the steps that are played after it, without their labels
abbrev pub seed_bytes : Seed → List ℕ
seed_bytes seed = seed.stream.items

abbrev pub seed_turns : Seed → List Turn
seed_turns seed = seed.turns.items
