-- All that a stream is made from.
use Rattle.std.specs.Prelude.{ℕ, List}
use Rattle.p3_challenger_fs.specs.Pattern.{Step, seed_stream}

-- a protocol's version and name, its steps, and the labels of an instance
pub record Description : Type 0 where
  pub version : ℕ
  pub name : List ℕ
  pub steps : List Step
  pub labels : List (List ℕ)

abbrev pub stream_of : Description → List ℕ
stream_of d = seed_stream d.version d.name d.steps d.labels
