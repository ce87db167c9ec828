-- What is absorbed before a statement of a scheme that hides, and the stream that binds it.
use Rattle.std.specs.Prelude.{ℕ, List, [], ◌∷◌, codes, Option, Some, None}
use Rattle.algebra.specs.Field.{FieldOps}
use Rattle.p3_challenger_fs.specs.declared.pattern.Hierarchy.{Hierarchy}
use Rattle.p3_challenger_fs.specs.declared.pattern.Hierarchy.TheVariants.{Begin, End}
use Rattle.p3_challenger_fs.specs.declared.pattern.Kind.TheVariants.{Protocol}
use Rattle.p3_challenger_fs.specs.declared.pattern.TypeTag.TheVariants.{Marker}
use Rattle.p3_challenger_fs.specs.declared.pattern.Length.TheVariants.{Scalar}
use Rattle.p3_challenger_fs.specs.Description.{Description, stream_of}
use Rattle.p3_challenger_fs.specs.Pattern.{Step, step}
use Rattle.p3_challenger_fs.specs.Turns.{bytes_observed}
use Rattle.p3_challenger_sha256.specs.declared.sha256_challenger.Sha256Challenger.{Sha256Challenger}
use Rattle.p3_challenger_sha256.specs.Sha256.{element_observed}
use Rattle.fri_statement.specs.Statement.{numbers_bytes}

-- which commitment is of preprocessing: zero where there is none, else one and its index
abbrev pub index_numbers : (preprocessing : Option ℕ) → List ℕ
index_numbers None = 0 ∷ []
index_numbers (Some index) = 1 ∷ index ∷ []

-- the number of random columns, and that index
abbrev pub hiding_label : (num_random_codewords : ℕ) (preprocessing : Option ℕ) → List ℕ
hiding_label num_random_codewords preprocessing =
    numbers_bytes (num_random_codewords ∷ index_numbers preprocessing)

-- an end of the bracket in which the statement follows
abbrev pub statement_step : Hierarchy → Step
statement_step hierarchy = step hierarchy Protocol Marker (codes "statement") Scalar

abbrev pub hiding_steps : List Step
hiding_steps = statement_step Begin ∷ statement_step End ∷ []

abbrev pub hiding_description : (num_random_codewords : ℕ) (preprocessing : Option ℕ) → Description
hiding_description num_random_codewords preprocessing = record {
  version = 1;
  name = codes "p3-fri-hiding";
  steps = hiding_steps;
  labels = hiding_label num_random_codewords preprocessing ∷ [];
}

-- the stream that binds both
unfoldable pub hiding_stream : (num_random_codewords : ℕ) (preprocessing : Option ℕ) → List ℕ
hiding_stream num_random_codewords preprocessing =
    stream_of (hiding_description num_random_codewords preprocessing)

-- over a prime field of this order
module _ {F : Type 0} (order : ℕ) (canonical : F → ℕ) (ops : FieldOps F) where
  -- the state after a challenger has absorbed it
  abbrev pub hiding_absorbed : Sha256Challenger F → (num_random_codewords : ℕ)
      (preprocessing : Option ℕ) → Sha256Challenger F
  hiding_absorbed c num_random_codewords preprocessing =
      bytes_observed ops (element_observed order canonical) c
      (hiding_stream num_random_codewords preprocessing)
