-- A statement, and the stream of bytes by which a challenger absorbs it.
use Rattle.std.specs.Prelude.{ℕ, List, [], ◌∷◌, ◌++◌, map, length, codes}
use Rattle.std.specs.List.{flat_map}
use Rattle.algebra.specs.Field.{FieldOps}
use Rattle.p3_challenger_fs.specs.declared.pattern.Hierarchy.{Hierarchy}
use Rattle.p3_challenger_fs.specs.declared.pattern.Hierarchy.TheVariants.{Begin, End}
use Rattle.p3_challenger_fs.specs.declared.pattern.Kind.TheVariants.{Protocol}
use Rattle.p3_challenger_fs.specs.declared.pattern.TypeTag.TheVariants.{Marker}
use Rattle.p3_challenger_fs.specs.declared.pattern.Length.TheVariants.{Scalar}
use Rattle.p3_challenger_fs.specs.Description.{Description, stream_of}
use Rattle.p3_challenger_fs.specs.Pattern.{Step, step, number_bytes}
use Rattle.p3_challenger_fs.specs.Turns.{bytes_observed}
use Rattle.p3_challenger_sha256.specs.declared.sha256_challenger.Sha256Challenger.{Sha256Challenger}
use Rattle.p3_challenger_sha256.specs.Sha256.{element_observed}
use Rattle.p3_fri_relation.specs.Setting.{Parameters}

-- a matrix on the coset of this shift, of so many columns, opened at these points; elements are
-- their numbers, elements of the extension the numbers of their coefficients
pub record OpenedMatrix : Type 0 where
  pub shift : ℕ
  pub log_size : ℕ
  pub width : ℕ
  pub points : List (List ℕ)

pub record OpenedCommitment : Type 0 where
  pub digest : List ℕ
  pub matrices : List OpenedMatrix

-- what a proof is bound to
pub record Statement : Type 0 where
  pub context : List ℕ
  pub parameters : Parameters
  pub commitments : List OpenedCommitment

-- numbers one after another, eight bytes each, the highest first
abbrev pub numbers_bytes : List ℕ → List ℕ
numbers_bytes numbers = flat_map number_bytes numbers

abbrev pub parameter_numbers : Parameters → List ℕ
parameter_numbers p =
    p.log_blowup ∷ p.log_final_poly_len ∷ p.max_log_arity ∷ p.num_queries
    ∷ p.batch_pow_bits ∷ p.commit_pow_bits ∷ p.query_pow_bits ∷ []

-- the shift, the log size and the width, and then the points
abbrev pub matrix_label : OpenedMatrix → List ℕ
matrix_label m =
    numbers_bytes (m.shift ∷ m.log_size ∷ m.width ∷ []) ++ flat_map numbers_bytes m.points

-- the digest and the number of matrices
abbrev pub commitment_label : OpenedCommitment → List ℕ
commitment_label c = c.digest ++ number_bytes (length c.matrices)

abbrev pub commitment_labels : OpenedCommitment → List (List ℕ)
commitment_labels c = commitment_label c ∷ map matrix_label c.matrices

unfoldable pub statement_labels : Statement → List (List ℕ)
statement_labels s = s.context ∷ numbers_bytes (parameter_numbers s.parameters)
    ∷ flat_map commitment_labels s.commitments

-- an end of the bracket in which the opening runs
abbrev pub opening_step : Hierarchy → Step
opening_step hierarchy = step hierarchy Protocol Marker (codes "opening") Scalar

abbrev pub statement_steps : List Step
statement_steps = opening_step Begin ∷ opening_step End ∷ []

abbrev pub statement_description : Statement → Description
statement_description s = record {
  version = 1;
  name = codes "p3-fri-statement";
  steps = statement_steps;
  labels = statement_labels s;
}

-- the stream that binds the statement
unfoldable pub statement_stream : Statement → List ℕ
statement_stream s = stream_of (statement_description s)

-- over a prime field of this order
module _ {F : Type 0} (order : ℕ) (canonical : F → ℕ) (ops : FieldOps F) where
  -- the state after a challenger has absorbed it
  abbrev pub statement_absorbed : Sha256Challenger F → Statement → Sha256Challenger F
  statement_absorbed c s =
      bytes_observed ops (element_observed order canonical) c (statement_stream s)
