-- What the protocol around a low-degree test exchanges: the steps, and the numbers that they don't
-- determine.
use Rattle.std.specs.Prelude.{ℕ, List, [], ◌∷◌, ◌++◌, length, map, codes}
use Rattle.std.specs.List.{flat_map}
use Rattle.algebra.specs.Nested.{joined}
use Rattle.p3_challenger_fs.specs.declared.pattern.Hierarchy.{Hierarchy}
use Rattle.p3_challenger_fs.specs.declared.pattern.Hierarchy.TheVariants.{Begin, End}
use Rattle.p3_challenger_fs.specs.declared.pattern.Kind.TheVariants.{Protocol}
use Rattle.p3_challenger_fs.specs.declared.pattern.TypeTag.TheVariants.{Marker}
use Rattle.p3_challenger_fs.specs.declared.pattern.Length.TheVariants.{Scalar}
use Rattle.p3_challenger_fs.specs.Pattern.{Step, number_bytes, seed_stream}
use Rattle.p3_fri_pow.specs.Steps.{pow_steps, challenge_step, message_step}

-- what a shape says: the numbers of claimed values by commitment, matrix and point
pub record PcsNumbers : Type 0 where
  pub counts : List (List (List ℕ))
  pub batch_pow_bits : ℕ

-- the numbers of claimed values, in order
abbrev pub widths : List (List (List ℕ)) → List ℕ
widths counts = flat_map joined counts

-- how they are grouped: the number of commitments, then of each its number of matrices, and of each
-- of these its number of points
abbrev pub grouping : List (List (List ℕ)) → List ℕ
grouping counts =
    length counts ∷ flat_map (λ matrices. length matrices ∷ map length matrices) counts

abbrev pub bracket_step : Hierarchy → Step
bracket_step hierarchy = record {
  hierarchy = hierarchy;
  kind = Protocol;
  type_tag = Marker;
  label = codes "low_degree_test";
  length = Scalar;
}

-- the numbers that the steps don't determine
unfoldable pub pcs_labels : PcsNumbers → List (List ℕ)
pcs_labels s = map number_bytes (grouping s.counts)

module _ (d : ℕ) where
  -- what follows the claims: the proof of work, the challenge, and the bracket around the test
  abbrev pub batch_steps : (bits : ℕ) → List Step
  batch_steps bits =
      pow_steps (codes "batch_pow") bits
      ++ (challenge_step d (codes "alpha") ∷ bracket_step Begin ∷ bracket_step End ∷ [])

  unfoldable pub pcs_steps : PcsNumbers → List Step
  pcs_steps s =
      map (message_step d (codes "claimed_evaluations")) (widths s.counts)
      ++ batch_steps s.batch_pow_bits

  -- the stream that binds the shape
  unfoldable pub pcs_stream : PcsNumbers → List ℕ
  pcs_stream s = seed_stream 0x01 (codes "p3-fri-pcs") (pcs_steps s) (pcs_labels s)
