-- When an accepted statement is the expected one.
use Rattle.std.specs.Prelude.{◌≡◌, ◌<◌, ℕ, List, IfSome, length, map, slice_index_or, string_bytes}
use Rattle.std.specs.Char.{to_ascii_lowercase}
use Rattle.fri_records.specs.declared.records.PointClaims.{PointClaims}
use Rattle.fri_records.specs.declared.records.MatrixClaims.{MatrixClaims}
use Rattle.fri_records.specs.declared.records.BatchClaims.{BatchClaims}
use Rattle.fri_json.specs.declared.expected.ExpectedPoint.{ExpectedPoint}
use Rattle.fri_json.specs.declared.expected.ExpectedMatrix.{ExpectedMatrix}
use Rattle.fri_json.specs.declared.expected.ExpectedBatch.{ExpectedBatch}
use Rattle.fri_json.specs.declared.expected.Expected.{Expected}
use Rattle.fri_json.specs.declared.records.Accepted.{Accepted}

-- as many entries, and each the expected one
pub record AreExpected {A B : Type 0} (Is : A → B → Type 0) (xs : List A) (ys : List B)
    : Type 0 where
  pub count : length xs ≡ length ys
  pub each : (k : ℕ) (x : A) (y : B) → k < length xs
      → Is (slice_index_or xs k x) (slice_index_or ys k y)

-- the same text but for the case of its letters: of hex texts, the same bytes
abbrev pub IsExpectedText : (text expected : List ℕ) → Type 0
IsExpectedText text expected = map to_ascii_lowercase text ≡ map to_ascii_lowercase expected

-- the point, and the values where they are expected
pub record IsExpectedPoint (claims : PointClaims) (expected : ExpectedPoint) : Type 0 where
  pub point : claims.point.items ≡ expected.point.items
  pub values : IfSome expected.values (λ values.
      AreExpected (λ v w. v.items ≡ w.items) claims.values.items values.items)

pub record IsExpectedMatrix (claims : MatrixClaims) (expected : ExpectedMatrix) : Type 0 where
  pub shift : claims.domain.shift ≡ expected.domain.shift
  pub log_size : claims.domain.log_size ≡ expected.domain.log_size
  pub points : AreExpected IsExpectedPoint claims.points.items expected.points.items

pub record IsExpectedBatch (claims : BatchClaims) (expected : ExpectedBatch) : Type 0 where
  pub commitment : IsExpectedText (string_bytes claims.commitment)
      (string_bytes expected.commitment)
  pub matrices : AreExpected IsExpectedMatrix claims.matrices.items expected.matrices.items

pub record IsExpected (accepted : Accepted) (expected : Expected) : Type 0 where
  pub field : accepted.field ≡ expected.field
  pub context : IsExpectedText (string_bytes accepted.context) (string_bytes expected.context)
  pub parameters : accepted.parameters ≡ expected.parameters
  pub hiding : accepted.hiding ≡ expected.hiding
  pub claims : AreExpected IsExpectedBatch accepted.claims.items expected.claims.items
