-- Claims by their numbers, and those that records list.
use Rattle.std.specs.Prelude.{ℕ, List, map, Ok, Result, string_bytes}
use Rattle.algebra.specs.Nested.{lists}
use Rattle.hex.specs.Hex.{decode_sized}
use Rattle.hex.specs.declared.error.FromHexError.{FromHexError}
use Rattle.p3_pcs.specs.Claims.{PointClaim, MatrixClaim, Claim}
use Rattle.fri_statement.specs.Setting.{SchemeFields}
use Rattle.fri_records.specs.declared.records.PointClaims.{PointClaims}
use Rattle.fri_records.specs.declared.records.MatrixClaims.{MatrixClaims}
use Rattle.fri_records.specs.declared.records.BatchClaims.{BatchClaims}
use Rattle.fri_numbers.specs.Numbers.{extension_numbers}

pub record PointNumbers : Type 0 where
  pub point : List ℕ
  pub values : List (List ℕ)

pub record MatrixNumbers : Type 0 where
  pub shift : ℕ
  pub log_size : ℕ
  pub points : List PointNumbers

-- the commitment is what a hex text says
pub record BatchNumbers : Type 0 where
  pub commitment : Result (List ℕ) FromHexError
  pub matrices : List MatrixNumbers

module _ {E : Type 0} (numbers_of : E → List ℕ) where
  -- the numbers of claims, by those of points and of domains
  abbrev pub point_by : PointClaim E → PointNumbers
  point_by c = record { point = numbers_of c.point; values = map numbers_of c.values }

  module _ {Domain : Type 0} (shift_of log_size_of : Domain → ℕ) where
    abbrev pub matrix_by : MatrixClaim E Domain → MatrixNumbers
    matrix_by c = record {
      shift = shift_of c.domain;
      log_size = log_size_of c.domain;
      points = map point_by c.points;
    }

    abbrev pub batch_by : Claim E (List ℕ) Domain → BatchNumbers
    batch_by c = record {
      commitment = Ok c.commitment;
      matrices = map matrix_by c.matrices;
    }

module _ {F E : Type 0} (f : SchemeFields F E) where
  -- the same over these fields
  abbrev pub point_numbers : PointClaim E → PointNumbers
  point_numbers c = point_by (extension_numbers f) c

  module _ {Domain : Type 0} (shift_of : Domain → F) (log_size_of : Domain → ℕ) where
    abbrev pub matrix_numbers : MatrixClaim E Domain → MatrixNumbers
    matrix_numbers c =
        matrix_by (extension_numbers f) (λ d. f.canonical (shift_of d)) log_size_of c

    abbrev pub batch_numbers : Claim E (List ℕ) Domain → BatchNumbers
    batch_numbers c =
        batch_by (extension_numbers f) (λ d. f.canonical (shift_of d)) log_size_of c

-- the numbers that records list
abbrev pub point_listed : PointClaims → PointNumbers
point_listed r = record { point = r.point.items; values = lists r.values.items }

abbrev pub matrix_listed : MatrixClaims → MatrixNumbers
matrix_listed r = record {
  shift = r.domain.shift;
  log_size = r.domain.log_size;
  points = map point_listed r.points.items;
}

abbrev pub batch_listed : BatchClaims → BatchNumbers
batch_listed r = record {
  commitment = decode_sized (string_bytes r.commitment) 32;
  matrices = map matrix_listed r.matrices.items;
}
