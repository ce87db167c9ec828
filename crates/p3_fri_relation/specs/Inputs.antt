-- What is opened of the committed matrices at the queries' positions, and the quotient sums there.
use Rattle.std.specs.Prelude.{◌≡◌, ◌≢◌, ℕ, IsTrue, EachIndex, List, [], map, length, All, Option}
use Rattle.std.specs.Prelude.{slice_index, slice_index_or}
use Rattle.std.specs.List.{AllZip}
use Rattle.p3_fri_relation.specs.Setting.{Fields, Opening, MatrixClaim, CommitmentClaim}
use Rattle.p3_fri_relation.specs.Setting.{InputOpening}
use Rattle.p3_fri_relation.specs.Heights.{matrices_of, width, dimensions, has_height, opened_index}
use Rattle.p3_fri_relation.specs.Heights.{heights_of}
use Rattle.p3_fri_relation.specs.QuotientSums.{quotient_sum, input_at, IsDefinedAt}
use Rattle.p3_fri_relation.specs.Queries.{Source}

-- some point is claimed, and as many values at each as at the first
pub record HasPoints {E : Type 0} (m : MatrixClaim E) : Type 0 where
  pub some_point : m.points ≢ []
  pub counts : All (λ z. length z.values ≡ width m) m.points

-- the rows that the commitments open at the `j`-th query
abbrev pub rows_at : {F InPath : Type 0} → (j : ℕ) → List (InputOpening F InPath)
    → List (List (List F))
rows_at j inputs = map (λ o. slice_index_or o.rows j []) inputs

-- the rows opened of a commitment at the queries' positions, of log height `top`, are its matrices'
abbrev pub OpensInput : {F E InCom InPath : Type 0} → Opening F InCom InPath
    → (log_blowup top : ℕ) (positions : List ℕ) → CommitmentClaim E InCom → InputOpening F InPath
    → Type 0
OpensInput opens log_blowup top positions claim o =
    opens claim.commitment (map (dimensions log_blowup) claim.matrices)
    (map (opened_index log_blowup top claim.matrices) positions) o.rows o.path

module _ {F E InCom InPath : Type 0} (f : Fields F E) (log_blowup : ℕ) (alpha : E) (top : ℕ)
    (claims : List (CommitmentClaim E InCom)) (inputs : List (InputOpening F InPath)) where
  -- the quotient sum of a log height that the `j`-th query meets at its position
  abbrev pub sum_at : (j position h : ℕ) → E
  sum_at j position h = quotient_sum f log_blowup alpha top claims (rows_at j inputs) position h

  -- the same, if some matrix has the log height
  abbrev pub input_met : (j position h : ℕ) → Option E
  input_met j position h = input_at f log_blowup alpha top claims (rows_at j inputs) position h

  -- the queries' source: each begins with the quotient sum of the greatest log height
  abbrev pub sums_met : Source E
  sums_met = record { met = input_met; first = λ j position. sum_at j position top }

  -- all of them, with their log heights, which fall
  abbrev pub sums_at : (j position : ℕ) → List (ℕ × E)
  sums_at j position =
      map (λ h. (h, sum_at j position h)) (heights_of log_blowup (matrices_of claims))

  -- each is defined, and that of the log height `log_blowup`, where a polynomial is constant, is
  -- zero
  pub record HasSums (j position : ℕ) : Type 0 where
    pub defined : IsDefinedAt f log_blowup top claims position
    pub constants : IsTrue (has_height log_blowup (matrices_of claims) log_blowup)
        → sum_at j position log_blowup ≡ f.ext.zero

  -- all that the openings of the inputs have to be
  pub record AreInputsGood (opens : Opening F InCom InPath) (positions : List ℕ) : Type 0 where
    pub count : length inputs ≡ length claims
    pub points : All HasPoints (matrices_of claims)
    pub opened : AllZip (OpensInput opens log_blowup top positions) claims inputs
    pub sums : EachIndex positions (λ j. HasSums j (slice_index positions j))
