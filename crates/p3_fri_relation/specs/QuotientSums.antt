-- The quotient sum of a log height at a query's position: what the opened rows and the claimed
-- values together make of the batch of quotients.
use Rattle.std.specs.Prelude.{◌≢◌, ◌==◌, if◌then◌else◌, ℕ, ◌-◌, ◌/◌, ◌^◌}
use Rattle.std.specs.Prelude.{List, [], map, All, Option, Some, None}
use Rattle.std.specs.List.{flat_map, zip}
use Rattle.algebra.specs.Polynomial.{val}
use Rattle.algebra.specs.Quotients.{quotients}
use Rattle.algebra.specs.Cosets.{coset_pt}
use Rattle.p3_fri_relation.specs.Setting.{Fields, MatrixClaim, CommitmentClaim}
use Rattle.p3_fri_relation.specs.Heights.{log_height, has_height, matrices_of}

module _ {F E : Type 0} (f : Fields F E) where
  -- the point of the coset of log height `h` at which a position of log height `top` reads
  abbrev pub point_read : (top position h : ℕ) → E
  point_read top position h =
      f.lift (coset_pt f.base f.root f.shift (position / 2 ^ (top - h)) h)

  -- a matrix's quotients at `x`, where its row there is opened: by point and column
  abbrev pub matrix_terms : (x : E) → MatrixClaim E → (row : List F) → List E
  matrix_terms x m row =
      flat_map (λ z. quotients f.ext z.point x z.values (map f.lift row)) m.points

module _ {F E InCom : Type 0} (f : Fields F E) (log_blowup : ℕ) where
  -- the quotients of the matrices of log height `h` under one commitment, by matrix
  abbrev pub commitment_terms : (h : ℕ) (x : E) → CommitmentClaim E InCom
      → (rows : List (List F)) → List E
  commitment_terms h x claim rows = flat_map (λ (m, row).
      if log_height log_blowup m == h then matrix_terms f x m row else []) (zip claim.matrices rows)

  -- and of all matrices of that log height, by commitment
  abbrev pub terms : (h : ℕ) (x : E) → List (CommitmentClaim E InCom)
      → (rows : List (List (List F))) → List E
  terms h x claims rows =
      flat_map (λ (claim, opened). commitment_terms h x claim opened) (zip claims rows)

  -- the sum over these of `alpha^t` times the `t`-th; `rows` are those that the position opens, by
  -- commitment and matrix
  abbrev pub quotient_sum : (alpha : E) (top : ℕ) → List (CommitmentClaim E InCom)
      → (rows : List (List (List F))) (position h : ℕ) → E
  quotient_sum alpha top claims rows position h =
      val f.ext (terms h (point_read f top position h) claims rows) alpha

  -- the quotient sum of a log height, where some matrix has it
  abbrev pub input_at : (alpha : E) (top : ℕ) → List (CommitmentClaim E InCom)
      → (rows : List (List (List F))) (position h : ℕ) → Option E
  input_at alpha top claims rows position h =
      if has_height log_blowup (matrices_of claims) h
      then Some (quotient_sum alpha top claims rows position h) else None

  -- at the position each quotient has a denominator that isn't zero: no claimed point is the point
  -- read
  abbrev pub IsDefinedAt : (top : ℕ) → List (CommitmentClaim E InCom) → (position : ℕ) → Type 0
  IsDefinedAt top claims position =
      All (λ m. All (λ z. z.point ≢ point_read f top position (log_height log_blowup m)) m.points)
      (matrices_of claims)
