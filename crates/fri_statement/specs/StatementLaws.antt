-- What the streams determine: the whole statement, the whole context, and by what a scheme hides.
use Rattle.std.specs.Prelude.{◌≡◌, ◌<◌, ℕ, List, length, Option}
use Rattle.std.specs.List.{All}
use Rattle.p3_challenger_fs.specs.StreamLaws.{FitsNumber, FitsText}
use Rattle.fri_statement.specs.Statement.{OpenedMatrix, OpenedCommitment, Statement}
use Rattle.fri_statement.specs.Statement.{parameter_numbers, statement_stream}
use Rattle.fri_statement.specs.Context.{context_stream}
use Rattle.fri_statement.specs.Hiding.{index_numbers, hiding_stream}

-- of an extension of this degree
module _ (degree : ℕ) where
  -- the numbers of an element of the extension
  pub record IsPoint (numbers : List ℕ) : Type 0 where
    pub count : length numbers ≡ degree
    pub fit : All FitsNumber numbers

  -- eight bytes hold each number, as they hold each `usize`
  pub record FitsMatrix (m : OpenedMatrix) : Type 0 where
    pub shift : FitsNumber m.shift
    pub log_size : FitsNumber m.log_size
    pub width : FitsNumber m.width
    pub points : All IsPoint m.points

  pub record FitsCommitment (c : OpenedCommitment) : Type 0 where
    pub digest : length c.digest ≡ 32
    pub count : FitsNumber (length c.matrices)
    pub matrices : All FitsMatrix c.matrices

  -- a statement of numbers that a machine holds, whose stream is within memory
  pub record FitsStatement (s : Statement) : Type 0 where
    pub parameters : All FitsNumber (parameter_numbers s.parameters)
    pub commitments : All FitsCommitment s.commitments
    pub stream : FitsText (statement_stream s)

  -- statements of one stream are one statement
  abbrev pub IsDeterminedStatement : Statement → Statement → Type 0
  IsDeterminedStatement a b = 0 < degree → FitsStatement a → FitsStatement b
      → statement_stream a ≡ statement_stream b → a ≡ b

  abbrev pub IsDeterminedContext : (a b : List ℕ) → Type 0
  IsDeterminedContext a b = FitsNumber degree → FitsText a → FitsText b
      → context_stream degree a ≡ context_stream degree b → a ≡ b

-- streams of numbers that a machine holds
abbrev pub IsDeterminedHiding : (m n : ℕ) (i j : Option ℕ) → Type 0
IsDeterminedHiding m n i j = FitsNumber m → FitsNumber n → All FitsNumber (index_numbers i)
    → All FitsNumber (index_numbers j) → hiding_stream m i ≡ hiding_stream n j
    → (m ≡ n) × (i ≡ j)
