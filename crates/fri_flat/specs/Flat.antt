-- The flat form of numbers, of lists, and of the records of the plain scheme and of its proofs.
use Rattle.std.specs.Prelude.{ℕ, List, [], ◌∷◌, ◌++◌, ◌≡◌, ◌*◌, ◌/◌, ◌%◌, ◌^◌, length}
use Rattle.std.specs.Prelude.{string_bytes, vec_len, false}
use Rattle.std.specs.List.{All, flat_map}
use Rattle.std.specs.Int.{to_le_bytes, w64}
use Rattle.std.specs.Result.{result_unwrap_or}
use Rattle.std.specs.declared.vec.Vec.{Vec}
use Rattle.std.specs.declared.string.String.{String}
use Rattle.hex.specs.Hex.{decode_sized}
use Rattle.fri_verification.specs.Bound.{IsContext, context_listed}
use Rattle.fri_records.specs.declared.records.Parameters.{Parameters}
use Rattle.fri_records.specs.declared.records.Matrix.{Matrix}
use Rattle.fri_records.specs.declared.records.Batch.{Batch}
use Rattle.fri_records.specs.declared.records.Request.{Request}
use Rattle.fri_records.specs.declared.records.PointClaims.{PointClaims}
use Rattle.fri_records.specs.declared.records.MatrixClaims.{MatrixClaims}
use Rattle.fri_records.specs.declared.records.BatchClaims.{BatchClaims}
use Rattle.p3_fri_plain.specs.declared.forms.PlainBatch.{PlainBatch}
use Rattle.p3_fri_plain.specs.declared.forms.PlainStep.{PlainStep}
use Rattle.p3_fri_plain.specs.declared.forms.PlainFriProof.{PlainFriProof}
use Rattle.fri_flat.specs.declared.layout.Layout.{Layout}
use Rattle.fri_flat.specs.declared.layout.Width.{Width}
use Rattle.fri_flat.specs.declared.layout.Width.TheVariants.{Four, Eight}
use Rattle.fri_flat.specs.declared.statement.Statement.{Statement}

-- a count or a size in four bytes, the lowest first; one past them has a last byte that is none
abbrev pub word : ℕ → List ℕ
word n = n % 256 ∷ n / 256 % 256 ∷ n / 65536 % 256 ∷ n / 16777216 ∷ []

-- counts and sizes one after another
abbrev pub words : List ℕ → List ℕ
words numbers = flat_map word numbers

-- how many entries there are, and then the form of each
abbrev pub list : {A B : Type 0} → (A → List ℕ) → Vec A B → List ℕ
list form entries = word (vec_len entries) ++ flat_map form entries.items

-- a digest, its bytes without their count
abbrev pub digest_bytes : {A : Type 0} → Vec ℕ A → List ℕ
digest_bytes bytes = bytes.items

abbrev pub IsDigest : {A : Type 0} → Vec ℕ A → Type 0
IsDigest bytes = vec_len bytes ≡ 32

-- the 32 bytes that a hex text says
abbrev pub digest : {A : Type 0} → String A → List ℕ
digest text = result_unwrap_or (decode_sized (string_bytes text) 32) []

-- how many bytes a hex text says, and then these
abbrev pub context : (text : List ℕ) → List ℕ
context text = word (length (context_listed text)) ++ context_listed text

abbrev pub parameters : Parameters → List ℕ
parameters p = words (
    p.log_blowup ∷ p.log_final_poly_len ∷ p.max_log_arity ∷ p.num_queries
    ∷ p.batch_proof_of_work_bits ∷ p.commit_proof_of_work_bits ∷ p.query_proof_of_work_bits ∷ [])

-- for each query the digests of its path
abbrev pub ArePaths : {A B C : Type 0} → Vec (Vec (Vec ℕ A) B) C → Type 0
ArePaths paths = All (λ path. All IsDigest path.items) paths.items

-- the number of an element of a prime field, in so many bytes
abbrev pub number_in : Width → ℕ → List ℕ
number_in Four n = word n
number_in Eight n = to_le_bytes w64 n

-- how many these are
abbrev pub number_size : Width → ℕ
number_size Four = 4
number_size Eight = 8

-- over a field whose numbers lie in bytes as the layout says
module _ (l : Layout) where
  -- the number of an element of the prime field
  abbrev pub number : ℕ → List ℕ
  number n = number_in l.width n

  -- such numbers one after another
  abbrev pub numbers : List ℕ → List ℕ
  numbers ns = flat_map number ns

  -- an element of the extension, its numbers without their count
  abbrev pub element : {A : Type 0} → Vec ℕ A → List ℕ
  element xs = numbers xs.items

  abbrev pub IsElement : {A : Type 0} → Vec ℕ A → Type 0
  IsElement xs = vec_len xs ≡ l.degree

  -- so many bytes
  abbrev pub element_size : ℕ
  element_size = number_size l.width * l.degree

  -- elements one after another
  abbrev pub elements : {A : Type 0} → List (Vec ℕ A) → List ℕ
  elements lists = flat_map element lists

  -- the values and the points have no counts of their own
  abbrev pub matrix : Matrix → List ℕ
  matrix m = number m.domain.shift
      ++ words (m.domain.log_size ∷ m.width ∷ vec_len m.points ∷ [])
      ++ numbers m.values.items ++ elements m.points.items

  pub record IsMatrix (m : Matrix) : Type 0 where
    pub values : vec_len m.values ≡ m.width * 2 ^ m.domain.log_size
    pub points : All IsElement m.points.items

  -- none is preprocessed
  abbrev pub batch : Batch → List ℕ
  batch b = list matrix b.matrices

  pub record IsBatch (b : Batch) : Type 0 where
    pub matrices : All IsMatrix b.matrices.items
    pub plain : b.preprocessed ≡ false

  abbrev pub request : Request → List ℕ
  request r = context (string_bytes r.context) ++ parameters r.parameters
      ++ list batch r.commitments

  pub record IsRequest (r : Request) : Type 0 where
    pub context : IsContext (string_bytes r.context)
    pub commitments : All IsBatch r.commitments.items

  abbrev pub point_claims : PointClaims → List ℕ
  point_claims c = element c.point ++ list element c.values

  pub record IsPointClaims (c : PointClaims) : Type 0 where
    pub point : IsElement c.point
    pub values : All IsElement c.values.items

  abbrev pub matrix_claims : MatrixClaims → List ℕ
  matrix_claims c = number c.domain.shift ++ word c.domain.log_size
      ++ list point_claims c.points

  abbrev pub IsMatrixClaims : MatrixClaims → Type 0
  IsMatrixClaims c = All IsPointClaims c.points.items

  abbrev pub batch_claims : BatchClaims → List ℕ
  batch_claims c = digest c.commitment ++ list matrix_claims c.matrices

  abbrev pub IsBatchClaims : BatchClaims → Type 0
  IsBatchClaims c = All IsMatrixClaims c.matrices.items

  -- what is opened of one commitment: for each query the rows, and for each the path's digests
  abbrev pub batch_opening : PlainBatch → List ℕ
  batch_opening b = list (list (list number)) b.opened_values ++ list (list digest_bytes) b.paths

  abbrev pub IsBatchOpening : PlainBatch → Type 0
  IsBatchOpening b = ArePaths b.paths

  -- what one round opens: for each query the siblings, and for each the path's digests
  abbrev pub round_opening : PlainStep → List ℕ
  round_opening s = list (list element) s.sibling_values ++ list (list digest_bytes) s.paths

  pub record IsRoundOpening (s : PlainStep) : Type 0 where
    pub siblings : All (λ row. All IsElement row.items) s.sibling_values.items
    pub paths : ArePaths s.paths

  abbrev pub proof : PlainFriProof → List ℕ
  proof p = number p.batch_pow_witness ++ list digest_bytes p.commit_phase_commits
      ++ list number p.commit_pow_witnesses ++ list batch_opening p.input_openings
      ++ list round_opening p.commit_phase_openings ++ list element p.final_poly
      ++ number p.query_pow_witness

  pub record IsProof (p : PlainFriProof) : Type 0 where
    pub commitments : All IsDigest p.commit_phase_commits.items
    pub inputs : All IsBatchOpening p.input_openings.items
    pub rounds : All IsRoundOpening p.commit_phase_openings.items
    pub final_poly : All IsElement p.final_poly.items

  abbrev pub statement : Statement → List ℕ
  statement s = context (string_bytes s.context) ++ parameters s.parameters
      ++ list batch_claims s.claims ++ proof s.proof

  pub record IsStatement (s : Statement) : Type 0 where
    pub context : IsContext (string_bytes s.context)
    pub claims : All IsBatchClaims s.claims.items
    pub proof : IsProof s.proof

  -- what `open` answers
  abbrev pub answer : (next_challenge : List ℕ) → Statement → List ℕ
  answer next_challenge s = numbers next_challenge ++ statement s
