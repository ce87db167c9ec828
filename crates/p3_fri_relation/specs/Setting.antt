-- What the layers below a low-degree test compute and accept, its parameters, and what is claimed
-- and proved.
use Rattle.std.specs.Prelude.{ℕ, ◌+◌, List}
use Rattle.algebra.specs.Field.{FieldOps}
use Rattle.p3_challenger_core.specs.Run.{Moves}
use Rattle.p3_matrix.specs.declared.Dimensions.{Dimensions}
use Rattle.p3_pcs.specs.Claims as claimed

-- a two-adic field `F` and the extension `E` of it that challenges are drawn from
pub record Fields (F E : Type 0) : Type 0 where
  pub base : FieldOps F
  pub ext : FieldOps E
  pub lift : F → E
  pub coefficients : E → List F
  pub degree : ℕ
  -- the roots of unity up to the order `2^two_adicity`, and the shift of the evaluation cosets
  pub root : ℕ → F
  pub two_adicity : ℕ
  pub shift : F

-- what a commitment, the dimensions of its matrices, indices, rows and a proof have to be for the
-- rows to be those that the indices open
abbrev pub Opening : (A Com Path : Type 0) → Type 1
Opening A Com Path = Com → List Dimensions → List ℕ → List (List (List A)) → Path → Type 0

-- over these, states `C` of a challenger, and commitments and proofs of the rounds (`Com`, `Path`)
-- and of the inputs (`InCom`, `InPath`)
pub record Setting (F E C Com Path InCom InPath : Type 0) : Type 1 where
  pub fields : Fields F E
  -- the strategy's fold of a row, and how many bits it draws beside a position's
  pub fold : ℕ → ℕ → ℕ → E → List E → E
  pub extra_bits : ℕ
  pub moves : Moves C F E Com
  pub opens_input : Opening F InCom InPath
  pub opens_round : Opening E Com Path

pub record Parameters : Type 0 where
  pub log_blowup : ℕ
  pub log_final_poly_len : ℕ
  pub max_log_arity : ℕ
  pub num_queries : ℕ
  pub batch_pow_bits : ℕ
  pub commit_pow_bits : ℕ
  pub query_pow_bits : ℕ

-- the log height down to which words are folded
abbrev pub final_height : Parameters → ℕ
final_height p = p.log_blowup + p.log_final_poly_len

-- what is claimed of a matrix, and of those under a commitment, where of a domain the logarithm of
-- its size alone is known
abbrev pub MatrixClaim : Type 0 → Type 0
MatrixClaim E = claimed.MatrixClaim E ℕ

abbrev pub CommitmentClaim : (E InCom : Type 0) → Type 0
CommitmentClaim E InCom = claimed.Claim E InCom ℕ

-- the rows that are opened of a commitment, by query and matrix, and what shows that they are its
pub record InputOpening (F InPath : Type 0) : Type 0 where
  pub rows : List (List (List F))
  pub path : InPath

-- the siblings of a round, by query, and what shows that their rows are the round's
pub record RoundOpening (E Path : Type 0) : Type 0 where
  pub siblings : List (List E)
  pub path : Path

pub record Proof (F E Com Path InPath : Type 0) : Type 0 where
  pub batch_witness : F
  pub commitments : List Com
  pub commit_witnesses : List F
  pub inputs : List (InputOpening F InPath)
  pub rounds : List (RoundOpening E Path)
  pub final_poly : List E
  pub query_witness : F
