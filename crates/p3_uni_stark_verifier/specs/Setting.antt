-- What a STARK stands on.
use Rattle.std.specs.Prelude.{ℕ, Bool}
use Rattle.algebra.specs.Field.{FieldOps}
use Rattle.p3_challenger_core.specs.Run.{Moves}
use Rattle.p3_pcs.specs.Scheme.{Scheme}

-- a field with roots of unity, and an extension of it with a basis
pub record StarkFields (V E : Type 0) : Type 0 where
  pub base : FieldOps V
  pub ext : FieldOps E
  pub lift : V → E
  -- the roots of unity up to the order `2^two_adicity`
  pub root : ℕ → V
  pub two_adicity : ℕ
  -- the shift of the coset that is split into the domains of a quotient's chunks
  pub generator : V
  pub dimension : ℕ
  pub basis : ℕ → E
  -- an element's number
  pub canonical : V → ℕ

-- these, what a challenger does, and a scheme of polynomials on domains `Dom`
pub record StarkSetting (V E C Com Dom D Opening Error ProverError : Type 0) : Type 1 where
  pub fields : StarkFields V E
  pub moves : Moves C V E Com
  -- the scheme hides
  pub zk : Bool
  pub scheme : Scheme E C V Dom Com D Opening Error ProverError
  -- the domain is the subgroup of `2^k` points
  pub IsSubgroup : ℕ → Dom → Type 0

abbrev pub stark_setting : {V E C Com Dom D Opening Error ProverError : Type 0}
    → StarkFields V E → Moves C V E Com → (zk : Bool)
    → Scheme E C V Dom Com D Opening Error ProverError → (ℕ → Dom → Type 0)
    → StarkSetting V E C Com Dom D Opening Error ProverError
stark_setting fields moves zk scheme is_subgroup = record {
  fields = fields;
  moves = moves;
  zk = zk;
  scheme = scheme;
  IsSubgroup = is_subgroup;
}
