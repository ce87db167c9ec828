-- When a proof is accepted of a system by its numbers, and why it isn't.
use Rattle.std.specs.Prelude.{◌≡◌, ℕ, List, Option}
use Rattle.algebra.specs.Nested.{lists}
use Rattle.p3_air.specs.Satisfied.{Assigned}
use Rattle.p3_air_plain.specs.declared.forms.PlainAir.{PlainAir}
use Rattle.p3_stark_pcs.specs.Scheme.{StarkScheme}
use Rattle.p3_uni_stark_statement.specs.Statements.{Stated, IsAcceptedOf, IsRefusedOf}
use Rattle.p3_uni_stark_statement.specs.declared.error.PlainVerificationError.{
  PlainVerificationError,
}
use Rattle.p3_uni_stark_verifier.specs.declared.proof.PreprocessedVerifierKey.{
  PreprocessedVerifierKey,
}
use Rattle.p3_uni_stark_verifier.specs.declared.proof.Proof.{Proof}
use Rattle.p3_uni_stark_verifier.specs.Setting.{StarkSetting}
use Rattle.p3_uni_stark_system.specs.Keys.{IsKeyOfNumbers, PreprocessingFault}
use Rattle.p3_uni_stark_system.specs.declared.error.SystemVerificationError.{
  SystemVerificationError,
}
use Rattle.p3_uni_stark_system.specs.declared.error.SystemVerificationError.TheVariants as system
use Rattle.p3_uni_stark_system.specs.declared.system.PlainSystem.{PlainSystem}

-- a system by its numbers, with public values
pub record SystemNumbers : Type 0 where
  pub air : PlainAir
  pub preprocessed : List (List ℕ)
  pub periodic : List (List ℕ)
  pub public_values : List ℕ

abbrev pub numbers_of : PlainSystem → List ℕ → SystemNumbers
numbers_of s values = record {
  air = s.air.now;
  preprocessed = lists s.preprocessed.now;
  periodic = lists s.periodic.now;
  public_values = values;
}

-- what its constraint system is held against, with the numbers of a trace
abbrev pub with_trace : SystemNumbers → List (List ℕ) → Assigned ℕ
with_trace n trace = record {
  trace = trace;
  preprocessed = n.preprocessed;
  public_values = n.public_values;
  periodic = n.periodic;
}

-- what a verifier knows that has this key
abbrev pub known : {Com : Type 0} → SystemNumbers → Option (PreprocessedVerifierKey Com)
    → Stated Com
known n key = record {
  air = n.air;
  preprocessed = key;
  periodic = n.periodic;
  public_values = n.public_values;
}

module _ {V E C Com Dom D Opening Error ProverError : Type 0} (canonical : V → ℕ)
    (S : StarkSetting V E C Com Dom D Opening Error ProverError) (n : SystemNumbers) where
  -- the key is that of the system's preprocessed columns
  abbrev pub IsKeyIn : Option (PreprocessedVerifierKey Com) → Type 0
  IsKeyIn key = IsKeyOfNumbers S.scheme S.zk S.IsSubgroup canonical
      n.air.layout.preprocessed_width n.preprocessed key

  module _ (proof : Proof E Com Opening) (c last : C) where
    -- by that key, the proof is accepted of the statement of these numbers, from the state `c`, and
    -- `last` is the state in which the verifier ends
    pub record IsAcceptedSystem : Type 0 where
      pub key : Option (PreprocessedVerifierKey Com)
      pub is_key : IsKeyIn key
      pub accepted : IsAcceptedOf canonical S (known n key) proof c last

module _ {V E C Com Dom D Opening Error ProverError : Type 0} (order log_blowup : ℕ)
    (canonical : V → ℕ) (S : StarkSetting V E C Com Dom D Opening Error ProverError)
    (t : StarkScheme E V Dom D ProverError) (n : SystemNumbers) (proof : Proof E Com Opening)
    (c last : C) where
  -- by that key, it is refused for this reason
  pub record IsRefusedBy (e : PlainVerificationError Error) : Type 0 where
    pub key : Option (PreprocessedVerifierKey Com)
    pub is_key : IsKeyIn canonical S n key
    pub refused : IsRefusedOf canonical S (known n key) proof c last order e

  -- why it isn't accepted; refused columns leave the challenger as it was
  abbrev pub IsRefusedSystem : SystemVerificationError ProverError Error → Type 0
  IsRefusedSystem (system.Preprocessing e) = (last ≡ c) × PreprocessingFault t S.zk S.IsSubgroup
      order S.fields.two_adicity log_blowup canonical n.air.layout.preprocessed_width
      n.preprocessed e
  IsRefusedSystem (system.Proof e) = IsRefusedBy e
