-- When a proof is accepted of a statement by its numbers, and why it isn't.
use Rattle.std.specs.Prelude.{◌≡◌, ◌≢◌, ⊤, ℕ, List, Option, map}
use Rattle.algebra.specs.Nested.{lists}
use Rattle.p3_air_plain.specs.Elements.{RowsFault, ListFault}
use Rattle.p3_air_plain.specs.Faults.{FormFault}
use Rattle.p3_air_plain.specs.Forms.{IsFormOf}
use Rattle.p3_air_plain.specs.declared.error.ElementError.{ElementError}
use Rattle.p3_air_plain.specs.declared.error.ElementError.TheVariants.{OutOfRange, OutOfMemory}
use Rattle.p3_air_plain.specs.declared.error.Part.TheVariants as part
use Rattle.p3_air_plain.specs.declared.forms.PlainAir.{PlainAir}
use Rattle.p3_uni_stark_statement.specs.declared.error.PlainVerificationError.{
  PlainVerificationError,
}
use Rattle.p3_uni_stark_statement.specs.declared.error.PlainVerificationError.TheVariants as plain
use Rattle.p3_uni_stark_statement.specs.declared.statement.PlainStatement.{PlainStatement}
use Rattle.p3_uni_stark_verifier.specs.declared.error.VerificationError.{VerificationError}
use Rattle.p3_uni_stark_verifier.specs.declared.error.VerificationError.TheVariants as fault
use Rattle.p3_uni_stark_verifier.specs.declared.proof.PreprocessedVerifierKey.{
  PreprocessedVerifierKey,
}
use Rattle.p3_uni_stark_verifier.specs.declared.proof.Proof.{Proof}
use Rattle.p3_uni_stark_verifier.specs.declared.proof.Statement.{Statement}
use Rattle.p3_uni_stark_verifier.specs.Inputs.{IsReady}
use Rattle.p3_uni_stark_verifier.specs.Relation.{drawn, IsLastState, StarkAccepts, StarkFault}
use Rattle.p3_uni_stark_verifier.specs.Setting.{StarkSetting}

-- a statement by its numbers
pub record Stated (Com : Type 0) : Type 0 where
  pub air : PlainAir
  pub preprocessed : Option (PreprocessedVerifierKey Com)
  pub periodic : List (List ℕ)
  pub public_values : List ℕ

abbrev pub stated : {Com : Type 0} → PlainStatement Com → Stated Com
stated p = record {
  air = p.air.now;
  preprocessed = p.preprocessed;
  periodic = lists p.periodic.now;
  public_values = p.public_values.now;
}

-- the numbers are the statement's
pub record AreNumbersOf {V Com : Type 0} (canonical : V → ℕ) (p : Stated Com)
    (s : Statement V Com) : Type 0 where
  pub air : IsFormOf canonical s.air.now p.air
  pub preprocessed : s.preprocessed ≡ p.preprocessed
  pub periodic : map (map canonical) (lists s.periodic.now) ≡ p.periodic
  pub public_values : map canonical s.public_values.now ≡ p.public_values

-- a number isn't below the order: of a periodic column, or a public value
abbrev pub NumberFault : {Com : Type 0} → (order : ℕ) → Stated Com → ElementError → Type 0
NumberFault order p (OutOfRange part.Periodic row entry) =
    RowsFault order part.Periodic p.periodic (OutOfRange part.Periodic row entry)
NumberFault order p (OutOfRange part.PublicValues row entry) =
    ListFault order part.PublicValues 0 p.public_values (OutOfRange part.PublicValues row entry)
NumberFault order p (OutOfRange _ row entry) = ⊥
NumberFault order p OutOfMemory = ⊤

module _ {V E C Com Dom D Opening Error ProverError : Type 0} (canonical : V → ℕ)
    (S : StarkSetting V E C Com Dom D Opening Error ProverError) (p : Stated Com)
    (proof : Proof E Com Opening) (c last : C) where
  -- the numbers are those of a statement of which the written relation holds from the state `c`,
  -- and `last` is the state in which the verifier of that statement ends
  pub record IsAcceptedOf : Type 0 where
    pub statement : Statement V Com
    pub are_numbers : AreNumbersOf canonical p statement
    pub accepts : StarkAccepts S statement proof c
    pub state : let begun = drawn S.fields S.moves statement proof c in
        IsLastState S statement proof begun.zeta begun.state last

  -- the numbers are those of a statement of which the verifier refuses the proof for this reason,
  -- without a move where what it is given is refused; memory aside, the proof isn't accepted then
  pub record IsRefusedFor (e : VerificationError Error) : Type 0 where
    pub statement : Statement V Com
    pub are_numbers : AreNumbersOf canonical p statement
    pub stands : StarkFault S statement proof c e
    pub fails : e ≢ fault.OutOfMemory
        → e ≢ fault.InvalidOpeningArgument S.scheme.out_of_memory
        → ¬ StarkAccepts S statement proof c
    pub unmoved : ¬ ((log : ℕ)
        × IsReady S.fields.two_adicity S.fields.dimension S.zk statement proof log)
        → last ≡ c

  -- why the proof isn't accepted; refused numbers leave the challenger as it was
  abbrev pub IsRefusedOf : (order : ℕ) → PlainVerificationError Error → Type 0
  IsRefusedOf order (plain.Air f) = (last ≡ c) × FormFault order canonical p.air f
  IsRefusedOf order (plain.Element f) = (last ≡ c) × NumberFault order p f
  IsRefusedOf order (plain.Refused e) = IsRefusedFor e
