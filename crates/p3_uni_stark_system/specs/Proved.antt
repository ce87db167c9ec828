-- Of what a proof is made, and why there is none.
use Rattle.std.specs.Prelude.{◌≡◌, ◌⊎◌, ⊤, ℕ, ◌^◌, Bool, List, length, Option}
use Rattle.algebra.specs.Field.{FieldOps}
use Rattle.algebra.specs.Nested.{lists}
use Rattle.p3_air.specs.declared.air.Air.{Air}
use Rattle.p3_air.specs.Satisfied.{Assigned}
use Rattle.p3_air.specs.Shapes.{TraceFault}
use Rattle.p3_air_plain.specs.Elements.{assigned_numbers}
use Rattle.p3_air_plain.specs.Elements as elements
use Rattle.p3_air_plain.specs.Faults.{FormFault}
use Rattle.p3_air_plain.specs.Forms.{IsFormOf}
use Rattle.p3_air_plain.specs.declared.forms.PlainAir.{PlainAir}
use Rattle.p3_challenger_core.specs.Run.{Moves}
use Rattle.p3_matrix.specs.declared.dense.RowMajorMatrix.{RowMajorMatrix}
use Rattle.p3_matrix.specs.Matrix.{rows as matrix_rows}
use Rattle.p3_pcs.specs.Requests.{Held}
use Rattle.p3_pcs.specs.Scheme.{Scheme}
use Rattle.p3_stark_pcs.specs.Scheme.{StarkScheme}
use Rattle.p3_uni_stark_phases.specs.Refusals.{DegreeRefusal}
use Rattle.p3_uni_stark_phases.specs.declared.error.ProvingError.{ProvingError}
use Rattle.p3_uni_stark_verifier.specs.declared.proof.Proof.{Proof}
use Rattle.p3_uni_stark_verifier.specs.declared.proof.Statement.{Statement}
use Rattle.p3_uni_stark_verifier.specs.Relation.{drawn, IsLastState, StarkAccepts}
use Rattle.p3_uni_stark_verifier.specs.Setting.{StarkFields, StarkSetting}
use Rattle.p3_uni_stark_prover.specs.Provable.{FitsField}
use Rattle.p3_uni_stark_prover.specs.Refused.{PreparationRefusal, CommitRefusal, IsRefusedAfter}
use Rattle.p3_uni_stark_system.specs.Keys.{IsKeyOf, AreHeld, ColumnsFault}
use Rattle.p3_uni_stark_system.specs.declared.error.SystemProvingError.{SystemProvingError}
use Rattle.p3_uni_stark_system.specs.declared.error.SystemProvingError.TheVariants as fault

-- the statement is that of a system with these elements
pub record IsStatementOf {V Com : Type 0} (air : Air V) (given : Assigned V)
    (statement : Statement V Com) : Type 0 where
  pub air_is : statement.air.now ≡ air
  pub values_are : statement.public_values.now ≡ given.public_values
  pub periodic_are : lists statement.periodic.now ≡ given.periodic

module _ {V E C Com Dom D Opening Error ProverError : Type 0}
    (S : StarkSetting V E C Com Dom D Opening Error ProverError) (air : Air V)
    (given : Assigned V) (proof : Proof E Com Opening) (c last : C) where
  -- the proof is accepted of the statement of this system with these elements, and with the key of
  -- its preprocessed columns, and `last` is the state in which the verifier ends
  pub record IsProvedOf : Type 0 where
    pub statement : Statement V Com
    pub is_of : IsStatementOf air given statement
    pub is_key : IsKeyOf S.scheme S.zk S.IsSubgroup air.layout.preprocessed_width
        given.preprocessed statement.preprocessed
    pub accepts : StarkAccepts S statement proof c
    pub state : let begun = drawn S.fields S.moves statement proof c in
        IsLastState S statement proof begun.zeta begun.state last

module _ {State V E C Com Dom D Opening Error ProverError : Type 0} (fields : StarkFields V E)
    (coefficients : E → List V) (m : Moves C V E Com) (shift : Dom → V) (log_size : Dom → ℕ)
    (zk : Bool) (IsSubgroup : ℕ → Dom → Type 0)
    (rules : State → Scheme E C V Dom Com D Opening Error ProverError)
    (stark_rules : State → StarkScheme E V Dom D ProverError) (embed : V → E)
    (point : Dom → ℕ → V) (recombined : List Dom → List (List E) → E → List E)
    (chunk_polynomials : Dom × RowMajorMatrix V → Held E) (EvaluationRefuses : ProverError → Type 0)
    (IsBefore : State → Type 0) (after : State) (c : C) (air : Air V) (given : Assigned V) where
  -- once the preprocessed columns are committed to, the prover refuses the statement of this system
  -- with these elements and their key, and leaves the scheme in the state `after`
  pub record IsUnproved (e : ProvingError ProverError) : Type 0 where
    pub statement : Statement V Com
    pub is_of : IsStatementOf air given statement
    pub log_height : ℕ
    pub height : length given.trace ≡ 2 ^ log_height
    pub trace : RowMajorMatrix V
    pub are_rows : matrix_rows trace ≡ given.trace
    pub preprocessed : Option D
    pub before : State
    pub is_before : IsBefore before
    pub are_held : AreHeld (rules before) zk IsSubgroup (stark_rules before) log_height
        air.layout.preprocessed_width given.preprocessed statement.preprocessed preprocessed
    pub refusal : PreparationRefusal fields statement log_height e
        ⊎ (CommitRefusal fields shift log_size zk (rules before) (stark_rules before)
        EvaluationRefuses log_height trace e
        ⊎ IsRefusedAfter fields coefficients m shift log_size zk (rules after) (stark_rules after)
        embed point recombined chunk_polynomials statement log_height trace preprocessed c e)

-- over a scheme that has this for a STARK, on these subgroups
module _ {V E Dom D ProverError : Type 0} (t : StarkScheme E V Dom D ProverError) (zk : Bool)
    (IsSubgroup : ℕ → Dom → Type 0) where
  -- why there is no proof of elements that satisfy a system, for which there is room, where the
  -- prover refuses them for such a reason
  abbrev pub ElementsFault : (Unproved : ProvingError ProverError → Type 0) → Assigned V
      → SystemProvingError ProverError → Type 0
  ElementsFault Unproved given (fault.Preprocessing e) =
      (k : ℕ) × ColumnsFault t zk IsSubgroup k given.preprocessed e
  ElementsFault Unproved given (fault.Proving e) = Unproved e
  ElementsFault Unproved given fault.OutOfMemory = ⊤
  ElementsFault Unproved given _ = ⊥

  module _ (K : FieldOps V) (two_adicity log_blowup : ℕ) where
    -- why there is none of elements and a well-formed system
    abbrev pub AssignedFault : (Unproved : ProvingError ProverError → Type 0) → Air V → Assigned V
        → SystemProvingError ProverError → Type 0
    AssignedFault Unproved air given (fault.Trace f) = TraceFault K air given f
    AssignedFault Unproved air given fault.NoColumns = air.layout.width ≡ 0
    AssignedFault Unproved air given (fault.TraceHeight height) =
        (height ≡ length given.trace) × ¬ FitsField two_adicity log_blowup zk air height
    AssignedFault Unproved air given (fault.Proving e) = DegreeRefusal air e ⊎ Unproved e
    AssignedFault Unproved air given (fault.Preprocessing e) =
        (k : ℕ) × ColumnsFault t zk IsSubgroup k given.preprocessed e
    AssignedFault Unproved air given fault.OutOfMemory = ⊤
    AssignedFault Unproved air given _ = ⊥

    module _ (order : ℕ) (canonical : V → ℕ)
        (Unproved : Air V → Assigned V → ProvingError ProverError → Type 0) (form : PlainAir)
        (numbers : Assigned ℕ) where
      -- they are those of a well-formed system and of elements of which there is none for this
      -- reason
      pub record AreUnproved (e : SystemProvingError ProverError) : Type 0 where
        pub air : Air V
        pub is_form : IsFormOf canonical air form
        pub given : Assigned V
        pub are_numbers : assigned_numbers canonical given ≡ numbers
        pub refused : AssignedFault (Unproved air given) air given e

      -- why there is no proof of numbers
      abbrev pub ProvingFault : SystemProvingError ProverError → Type 0
      ProvingFault (fault.Air f) = FormFault order canonical form f
      ProvingFault (fault.Element f) = elements.AssignedFault order numbers f
      ProvingFault e = AreUnproved e
