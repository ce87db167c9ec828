-- When a trace of numbers satisfies a constraint system in its plain form, and why it doesn't.
use Rattle.std.specs.Prelude.{◌≡◌, ⊤, ℕ}
use Rattle.algebra.specs.Field.{FieldOps}
use Rattle.p3_air.specs.declared.air.Air.{Air}
use Rattle.p3_air.specs.declared.error.TraceError.{TraceError}
use Rattle.p3_air.specs.Satisfied.{Assigned, IsSatisfied}
use Rattle.p3_air.specs.Shapes.{TraceFault}
use Rattle.p3_air.specs.WellFormed.{IsWellFormed}
use Rattle.p3_air_plain.specs.declared.error.PlainTraceError.{PlainTraceError}
use Rattle.p3_air_plain.specs.declared.error.PlainTraceError.TheVariants as fault
use Rattle.p3_air_plain.specs.declared.forms.PlainAir.{PlainAir}
use Rattle.p3_air_plain.specs.Elements.{assigned_numbers, AssignedFault}
use Rattle.p3_air_plain.specs.Faults.{FormFault}
use Rattle.p3_air_plain.specs.Forms.{IsFormOf}

module _ {V : Type 0} (K : FieldOps V) (order : ℕ) (canonical : V → ℕ) (form : PlainAir)
    (numbers : Assigned ℕ) where
  -- the form is that of a system, the numbers are those of a trace and what goes with it, and these
  -- satisfy the system
  pub record IsSatisfiedIn : Type 0 where
    pub air : Air V
    pub is_form : IsFormOf canonical air form
    pub given : Assigned V
    pub are_numbers : assigned_numbers canonical given ≡ numbers
    pub satisfied : IsSatisfied K air given

  -- they are those of a well-formed system and of a trace that is refused for this reason
  pub record IsUnsatisfiedIn (f : TraceError) : Type 0 where
    pub air : Air V
    pub is_form : IsFormOf canonical air form
    pub well_formed : IsWellFormed air
    pub given : Assigned V
    pub are_numbers : assigned_numbers canonical given ≡ numbers
    pub stands : TraceFault K air given f

  -- why a trace of numbers is refused
  abbrev pub PlainTraceFault : PlainTraceError → Type 0
  PlainTraceFault (fault.Air f) = FormFault order canonical form f
  PlainTraceFault (fault.Element f) = AssignedFault order numbers f
  PlainTraceFault (fault.Trace f) = IsUnsatisfiedIn f
