-- Why a plain form is refused.
use Rattle.std.specs.Prelude.{◌≡◌, ◌<◌, ◌≤◌, ⊤, ℕ, List, length, All, take}
use Rattle.std.specs.List.{HoldsAt}
use Rattle.p3_air.specs.declared.air.Air.{Air}
use Rattle.p3_air.specs.declared.error.AirError.{AirError}
use Rattle.p3_air.specs.declared.error.DegreeError.TheVariants as degree
use Rattle.p3_air.specs.Degrees.{DegreeFault}
use Rattle.p3_air.specs.WellFormed.{IsWellFormed, FirstFault}
use Rattle.p3_air_plain.specs.declared.error.PlainAirError.{PlainAirError}
use Rattle.p3_air_plain.specs.declared.error.PlainAirError.TheVariants as fault
use Rattle.p3_air_plain.specs.declared.forms.PlainAir.{PlainAir}
use Rattle.p3_air_plain.specs.declared.forms.PlainNode.{PlainNode}
use Rattle.p3_air_plain.specs.declared.forms.PlainNode.TheVariants.{Constant}
use Rattle.p3_air_plain.specs.Forms.{IsFormOf}

module _ (order : ℕ) where
  -- a constant is below the order
  abbrev pub IsInRange : PlainNode → Type 0
  IsInRange (Constant number) = number < order
  IsInRange _ = ⊤

  -- it is a constant that isn't
  abbrev pub IsOutOfRange : PlainNode → Type 0
  IsOutOfRange (Constant number) = order ≤ number
  IsOutOfRange _ = ⊥

  -- node number `at` is the first such constant
  pub record IsFirstOutOfRange (nodes : List PlainNode) (at : ℕ) : Type 0 where
    pub within : at < length nodes
    pub before : All IsInRange (take at nodes)
    pub here : HoldsAt IsOutOfRange nodes at

  -- why nodes are refused
  abbrev pub NodesFault : List PlainNode → PlainAirError → Type 0
  NodesFault nodes (fault.ConstantOutOfRange at) = IsFirstOutOfRange nodes at
  NodesFault nodes fault.OutOfMemory = ⊤
  NodesFault nodes _ = ⊥

  module _ {V : Type 0} (canonical : V → ℕ) (form : PlainAir) where
    -- the form is that of a malformed system
    pub record IsMalformed (f : AirError) : Type 0 where
      pub air : Air V
      pub is_form : IsFormOf canonical air form
      pub first : FirstFault air f

    -- the form is that of a well-formed system, of which a degree is too large
    pub record HasLargeDegree : Type 0 where
      pub air : Air V
      pub is_form : IsFormOf canonical air form
      pub well_formed : IsWellFormed air
      pub large : DegreeFault air degree.TooLarge

    -- why the form is refused
    abbrev pub FormFault : PlainAirError → Type 0
    FormFault (fault.ConstantOutOfRange at) = IsFirstOutOfRange form.nodes.items at
    FormFault (fault.Malformed f) = IsMalformed f
    FormFault fault.DegreeTooLarge = HasLargeDegree
    FormFault fault.OutOfMemory = ⊤

-- why the degrees of a well-formed system are refused
abbrev pub DegreesFault : {V : Type 0} → Air V → PlainAirError → Type 0
DegreesFault air fault.DegreeTooLarge = DegreeFault air degree.TooLarge
DegreesFault air fault.OutOfMemory = ⊤
DegreesFault air _ = ⊥
