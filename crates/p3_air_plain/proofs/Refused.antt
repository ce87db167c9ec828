-- Why a plain form is refused, by why the system of it is.
use Rattle.std.proofs.Common.{ℕ}
use Rattle.p3_air.specs.declared.air.Air.{Air}
use Rattle.p3_air.specs.WellFormed.{IsWellFormed}
use Rattle.p3_air_plain.specs.declared.error.PlainAirError.{PlainAirError}
use Rattle.p3_air_plain.specs.declared.error.PlainAirError.TheVariants as fault
use Rattle.p3_air_plain.specs.declared.forms.PlainAir.{PlainAir}
use Rattle.p3_air_plain.specs.Faults.{DegreesFault, FormFault}
use Rattle.p3_air_plain.specs.Forms.{IsFormOf}

pub degrees_refused : {V : Type 0} (order : ℕ) (canonical : V → ℕ) (form : PlainAir) (air : Air V)
    → IsFormOf canonical air form → IsWellFormed air → (f : PlainAirError) → DegreesFault air f
    → FormFault order canonical form f
degrees_refused order canonical form air is_form well_formed (fault.ConstantOutOfRange at) h =
    absurd h
degrees_refused order canonical form air is_form well_formed (fault.Malformed f) h = absurd h
degrees_refused order canonical form air is_form well_formed fault.DegreeTooLarge h =
    record { air = air; is_form = is_form; well_formed = well_formed; large = h }
degrees_refused order canonical form air is_form well_formed fault.OutOfMemory h = tt
