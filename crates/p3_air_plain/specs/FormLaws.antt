-- What a plain form determines: the constraint system.
use Rattle.std.specs.Prelude.{ℕ}
use Rattle.p3_air.specs.Built.{IsSame}
use Rattle.p3_air.specs.declared.air.Air.{Air}
use Rattle.p3_air_plain.specs.declared.forms.PlainAir.{PlainAir}
use Rattle.p3_air_plain.specs.Forms.{IsFormOf}

-- systems of one form are the same
abbrev pub IsDeterminedAir : {V : Type 0} → (canonical : V → ℕ) → PlainAir → (a b : Air V) → Type 0
IsDeterminedAir canonical form a b =
    IsFormOf canonical a form → IsFormOf canonical b form → IsSame a b
