-- When opened values agree with the quotient's.
use Rattle.std.specs.Prelude.{◌≡◌, ℕ, List}
use Rattle.algebra.specs.Field.{FieldOps}
use Rattle.stark_algebra.specs.Selectors.{zerofier}
use Rattle.p3_air.specs.declared.air.Air.{Air}
use Rattle.p3_air.specs.Nodes.{Entries}
use Rattle.p3_air_laws.specs.Composition.{folded}

-- where constraints see these entries at `z`: their sum by powers of `alpha`, over the value of the
-- polynomial that vanishes on the powers of `g`, of which there are `n`, is `quotient`
abbrev pub IsQuotientOf : {V A : Type 0} (K : FieldOps A) (lift : V → A) (nothing : V) (air : Air V)
    (g : A) (n : ℕ) (entries : Entries V A) (alpha z quotient : A) → Type 0
IsQuotientOf K lift nothing air g n entries alpha z quotient =
    K.mul (folded K lift nothing air g n entries alpha z) (K.inv (zerofier K n z)) ≡ quotient
