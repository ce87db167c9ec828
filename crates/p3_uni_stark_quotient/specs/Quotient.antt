-- The quotient's values on a coset.
use Rattle.std.specs.Prelude.{ℕ, ◌^◌, List, map}
use Rattle.algebra.specs.Field.{FieldOps}
use Rattle.algebra.specs.Polynomial.{tabulate}
use Rattle.p3_field_core.specs.Coset.{coset_point}
use Rattle.stark_algebra.specs.Selectors.{zerofier}
use Rattle.p3_air.specs.declared.air.Air.{Air}
use Rattle.p3_air.specs.Nodes.{Entries}
use Rattle.p3_air_laws.specs.Composition.{folded}
use Rattle.p3_uni_stark_quotient.specs.Given.{OnCoset, entries_on}

-- entries over the extension
abbrev pub lifted_entries : {V A : Type 0} → (lift : V → A) → Entries V V → Entries V A
lifted_entries lift entries = record {
  local = map lift entries.local;
  next = map lift entries.next;
  preprocessed = map lift entries.preprocessed;
  preprocessed_next = map lift entries.preprocessed_next;
  public_values = entries.public_values;
  periodic = map lift entries.periodic;
}

module _ {V A : Type 0} (F : FieldOps V) (K : FieldOps A) (lift : V → A) (air : Air V) (g : V)
    (n : ℕ) (alpha : A) where
  -- where constraints see these entries at the point `x` of the base field: their sum by powers of
  -- `alpha`, over the value of the polynomial that vanishes on the powers of `g`, of which there
  -- are `n`
  abbrev pub quotient_on_row : (entries : Entries V V) (x : V) → A
  quotient_on_row entries x = K.mul
      (folded K lift F.zero air (lift g) n (lifted_entries lift entries) alpha (lift x))
      (K.inv (zerofier K n (lift x)))

  -- that at each of the `2^m` points of the coset of `shift`, of which `step` lead from one row of
  -- the trace to the next
  abbrev pub quotient_on_coset : (given : OnCoset V) (w shift : V) (step m : ℕ) → List A
  quotient_on_coset given w shift step m = tabulate (2 ^ m) (λ i.
      quotient_on_row (entries_on given step i) (coset_point F w shift i))
