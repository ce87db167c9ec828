-- Tables of periodic columns, by the sizes of both domains.
use Rattle.std.proofs.Common.{◌≡◌, ◌≤◌, ℕ, ◌+◌, ◌-◌, ◌/◌, ◌^◌, List, refl, sym, ap, subst}
use Rattle.std.proofs.Common.{◌∙◌, arith}
use Rattle.std.proofs.lemmas.Nat.{pow-add, pow_pos}
use Rattle.std.proofs.Math.Nat.{mul-div_cancel}
use Rattle.std.specs.Prelude.{Result, IfOk}
use Rattle.std.specs.declared.vec.Vec.{Vec}
use Rattle.p3_dft.proofs.Batches.{exponent_within}
use Rattle.p3_periodic.specs.Tables.{AreTabulated}
use Rattle.p3_periodic.specs.Views.{table_rows}
use Rattle.p3_periodic.specs.declared.table.PeriodicLdeTable.{PeriodicLdeTable}

-- a power of two divided by a lower one
divided : (k b : ℕ) → 2 ^ (k + b) / 2 ^ b ≡ 2 ^ k
divided k b = ap (λ n. n / 2 ^ b) (pow-add 2 k b) ∙ mul-div_cancel (2 ^ k) (pow_pos b)

-- the quotient of two powers of two, of which the first is no larger
sizes_divided : (n size : ℕ) → 2 ^ n ≤ 2 ^ size → 2 ^ (size - n) ≡ 2 ^ size / 2 ^ n
sizes_divided n size larger =
    let within : n ≤ size = exponent_within n size (2 ^ n) refl larger in
    let whole : size - n + n ≡ size = omega arith in
    sym (divided (size - n) n) ∙ ap (λ k. 2 ^ k / 2 ^ n) whole

-- a domain is as many times as large as the trace's as its size divided by the trace's says
pub tabulated_by_sizes : {T A E : Type 0} (n size : ℕ) → 2 ^ n ≤ 2 ^ size
    → (columns : List (Vec T A)) (IsValue : ℕ → Vec T A → T → Type 0)
    (result : Result (PeriodicLdeTable T) E)
    → IfOk result (λ table. AreTabulated columns (2 ^ (size - n)) IsValue (table_rows table))
    → IfOk result (λ table. AreTabulated columns (2 ^ size / 2 ^ n) IsValue (table_rows table))
tabulated_by_sizes {T = T} n size larger columns IsValue result known =
    subst (λ (b : ℕ). IfOk result (λ table. AreTabulated columns b IsValue (table_rows table)))
    (sizes_divided n size larger) known
