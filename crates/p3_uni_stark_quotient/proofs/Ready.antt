-- What the quotient's values at all points come of, made ready.
use Rattle.std.proofs.Common.{◌≡◌, ℕ, ◌^◌, ◌≤◌, length, reverse, sym, subst, arith}
use Rattle.p3_air.specs.WellFormed.{IsWellFormed}
use Rattle.p3_uni_stark_quotient.specs.declared.rows.Prepared.{Prepared}
use Rattle.p3_uni_stark_quotient.specs.Given.{on_coset, FitsCoset}
use Rattle.p3_uni_stark_quotient.specs.Prepared.{IsReady}
use Rattle.p3_uni_stark_quotient.proofs.Entries.{power_at_most}

pub is_ready : {V A : Type 0} (prepared : Prepared V A) (m d : ℕ) → m ≤ 63 → d ≤ m
    → IsWellFormed prepared.air.now
    → FitsCoset prepared.air.now.layout (2 ^ m) (on_coset prepared.columns)
    → length prepared.selectors.now ≡ 2 ^ m → prepared.step ≡ 2 ^ d
    → prepared.reversed.now ≡ reverse prepared.air.now.constraints.items
    → length prepared.powers.now ≡ length prepared.reversed.now → IsReady prepared
is_ready prepared m d few within well fits long step reversed powers =
    let most = power_at_most m 63 few in
    let part = power_at_most d m within in
    record {
      well_formed = well;
      columns = subst (λ n. FitsCoset prepared.air.now.layout n (on_coset prepared.columns))
          (sym long) fits;
      room = omega (arith, long, most);
      step = omega (arith, long, step, part);
      reversed = reversed;
      powers = powers;
    }
