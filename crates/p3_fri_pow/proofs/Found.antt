-- Witnesses that a search gives.
use Rattle.std.proofs.Common.{◌≡◌, ◌≢◌, ℕ, ◌==◌, Bool, true, false, if◌then◌else◌, Option, Some}
use Rattle.std.proofs.Common.{None, IsSome, unwrap_or, refl, sym, ap, ◌∙◌, rules}
use Rattle.std.proofs.lemmas.Bool.Decides.{nat_tests}
use Rattle.p3_fri_pow.specs.Pow.{found_witness, sent_witness}

found_some : {W : Type 0} (zero : W) (w : Option W) → IsSome w → Some (unwrap_or w zero) ≡ w
found_some zero (Some w) some = refl
found_some zero None some = absurd cc

sent_by : {W : Type 0} (none : Bool) (zero : W) (solution w : Option W)
    → w ≡ (if none then None else solution) → (none ≡ false → IsSome w)
    → (if none then Some zero else solution) ≡ Some (unwrap_or w zero)
sent_by true zero solution w is some = ap (λ v. Some (unwrap_or v zero)) (sym is)
sent_by false zero solution w is some = sym is ∙ sym (found_some zero w (some refl))

not_zero : (bits : ℕ) → (bits == 0) ≡ false → bits ≢ 0
not_zero bits is = search (rules, nat_tests)

-- what a call found is what is sent
pub sent_is : {C W : Type 0} (zero : W) (solution : C → ℕ → Option W) (c : C) (bits : ℕ) (w : Option W)
    → w ≡ found_witness solution c bits → (bits ≢ 0 → IsSome w)
    → sent_witness zero solution c bits ≡ Some (unwrap_or w zero)
sent_is zero solution c bits w is some =
    sent_by (bits == 0) zero (solution c bits) w is (λ none. some (not_zero bits none))

-- at no bits zero is sent
pub sent_zero : {C W : Type 0} (zero : W) (solution : C → ℕ → Option W) (c : C) (bits : ℕ)
    (witness : W) → sent_witness zero solution c bits ≡ Some witness → bits ≡ 0 → witness ≡ zero
sent_zero zero solution c bits witness sent none =
    let shown : Some zero ≡ Some witness =
    ap (λ b. sent_witness zero solution c b) (sym none) ∙ sent in
    cc
