-- Schemes that accept alike, and what acceptance asks for.
use Rattle.std.specs.Prelude.{◌≡◌, List, Option, ℕ}
use Rattle.std.proofs.Common.{refl, sym, subst}
use Rattle.p3_pcs.specs.Claims.{Claim}
use Rattle.p3_pcs.specs.Scheme.{Scheme}

-- what the new scheme accepts the old one accepted, and a proof ends in the same state
pub record AcceptAlike {E C V Dom Com D Proof Error ProverError : Type 0}
    (old new : Scheme E C V Dom Com D Proof Error ProverError) : Type 0 where
  pub accepts : (index : Option ℕ) (c : C) (claims : List (Claim E Com Dom)) (proof : Proof)
      → new.Accepts index c claims proof → old.Accepts index c claims proof
  pub states : (index : Option ℕ) (c : C) (claims : List (Claim E Com Dom)) (proof : Proof)
      → new.last_state index c claims proof ≡ old.last_state index c claims proof

-- so does a scheme that stays as it is
pub still_alike : {E C V Dom Com D Proof Error ProverError : Type 0}
    (r : Scheme E C V Dom Com D Proof Error ProverError) → AcceptAlike r r
still_alike r = record {
  accepts = λ index c claims proof h. h;
  states = λ index c claims proof. refl;
}

-- and one that equals it
pub same_alike : {S E C V Dom Com D Proof Error ProverError : Type 0} (old new : S) → new ≡ old
    → (rules : S → Scheme E C V Dom Com D Proof Error ProverError)
    → AcceptAlike (rules old) (rules new)
same_alike old new same rules =
    subst (λ s. AcceptAlike (rules old) (rules s)) (sym same) (still_alike (rules old))

-- whatever the scheme accepts, this holds
abbrev pub AcceptsOnlyIf : {E C V Dom Com D Proof Error ProverError : Type 0}
    → Scheme E C V Dom Com D Proof Error ProverError → Type 0 → Type 0
AcceptsOnlyIf {E} {C} {V} {Dom} {Com} {D} {Proof} r Holds =
    (index : Option ℕ) (c : C) (claims : List (Claim E Com Dom)) (proof : Proof)
    → r.Accepts index c claims proof → Holds
