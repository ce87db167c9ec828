-- The least number that passes a test, and the search for it.
use Rattle.std.proofs.Common.{◌≡◌, ℕ, zero, suc, ◌+◌, ◌<◌, ◌⊎◌, inl, inr, Bool, true, false, Some}
use Rattle.std.proofs.Common.{None, refl, ap, sym, ◌∙◌, arith}
use Rattle.std.specs.Option.{option_map}
use Rattle.algebra.specs.Field.{FieldOps, multiple}
use Rattle.p3_challenger_sha256.specs.declared.sha256_challenger.Sha256Challenger.{Sha256Challenger}
use Rattle.p3_challenger_core.specs.Run.{grind_attempt, Passes}
use Rattle.p3_challenger_sha256.specs.Sha256.{element_observed, bits_sampled, least_below}
use Rattle.p3_challenger_sha256.specs.Sha256.{least_witness}

pub least_below-none : (n : ℕ) (test : ℕ → Bool) → ((k : ℕ) → k < n → test k ≡ false)
    → least_below n test ≡ None
unfolding least_below
least_below-none zero test fails = refl
least_below-none (suc n) test fails =
    rw (least_below-none n test (λ k l. fails k (omega (arith, l))), fails n (omega arith)) refl

pub least_below-found : (n : ℕ) (test : ℕ → Bool) (i : ℕ) → i < n
    → ((k : ℕ) → k < i → test k ≡ false) → test i ≡ true → least_below n test ≡ Some i
unfolding least_below
least_below-found zero test i less fails passed = absurd (omega (arith, less))
least_below-found (suc n) test i less fails passed =
    let cases : (i < n) ⊎ (i ≡ n) = grind (arith, less) in
    elim cases [
      | inl below ↦ rw (least_below-found n test i below fails passed) refl
      | inr e ↦ rw (
        least_below-none n test (λ k l.
            fails k (omega (arith, l, e))),
        ap test (sym e) ∙ passed,
      ) (ap Some (sym e))
    ]

module _ {F : Type 0} (order : ℕ) (canonical : F → ℕ) (ops : FieldOps F) where
  -- whether the witness passes
  abbrev pub passes : Sha256Challenger F → ℕ → F → Bool
  passes c bits w =
      (grind_attempt (element_observed order canonical) bits_sampled c bits w).value

  -- each element below `n` fails
  abbrev pub FailsBelow : Sha256Challenger F → ℕ → ℕ → Type 0
  FailsBelow c bits n = (k : ℕ) → k < n → passes c bits (multiple ops k) ≡ false

  -- the next element fails too
  pub fails_next : (c : Sha256Challenger F) (bits n : ℕ) (w : F) → w ≡ multiple ops n
      → FailsBelow c bits n → passes c bits w ≡ false → FailsBelow c bits (n + 1)
  fails_next c bits n w is fails failed k less =
      let cases : (k < n) ⊎ (k ≡ n) = grind (arith, less) in
      elim cases [
        | inl below ↦ fails k below
        | inr e ↦ ap (λ i. passes c bits (multiple ops i)) e ∙ ap (passes c bits) (sym is) ∙ failed
      ]

  pub fails_element : ((x : F) → multiple ops (canonical x) ≡ x) → (c : Sha256Challenger F)
      (bits n : ℕ) → FailsBelow c bits n → (v : F) → canonical v < n
      → ¬ Passes (element_observed order canonical) bits_sampled c bits v
  fails_element law c bits n fails v less passed =
      let f : false ≡ true = sym (fails (canonical v) less) ∙ ap (passes c bits) (law v) ∙ passed in
      cc

  -- at no bits the first element passes
  pub first_at_no_bits : (c : Sha256Challenger F) (bits n : ℕ) → bits ≡ 0 → FailsBelow c bits n
      → n ≡ 0
  first_at_no_bits c bits zero e fails = refl
  first_at_no_bits c bits (suc n) e fails =
      let f : true ≡ false = sym (ap (λ b.
      passes c b (multiple ops 0)) e) ∙ fails 0 (omega arith) in
      cc

  -- and the state stays
  pub state_at_no_bits : (c : Sha256Challenger F) (bits : ℕ) (w : F) → bits ≡ 0
      → (grind_attempt (element_observed order canonical) bits_sampled c bits w).state ≡ c
  state_at_no_bits c bits w e =
      ap (λ b. (grind_attempt (element_observed order canonical) bits_sampled c b w).state) e

  pub first_element : (n : ℕ) (w : F) → w ≡ multiple ops n → n ≡ 0 → w ≡ ops.zero
  unfolding multiple
  first_element n w is e = is ∙ ap (multiple ops) e

  pub least_witness-none : (c : Sha256Challenger F) (bits : ℕ) → FailsBelow c bits order
      → least_witness order canonical ops c bits ≡ None
  unfolding least_witness
  least_witness-none c bits fails = ap (λ o.
      option_map (multiple ops) o) (least_below-none order (λ k.
      passes c bits (multiple ops k)) fails)

  pub least_witness-found : (c : Sha256Challenger F) (bits n : ℕ) (w : F) → n < order
      → w ≡ multiple ops n → FailsBelow c bits n → passes c bits w ≡ true
      → least_witness order canonical ops c bits ≡ Some w
  unfolding least_witness
  least_witness-found c bits n w less is fails passed =
      ap (λ o. option_map (multiple ops) o) (least_below-found order (λ k.
      passes c bits (multiple ops k)) n less fails (ap (passes c bits) (sym is) ∙ passed))
      ∙ ap Some (sym is)
