-- Numbers that are those of coefficients.
use Rattle.std.specs.Prelude.{ℕ, List, map, length, ◌≡◌, ◌<◌, ◌≤◌}
use Rattle.std.specs.List.{All, Any}
use Rattle.std.proofs.Common.{subst, sym, arith, slice_index_or}
use Rattle.std.proofs.lemmas.List.{map-id}
use Rattle.std.proofs.lemmas.List.Elements.{All-map}
use Rattle.p3_fri_plain.specs.declared.error.PlainProofError.TheVariants.{
  ElementOutOfRange,
  ElementLength,
  DigestLength,
  OutOfMemory,
}
use Rattle.p3_fri_plain.specs.Faults.{IsFaultless, ElementFault, ExtensionFault}

-- as many numbers as the degree, of which none shows a fault
pub extension_faultless : (order degree : ℕ) (ns : List ℕ) → length ns ≡ degree
    → IsFaultless (λ error. Any (ElementFault order error)) (map (λ n. n) ns)
    → IsFaultless (ExtensionFault order degree) ns
extension_faultless order degree ns counted none ElementOutOfRange =
    λ fault. none ElementOutOfRange
    (subst (λ ms. Any (λ n. order ≤ n) ms) (sym (map-id ns)) fault)
extension_faultless order degree ns counted none ElementLength = λ fault. fault counted
extension_faultless order degree ns counted none DigestLength = λ fault. fault
extension_faultless order degree ns counted none OutOfMemory = λ fault. fault

-- the numbers of as many elements as the degree
pub numbers_faultless : {F : Type 0} (order degree : ℕ) (canonical : F → ℕ)
    → ((x : F) → canonical x < order) → (xs : List F) → length (map canonical xs) ≡ degree
    → IsFaultless (ExtensionFault order degree) (map canonical xs)
numbers_faultless order degree canonical low xs counted ElementOutOfRange =
    λ (k, n, below, is, bad).
    let all : All (λ m. m < order) (map canonical xs)
    = All-map (λ m. m < order) canonical xs (λ j d within. low (slice_index_or xs j d)) in
    let lt : n < order = subst (λ m. m < order) is (all k n below) in
    omega arith
numbers_faultless order degree canonical low xs counted ElementLength = λ fault. fault counted
numbers_faultless order degree canonical low xs counted DigestLength = λ fault. fault
numbers_faultless order degree canonical low xs counted OutOfMemory = λ fault. fault
