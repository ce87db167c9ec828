-- Numbers that are to be those of elements, and why they aren't.
use Rattle.std.specs.Prelude.{◌≡◌, ◌≤◌, ⊤, ℕ, List, map}
use Rattle.std.specs.List.{HoldsAt}
use Rattle.algebra.specs.Nested.{lists}
use Rattle.p3_air.specs.Satisfied.{Assigned}
use Rattle.p3_air_plain.specs.declared.elements.OwnedAssignment.{OwnedAssignment}
use Rattle.p3_air_plain.specs.declared.error.ElementError.{ElementError}
use Rattle.p3_air_plain.specs.declared.error.ElementError.TheVariants.{OutOfRange, OutOfMemory}
use Rattle.p3_air_plain.specs.declared.error.Part.{Part}
use Rattle.p3_air_plain.specs.declared.error.Part.TheVariants as part

-- as lists
abbrev pub owned_assigned : {V : Type 0} → OwnedAssignment V → Assigned V
owned_assigned owned = record {
  trace = lists owned.trace.items;
  preprocessed = lists owned.preprocessed.items;
  public_values = owned.public_values.items;
  periodic = lists owned.periodic.items;
}

-- the numbers of what a constraint system is held against
abbrev pub assigned_numbers : {V : Type 0} → (canonical : V → ℕ) → Assigned V → Assigned ℕ
assigned_numbers canonical given = record {
  trace = map (map canonical) given.trace;
  preprocessed = map (map canonical) given.preprocessed;
  public_values = map canonical given.public_values;
  periodic = map (map canonical) given.periodic;
}

module _ (order : ℕ) where
  -- entry `entry` of the list isn't below the order
  abbrev pub IsTooLargeAt : (entry : ℕ) → List ℕ → Type 0
  IsTooLargeAt entry numbers = HoldsAt (λ number. order ≤ number) numbers entry

  -- why a list is refused, which is row `row` of a part
  abbrev pub ListFault : Part → (row : ℕ) → List ℕ → ElementError → Type 0
  ListFault p row numbers (OutOfRange q at entry) =
      (q ≡ p) × (at ≡ row) × IsTooLargeAt entry numbers
  ListFault p row numbers OutOfMemory = ⊤

  -- why rows are refused, which are a part
  abbrev pub RowsFault : Part → List (List ℕ) → ElementError → Type 0
  RowsFault p rows (OutOfRange q at entry) = (q ≡ p) × HoldsAt (IsTooLargeAt entry) rows at
  RowsFault p rows OutOfMemory = ⊤

  -- entry `entry` of row `at` of a part isn't below the order
  abbrev pub PartFault : Assigned ℕ → (at entry : ℕ) → Part → Type 0
  PartFault given at entry part.Trace = HoldsAt (IsTooLargeAt entry) given.trace at
  PartFault given at entry part.Preprocessed = HoldsAt (IsTooLargeAt entry) given.preprocessed at
  PartFault given at entry part.PublicValues =
      (at ≡ 0) × IsTooLargeAt entry given.public_values
  PartFault given at entry part.Periodic = HoldsAt (IsTooLargeAt entry) given.periodic at

  -- why what a constraint system is to be held against is refused
  abbrev pub AssignedFault : Assigned ℕ → ElementError → Type 0
  AssignedFault given (OutOfRange p at entry) = PartFault given at entry p
  AssignedFault given OutOfMemory = ⊤
