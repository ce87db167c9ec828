-- What a scheme stands on: a prime field, an extension of it, and SHA-256.
use Rattle.std.specs.Prelude.{ℕ, List}
use Rattle.std.specs.declared.vec.Vec.{Vec}
use Rattle.algebra.specs.Nested.{lists}
use Rattle.p3_challenger_core.specs.Run.{Moves, moves}
use Rattle.p3_challenger_sha256.specs.declared.sha256_challenger.Sha256Challenger.{Sha256Challenger}
use Rattle.p3_challenger_sha256.specs.Sha256.{absorbed, element_observed, element_sampled}
use Rattle.p3_challenger_sha256.specs.Sha256.{bits_sampled}
use Rattle.p3_mmcs.specs.Tree.{Opens}
use Rattle.p3_fri_relation.specs.Setting.{Fields, Opening, Setting}
use Rattle.p3_fri_opening_verifier.specs.Accepted.{two_adic}
use Rattle.fri_statement.specs.Numbers.{PrimeFields}

-- the challenger's moves
abbrev pub sha256_moves : {F E : Type 0} → PrimeFields F E
    → Moves (Sha256Challenger F) F E (List ℕ)
sha256_moves f = moves (element_observed f.order f.canonical) absorbed
    (element_sampled f.order f.base) f.of_coefficients f.degree bits_sampled

-- both fields: what the relation asks of them, the numbers of elements, and by which bytes trees
-- hash them
pub record SchemeFields (F E : Type 0) : Type 0 where
  pub relation : Fields F E
  -- how many elements the prime field has, and the one number below of which each is the multiple
  -- of one
  pub order : ℕ
  pub canonical : F → ℕ
  pub of_coefficients : List F → E
  pub bytes : F → List ℕ
  pub extension_bytes : E → List ℕ

-- the same, as a statement knows them
abbrev pub prime_fields : {F E : Type 0} → SchemeFields F E → PrimeFields F E
prime_fields f = record {
  base = f.relation.base;
  order = f.order;
  canonical = f.canonical;
  degree = f.relation.degree;
  coefficients = f.relation.coefficients;
  of_coefficients = f.of_coefficients;
}

module _ {X Y : Type 0} where
  -- rows and their paths belong to the root of a tree over SHA-256, where elements have these bytes
  abbrev pub opens_tree : {T : Type 0} → (bytes : T → List ℕ)
      → Opening T (List ℕ) (Vec (Vec (List ℕ) X) Y)
  opens_tree bytes commitment dims indices sets paths =
      Opens bytes commitment dims indices sets (lists paths.items)

  -- paths of digests show what is opened, of the rounds and of the inputs
  abbrev pub sha256_setting : {F E : Type 0} → SchemeFields F E
      → Setting F E (Sha256Challenger F)
      (List ℕ) (Vec (Vec (List ℕ) X) Y) (List ℕ) (Vec (Vec (List ℕ) X) Y)
  sha256_setting f = two_adic f.relation (sha256_moves (prime_fields f))
      (opens_tree f.bytes) (opens_tree f.extension_bytes)
